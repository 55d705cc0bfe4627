use Rattle.std.proofs.Common.{◌+◌, ◌<◌, length, sym, subst}
use Rattle.vc_model.specs.Standing.{CoreState}
use Rattle.vc_context.specs.Payloads.{handed_over}
use Rattle.vc_core.proofs.StepsOfACore.{call_keeps, call_steps, others_at}
use Rattle.vc_core.proofs.device.Core.call.Goals as goal

pub invariant_of-self : goal.invariant_of-self
invariant_of-self c =
    call_keeps c.self.inside.slots.items c.self.inside.list c.settle.new.self c.self.inside.steps c.args.slot c.index_mut-context.result.now
    c.answer-reply.new.self c.is_claimable-is_due.result
    (subst (λ (s : CoreState). c.args.slot < length s.slots) (sym c.self.view_is) c.requires.slot) c.index_mut-context.ensures.value
    c.is_claimable-is_due.ensures c.settle.ensures.settled c.steps_of.result c.args.call.now (handed_over c.args.call.now c.args.hold.now)
    c.answer-reply.result c.self.invariant c.answer-reply.ensures.answers c.answer-reply.ensures.step c.steps_of.ensures

pub returns-clause-step : goal.returns-clause-step
returns-clause-step c =
    call_steps c.self.inside.slots.items c.self.inside.list c.settle.new.self c.self.inside.steps c.args.slot c.index_mut-context.result.now
    c.answer-reply.new.self c.is_claimable-is_due.result
    (subst (λ (s : CoreState). c.args.slot < length s.slots) (sym c.self.view_is) c.requires.slot) c.index_mut-context.ensures.value
    c.is_claimable-is_due.ensures c.settle.ensures.settled c.self.inside.workers.items c.self.inside.shut c.args.self.now c.steps_of.result
    c.args.call.now c.args.hold.now c.answer-reply.result c.self.view_is c.answer-reply.ensures.answers c.steps_of.ensures

pub returns-clause-others : goal.returns-clause-others
returns-clause-others c k n =
    others_at c.self.inside.slots.items c.self.inside.list.waiting c.settle.new.self.waiting c.self.inside.workers.items c.self.inside.workers.items
    c.self.inside.shut c.self.inside.steps (c.self.inside.steps + c.steps_of.result) c.args.self.now c.args.slot k c.answer-reply.new.self
    c.self.view_is n
