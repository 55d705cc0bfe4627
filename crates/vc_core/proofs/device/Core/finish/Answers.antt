use Rattle.vc_core.proofs.StepsOfACore.{holds_at, finish_keeps, finish_steps, has_at, slot_within}
use Rattle.vc_core.proofs.device.Core.finish.Goals as goal

pub invariant_of-self : goal.invariant_of-self
invariant_of-self c =
    finish_keeps c.self.inside.slots.items c.self.inside.list c.settle.new.self c.self.inside.steps c.in-Some.slot c.index_mut-context.result.now
    c.finish.new.self c.is_claimable-is_due.result
    (slot_within c.self.inside.slots.items c.self.inside.list.waiting c.self.inside.workers.items c.self.inside.shut c.self.inside.steps
    c.args.self.now c.args.worker c.in-Some.slot c.args.finished c.self.view_is
    (has_at c.self.inside.slots.items c.self.inside.list.waiting c.self.inside.workers.items c.self.inside.shut c.self.inside.steps c.args.self.now
    c.args.worker c.in-Some.slot c.index.result.now c.self.view_is c.requires.worker c.index.ensures c.in-Some.is)
    c.requires.job)
    c.index_mut-context.ensures.value c.is_claimable-is_due.ensures c.settle.ensures.settled c.self.invariant c.finish.ensures.step

pub returns-clause-step : goal.returns-clause-step
returns-clause-step c k back j b =
    finish_steps c.self.inside.slots.items c.self.inside.list c.settle.new.self c.self.inside.steps c.in-Some.slot c.index_mut-context.result.now
    c.finish.new.self c.is_claimable-is_due.result
    (slot_within c.self.inside.slots.items c.self.inside.list.waiting c.self.inside.workers.items c.self.inside.shut c.self.inside.steps
    c.args.self.now c.args.worker c.in-Some.slot c.args.finished c.self.view_is
    (has_at c.self.inside.slots.items c.self.inside.list.waiting c.self.inside.workers.items c.self.inside.shut c.self.inside.steps c.args.self.now
    c.args.worker c.in-Some.slot c.index.result.now c.self.view_is c.requires.worker c.index.ensures c.in-Some.is)
    c.requires.job)
    c.index_mut-context.ensures.value c.is_claimable-is_due.ensures c.settle.ensures.settled c.self.inside.workers.items c.self.inside.shut
    c.args.self.now c.args.worker k back c.args.finished c.self.view_is
    (has_at c.self.inside.slots.items c.self.inside.list.waiting c.self.inside.workers.items c.self.inside.shut c.self.inside.steps c.args.self.now
    c.args.worker c.in-Some.slot c.index.result.now c.self.view_is c.requires.worker c.index.ensures c.in-Some.is)
    j b c.finish.ensures.after

pub returns-clause-holds : goal.returns-clause-holds
returns-clause-holds c k hold f =
    holds_at c.self.inside.slots.items c.self.inside.list.waiting c.self.inside.workers.items c.self.inside.shut c.self.inside.steps c.args.self.now
    c.in-Some.slot c.index_mut-context.result.now c.finish.new.self k hold c.self.view_is
    (slot_within c.self.inside.slots.items c.self.inside.list.waiting c.self.inside.workers.items c.self.inside.shut c.self.inside.steps
    c.args.self.now c.args.worker c.in-Some.slot c.args.finished c.self.view_is
    (has_at c.self.inside.slots.items c.self.inside.list.waiting c.self.inside.workers.items c.self.inside.shut c.self.inside.steps c.args.self.now
    c.args.worker c.in-Some.slot c.index.result.now c.self.view_is c.requires.worker c.index.ensures c.in-Some.is)
    c.requires.job)
    c.index_mut-context.ensures.value c.finish.ensures.holds f
