use Rattle.std.proofs.Common.{◌+◌}
use Rattle.vc_core.proofs.StepsOfACore.{claim_keeps, claim_steps, slot_below, worker_has, holds_at}
use Rattle.vc_core.proofs.device.Core.claim.Goals as goal

pub invariant_of-self-2 : goal.invariant_of-self-2
invariant_of-self-2 c =
    claim_keeps c.self.inside.slots.items c.self.inside.list c.take_front.new.self c.self.inside.steps c.in_ok-slot.slot
    c.index_mut-context.result.now c.claim-job.new.self c.self.invariant c.in_ok-slot.ensures.front c.in_ok-slot.ensures.rest
    c.in_ok-slot.ensures.slot c.in_ok-slot.ensures.gone c.index_mut-context.ensures.value c.claim-job.ensures.step

pub returns-clause-step : goal.returns-clause-step
returns-clause-step c =
    claim_steps c.self.inside.slots.items c.self.inside.list c.take_front.new.self c.self.inside.steps c.in_ok-slot.slot
    c.index_mut-context.result.now c.claim-job.new.self c.self.invariant c.in_ok-slot.ensures.front c.in_ok-slot.ensures.rest
    c.in_ok-slot.ensures.slot c.in_ok-slot.ensures.gone c.index_mut-context.ensures.value c.self.inside.workers.items c.self.inside.shut
    c.args.self.now c.args.worker c.self.view_is c.requires.worker c.requires.free c.claim-job.ensures.after c.claim-job.ensures.taken

pub returns-clause-has : goal.returns-clause-has
returns-clause-has c =
    worker_has c.self.inside.slots.items c.self.inside.list.waiting c.take_front.new.self.waiting c.self.inside.workers.items c.self.inside.shut
    c.self.inside.steps (c.self.inside.steps + 1) c.args.self.now c.args.worker c.in_ok-slot.slot c.claim-job.new.self _ c.claim-job.result
    c.self.view_is c.requires.worker
    (slot_below c.self.inside.slots.items c.self.inside.list c.take_front.new.self c.self.inside.steps c.in_ok-slot.slot
    c.index_mut-context.result.now c.claim-job.new.self c.self.invariant c.in_ok-slot.ensures.front c.in_ok-slot.ensures.rest
    c.in_ok-slot.ensures.slot c.in_ok-slot.ensures.gone c.index_mut-context.ensures.value)
    c.claim-job.ensures.runs c.claim-job.ensures.job

pub returns-clause-holds : goal.returns-clause-holds
returns-clause-holds c k hold f =
    holds_at c.self.inside.slots.items c.self.inside.list.waiting c.self.inside.workers.items c.self.inside.shut c.self.inside.steps c.args.self.now
    c.in_ok-slot.slot c.index_mut-context.result.now c.claim-job.new.self k hold c.self.view_is
    (slot_below c.self.inside.slots.items c.self.inside.list c.take_front.new.self c.self.inside.steps c.in_ok-slot.slot
    c.index_mut-context.result.now c.claim-job.new.self c.self.invariant c.in_ok-slot.ensures.front c.in_ok-slot.ensures.rest
    c.in_ok-slot.ensures.slot c.in_ok-slot.ensures.gone c.index_mut-context.ensures.value)
    c.index_mut-context.ensures.value c.claim-job.ensures.holds f
