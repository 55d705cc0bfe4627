use Rattle.std.proofs.Common.{◌<◌, length, get_or, refl, sym, ap, ◌∙◌, subst, arith}
use Rattle.vc_model.specs.Devices.{slot_of}
use Rattle.vc_context.specs.Payloads.{FitsSlot, empty_hold}
use Rattle.vc_desk.specs.Desks.{filled}
use Rattle.vc_desk.proofs.CallsOnHeldPayloads.{filled_fits}
use Rattle.vc_desk.proofs.CallsAreSteps.{place_is, call_done}
use Rattle.vc_desk.proofs.desk.Desk.call.Goals as goal

pub call-requires-clause-fits : goal.call-requires-clause-fits
call-requires-clause-fits c =
    let at = c.requires.desk.2 in
    let l : c.args.slot < length c.args.self.now.holds.items = omega (arith, c.requires.slot, at.slots, at.users) in
    let place = place_is c.args.self.now.holds.items c.args.slot c.index_mut-hold.result.now l c.index_mut-hold.ensures.value in
    subst (FitsSlot (slot_of c.args.self.now.core c.args.slot)) (sym (c.fill.ensures ∙ ap (filled c.args.call.now c.args.bytes.now) place))
    (filled_fits (slot_of c.args.self.now.core c.args.slot) c.args.call.now c.args.bytes.now
    (get_or c.args.self.now.holds.items c.args.slot empty_hold) (at.fit c.args.slot (omega (arith, c.requires.slot, at.slots))))

pub returns-clause-done : goal.returns-clause-done
returns-clause-done c = λ n history at used.
    call_done n history c.args.self.now.core c.call.new.self c.args.self.now.holds.items c.args.self.now.jobs.items _ c.args.slot c.args.call.now
    c.args.bytes.now c.call.result c.index_mut-hold.result.now c.fill.new.hold c.call.new.hold refl refl refl c.requires.slot
    c.index_mut-hold.ensures.value c.fill.ensures c.call.ensures.step c.call.ensures.payloads c.call.ensures.size c.call.ensures.crew
    c.call.ensures.fit at used
