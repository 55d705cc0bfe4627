use Rattle.std.proofs.Common.{sym, subst}
use Rattle.vc_queue.specs.Holds.{HasRoom, held_payload}
use Rattle.vc_shared.specs.Handles.{HandleState, IsSlotSeat}
use Rattle.vc_shared.proofs.WritingKeepsSizes.{fits_written}
use Rattle.vc_shared.proofs.handle_seat.HandleSeat.fill.Goals as goal

pub invariant_of-self : goal.invariant_of-self
invariant_of-self c =
    let i = c.self.invariant in
    let held = subst (λ (v : HandleState). HasRoom (held_payload v.hold c.args.side c.args.index) c.args.bytes.now) (sym c.self.view_is) c.requires.held in
    subst (IsSlotSeat c.self.inside.seat c.self.inside.sizes c.self.inside.slot) (sym c.write.ensures) (record { rest = i.rest; within = i.within; fits = fits_written _ c.self.inside.hold c.args.side c.args.index c.args.bytes.now held i.fits })
