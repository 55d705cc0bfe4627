use Rattle.std.proofs.Common.{sym, subst}
use Rattle.vc_queue.specs.Holds.{HaveOneLength, held_payload}
use Rattle.vc_shared.specs.Handles.{HandleState, IsSlotSeat}
use Rattle.vc_shared.proofs.WritingKeepsSizes.{fits_exchanged, fits_exchanged_back}
use Rattle.vc_shared.proofs.handle_seat.HandleSeat.exchange.Goals as goal

pub invariant_of-self : goal.invariant_of-self
invariant_of-self c =
    let i = c.self.invariant in
    let one = subst (λ (v : HandleState). HaveOneLength (held_payload v.hold c.args.side c.args.index) (held_payload c.args.other.now.hold c.args.other_side c.args.other_index)) (sym c.self.view_is) c.requires.held in
    let held = subst (λ (v : HandleState). HaveOneLength (held_payload c.self.inside.hold c.args.side c.args.index) (held_payload v.hold c.args.other_side c.args.other_index)) (sym c.other.view_is) one in
    subst (IsSlotSeat c.self.inside.seat c.self.inside.sizes c.self.inside.slot) (sym c.exchange.ensures.mine) (record { rest = i.rest; within = i.within; fits = fits_exchanged _ c.self.inside.hold c.args.side c.args.index _ held i.fits })

pub invariant_of-other : goal.invariant_of-other
invariant_of-other c =
    let i = c.other.invariant in
    let one = subst (λ (v : HandleState). HaveOneLength (held_payload v.hold c.args.side c.args.index) (held_payload c.args.other.now.hold c.args.other_side c.args.other_index)) (sym c.self.view_is) c.requires.held in
    let held = subst (λ (v : HandleState). HaveOneLength (held_payload c.self.inside.hold c.args.side c.args.index) (held_payload v.hold c.args.other_side c.args.other_index)) (sym c.other.view_is) one in
    subst (IsSlotSeat c.other.inside.seat c.other.inside.sizes c.other.inside.slot) (sym c.exchange.ensures.others) (record { rest = i.rest; within = i.within; fits = fits_exchanged_back _ c.other.inside.hold c.args.other_side c.args.other_index _ held i.fits })
