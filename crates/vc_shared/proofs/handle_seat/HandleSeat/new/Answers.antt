use Rattle.std.proofs.Common.{sym, subst}
use Rattle.vc_model.specs.Devices.{slot_of}
use Rattle.vc_turn.specs.Place.{Place}
use Rattle.vc_context.specs.Payloads.{FitsSlot}
use Rattle.vc_shared.specs.Histories.{after, events_of}
use Rattle.vc_shared.proofs.SeatsAfterTurns.{rests_at_first}
use Rattle.vc_shared.proofs.WritingKeepsSizes.{fits_first}
use Rattle.vc_shared.proofs.handle_seat.HandleSeat.new.Goals as goal

pub invariant_of-result : goal.invariant_of-result
invariant_of-result c =
    record {
      rest = rests_at_first c.args.slot _ c.args.sizes.slots c.args.seat c.requires.seat;
      within = c.requires.slot;
      fits = subst (λ (p : Place). FitsSlot (slot_of (after c.args.sizes.slots (events_of p.seen)) c.args.slot) c.new.result) (sym c.requires.seat) (fits_first c.args.sizes.slots c.args.slot c.new.result c.new.ensures.nothing);
    }
