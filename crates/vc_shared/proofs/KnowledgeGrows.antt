-- How what a seat knows grows: it has seen more of the history, and its entries begin with those that it had. Both are read off
-- what a turn does to the seat.
use Rattle.std.proofs.Common.{ℕ, refl, List, [], ◌∷◌, length, sym, subst}
use Rattle.vc_base.specs.Device.{DeviceEvent}
use mathlib.Core.List.{IsPrefix}
use Rattle.vc_model.specs.Seats.{Seat, Adds, Looks}
use Rattle.vc_turn.proofs.ListsByPlace.{prefix_is, prefix_more}
use Rattle.vc_turn.specs.declared.rule.Noted.{Noted}
use Rattle.vc_turn.specs.Place.{Place}
use Rattle.vc_shared.specs.Following.{SeatGrows}
use Rattle.vc_shared.specs.Handles.{seat_of}
use Rattle.vc_shared.proofs.EntriesAreOwned.{prefix_events}
use Rattle.vc_shared.proofs.SeatsAfterTurns.{looked}

-- a seat that added an entry
pub adds_grow : (old new : Seat) (e : DeviceEvent) → Adds old new e → SeatGrows old new
adds_grow old new e a =
    record {
      seen = subst (IsPrefix old.seen) (sym a.added) (prefix_more old.seen a.before (e ∷ []) a.seen);
      mine = (length a.before ∷ [], sym a.mine);
    }

-- a seat that only looked
pub looks_grow : (old new : Seat) → Looks old new → SeatGrows old new
looks_grow old new l = record { seen = l.seen; mine = prefix_is old.mine new.mine (sym l.mine) }

-- a seat after a turn in which it noted nothing
pub looked_grows : (p : Place) (log : List Noted) (ticket : ℕ) → IsPrefix p.seen log → SeatGrows (seat_of p) (seat_of (looked p log ticket))
looked_grows p log ticket seen = record { seen = prefix_events p.seen log seen; mine = prefix_is p.mine p.mine refl }
