-- A handle as a port: the calls that it was answered, in order.
use Rattle.std.specs.Prelude.{List, [], ◌∷◌, ◌++◌}
use Rattle.std.proofs.Common.{subst}
use Rattle.vc_model.specs.Coder.{the_coder}
use Rattle.vc_model.specs.Solo.{SoloEvent, Called, SoloReply, Answered, SoloEntry}
use Rattle.vc_model.proofs.SlotsAreIsolated.{isolated}
use Rattle.vc_context.specs.Payloads.{FitsSlot}
use Rattle.vc_port.specs.Ports.{AnsweredCall}
use Rattle.vc_port.specs.Payloads.{slot_after, told_at, AreKept}
use Rattle.vc_shared.specs.Handles.{HandleState, slot_events, IsHandle}

-- the call of an event, where it is one, with its reply
abbrev pub answered_at : SoloEvent → SoloReply → List AnsweredCall
answered_at (Called request bytes found) (Answered reply handed) = record { request = request; reply = reply } ∷ []
answered_at e told = []

abbrev pub answered_in : List SoloEntry → List AnsweredCall
answered_in [] = []
answered_in (x ∷ xs) = answered_at x.event x.told ++ answered_in xs

-- the answered calls of the handle: those of its slot in what it has seen
abbrev pub answered_calls : HandleState → List AnsweredCall
answered_calls h = answered_in (told_at (slot_events h))

-- the payloads fit the slot after its events
pub fits_events : (h : HandleState) → IsHandle h → FitsSlot (slot_after (slot_events h)) h.hold
fits_events h is =
    subst (λ s. FitsSlot s h.hold) (isolated the_coder h.device.slots h.slot h.seat.seen).slot is.fits

-- the handle as it was
abbrev pub StaysHandle : HandleState → HandleState → Type 0
StaysHandle old new = AreKept (slot_events old) old.hold (slot_events new) new.hold
