-- What a call through a handle comes to.
use Rattle.std.specs.Prelude.{ℕ, ◌≡◌, Bool, true, false, List}
use Rattle.vc_base.specs.declared.Call.{Call}
use Rattle.vc_base.specs.declared.Reply.{Reply}
use Rattle.vc_base.specs.declared.Reply.TheVariants.{Refused}
use Rattle.vc_base.specs.declared.Errno.TheVariants.{NoMem}
use Rattle.vc_model.specs.Coder.{the_coder}
use Rattle.vc_model.specs.Devices.{slot_of}
use Rattle.vc_model.specs.Seats.{IsAnswered, IsBlocked, IsShutBy}
use Rattle.vc_context.specs.Payloads.{Moves, handed_over}
use Rattle.vc_shared.specs.Histories.{after}
use Rattle.vc_shared.specs.Handles.{HandleState}

-- memory was found, unless the reply says that it was not
abbrev pub found_for : Reply → Bool
found_for (Refused NoMem) = false
found_for reply = true

-- The call is one more entry of the history. The reply and the payloads are what the device gives there.
pub record AnswersCall (old new : HandleState) (request : Call) (reply : Reply) : Type 0 where
  pub handed : List ℕ
  pub answered : IsAnswered the_coder old.device.slots old.slot old.seat new.seat request (handed_over request old.hold) (found_for reply) reply handed
  pub payloads : Moves (slot_of (after old.device.slots answered.adds.before) old.slot) request reply old.hold new.hold

-- The call is no entry: the slot, as the handle has seen it now, gives Blocked. The payloads stay.
pub record BlocksCall (old new : HandleState) (request : Call) : Type 0 where
  pub blocked : IsBlocked the_coder old.device.slots old.slot old.seat new.seat request (handed_over request old.hold) true
  pub hold : new.hold ≡ old.hold

-- The Shut is one more entry. The payloads stay.
pub record ShutsDevice (old new : HandleState) : Type 0 where
  pub shut : IsShutBy the_coder old.device.slots old.slot old.seat new.seat
  pub hold : new.hold ≡ old.hold
