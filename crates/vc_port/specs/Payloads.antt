-- What a port with payloads knows: the events of its slot, and the payloads that its user holds (docs/DEVICE.md, "Many
-- contexts").
use Rattle.std.specs.Prelude.{ℕ, ◌≡◌, Bool, true, false, None, List, [], ◌∷◌, ◌++◌}
use Rattle.std.specs.List.{list_all}
use Rattle.vc_base.specs.declared.Call.{Call}
use Rattle.vc_base.specs.declared.Reply.{Reply}
use Rattle.vc_base.specs.declared.Reply.TheVariants.{Blocked, Refused}
use Rattle.vc_base.specs.declared.Errno.TheVariants.{NoMem}
use Rattle.vc_model.specs.Coder.{the_coder}
use Rattle.vc_model.specs.Context.{Slot}
use Rattle.vc_model.specs.Solo.{SoloEvent, Called, Claims, Finishes, Answered, SoloEntry, solo_step, solo_run, solo_slot}
use Rattle.vc_model.specs.Handed.{handed_out, finishes_by_fault}
use Rattle.vc_queue.specs.Holds.{HoldState}
use Rattle.vc_context.specs.Payloads.{Moves, handed_over}

-- the slot after its events, from a closed one on
abbrev pub slot_after : List SoloEvent → Slot
slot_after events = solo_slot the_coder None events

-- its events with what it was told at each
abbrev pub told_at : List SoloEvent → List SoloEntry
told_at events = solo_run the_coder None events

-- the bytes that DqBuf handed out on CAPTURE, in order
abbrev pub bytes_out : List SoloEvent → List ℕ
bytes_out events = handed_out (told_at events)

-- how many jobs of the slot were finished without a fault
abbrev pub good_finishes : List SoloEvent → ℕ
good_finishes events = finishes_by_fault false (told_at events)

-- how many were finished with a fault
abbrev pub faulty_finishes : List SoloEvent → ℕ
faulty_finishes events = finishes_by_fault true (told_at events)

abbrev pub is_of_job : SoloEvent → Bool
is_of_job (Called request bytes found) = false
is_of_job Claims = true
is_of_job (Finishes fault) = true

-- claims and finishes alone
abbrev pub AreOfJobs : List SoloEvent → Type 0
AreOfJobs events = list_all is_of_job events ≡ true

-- a call that is answered is one more event; Blocked is none
abbrev pub with_call : List SoloEvent → Reply → SoloEvent → List SoloEvent
with_call events Blocked e = events
with_call events told e = events ++ e ∷ []

-- A call on a port with payloads. Claims and finishes of the slot are added to its events, and then the call, unless it is
-- answered by Blocked. The slot, by itself, gives the reply and hands out the bytes, and the payloads move as the call says.
-- Where memory was not found the reply says so.
pub record IsCallOn (old : List SoloEvent) (before : HoldState) (request : Call) (told : Reply) (new : List SoloEvent) (after : HoldState) : Type 0 where
  pub jobs : List SoloEvent
  pub of_jobs : AreOfJobs jobs
  pub found : Bool
  pub handed : List ℕ
  pub events : new ≡ with_call (old ++ jobs) told (Called request (handed_over request before) found)
  pub reply : (solo_step the_coder (slot_after (old ++ jobs)) (Called request (handed_over request before) found)).told ≡ Answered told handed
  pub want : found ≡ false → told ≡ Refused NoMem
  pub moves : Moves (slot_after (old ++ jobs)) request told before after

-- neither the events nor the payloads change
pub record AreKept (old : List SoloEvent) (before : HoldState) (new : List SoloEvent) (after : HoldState) : Type 0 where
  pub events : new ≡ old
  pub payloads : after ≡ before
