-- The steps of a core.
use Rattle.std.specs.Prelude.{ℕ, ◌≡◌, Bool, true, false, get_or, length, None, List}
use Rattle.vc_base.specs.declared.Call.{Call}
use Rattle.vc_base.specs.declared.Reply.{Reply}
use Rattle.vc_base.specs.declared.Reply.TheVariants.{Refused}
use Rattle.vc_base.specs.declared.Errno.TheVariants.{NoMem}
use Rattle.vc_model.specs.Context.{Slot}
use Rattle.vc_model.specs.Runs.{is_claimable}
use Rattle.vc_model.specs.Solo.{Answered}
use Rattle.vc_model.specs.Devices.{Told}
use Rattle.vc_model.specs.JobList.{waits}
use Rattle.vc_model.specs.Standing.{CoreState}
use Rattle.vc_model.specs.Core.{core_call}
use Rattle.vc_jobs.specs.Jobs.{Jobs}
use Rattle.vc_queue.specs.Holds.{HoldState}
use Rattle.vc_core.specs.Slots.{IsKeptSlot, IsCountedSlot}
use Rattle.vc_context.specs.Payloads.{handed_over}

-- A call on slot k is a step of the core, with memory or without it. Where memory was not found the reply
-- says so.
pub record IsCall (old : CoreState) (k : ℕ) (request : Call) (hold : HoldState) (told : Reply) (new : CoreState) : Type 0 where
  pub found : Bool
  pub handed : List ℕ
  pub reply : (core_call old k request (handed_over request hold) found).reply ≡ Told k (Answered told handed)
  pub device : (core_call old k request (handed_over request hold) found).device ≡ new
  pub want : found ≡ false → told ≡ Refused NoMem

-- the slot at a place of the list
abbrev pub slot_at : List Slot → ℕ → Slot
slot_at slots k = get_or slots k None

-- What every core keeps.
pub record IsCore (slots : List Slot) (jobs : Jobs) (steps : ℕ) : Type 0 where
  pub room : length slots ≡ jobs.slots
  pub listed : (k : ℕ) → waits jobs.waiting k ≡ true → is_claimable (slot_at slots k) ≡ true
  pub kept : (k : ℕ) → IsKeptSlot (slot_at slots k)
  pub counted : (k : ℕ) → IsCountedSlot steps (slot_at slots k)
