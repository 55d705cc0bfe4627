-- Slots of the device: closed, or with a context.
use Rattle.std.specs.Prelude.{ℕ, ◌≡◌, ◌+◌, Bool, false, Option, Some, None, List}
use Rattle.std.specs.Option.{option_map}
use Rattle.vc_base.specs.declared.Kind.{Kind}
use Rattle.vc_base.specs.declared.Errno.TheVariants.{NoMem}
use Rattle.vc_base.specs.declared.Call.{Call}
use Rattle.vc_base.specs.declared.Call.TheVariants.{Open}
use Rattle.vc_base.specs.declared.Reply.{Reply}
use Rattle.vc_base.specs.declared.Reply.TheVariants.{Refused}
use Rattle.vc_model.specs.Context.{Slot}
use Rattle.vc_model.specs.Answer.{answer}
use Rattle.vc_model.specs.Runs.{after_claim}
use Rattle.vc_model.specs.Core.{BroughtBack, finished_context}
use Rattle.vc_model.specs.Standing.{without_job}
use Rattle.vc_context.specs.Contexts.{IsKept, IsCounted, HasRoom}

abbrev pub IsKeptSlot : Slot → Type 0
IsKeptSlot None = Unit {0}
IsKeptSlot (Some c) = IsKept c

abbrev pub IsCountedSlot : ℕ → Slot → Type 0
IsCountedSlot bound None = Unit {0}
IsCountedSlot bound (Some c) = IsCounted bound c

-- The slot is kept, and what counts up in it did so by one at most.
pub record IsStepOfSlot (old new : Slot) : Type 0 where
  pub kept : IsKeptSlot new
  pub counted : (bound : ℕ) → IsCountedSlot bound old → IsCountedSlot (bound + 1) new

abbrev pub SlotHasRoom : Slot → Type 0
SlotHasRoom None = Unit {0}
SlotHasRoom (Some c) = HasRoom c

-- The slot gave this answer, with memory or without it. Where memory was not found the reply says so.
pub record IsAnswer (old : Slot) (request : Call) (bytes : List ℕ) (told : Reply) (new : Slot) : Type 0 where
  pub found : Bool
  pub reply : (answer old request bytes found).reply ≡ told
  pub slot : (answer old request bytes found).slot ≡ new
  pub want : found ≡ false → told ≡ Refused NoMem

-- the kind of context that the call opens
abbrev pub opened_kind : Call → Option Kind
opened_kind (Open kind) = Some kind
opened_kind request = None

-- the slot after the claim of its job
abbrev pub claimed_slot : Slot → Slot
claimed_slot s = option_map (λ c. without_job (after_claim c)) s

-- the slot after the end of the job that is brought back
abbrev pub finished_slot : Slot → BroughtBack → Slot
finished_slot s back = option_map (λ c. finished_context c back) s
