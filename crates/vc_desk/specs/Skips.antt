-- A call for which no memory is found.
use Rattle.std.specs.Prelude.{ℕ, ◌≡◌, Bool, true, false, is_none, List, [], ◌∷◌, ◌++◌}
use Rattle.vc_base.specs.declared.Errno.TheVariants.{NoMem}
use Rattle.vc_base.specs.declared.Kind.TheVariants.{Copy}
use Rattle.vc_base.specs.declared.Call.{Call}
use Rattle.vc_base.specs.declared.Call.TheVariants.{Open, ReqBufs, CreateBufs, Poll}
use Rattle.vc_base.specs.declared.Reply.TheVariants.{Refused}
use Rattle.vc_base.specs.Device.{DeviceEvent, call}
use Rattle.vc_model.specs.Coder.{the_coder}
use Rattle.vc_model.specs.Context.{Slot}
use Rattle.vc_model.specs.Solo.{Answered}
use Rattle.vc_model.specs.Devices.{Told, device_step}
use Rattle.vc_model.specs.Core.{before_memory}
use Rattle.vc_desk.specs.declared.desk.Desk.{Desk}
use Rattle.vc_desk.specs.Desks.{after, IsDesk}

-- whether a call takes memory and passes every test before that
abbrev pub seeks_memory : Slot → Call → Bool
seeks_memory s (Open kind) = is_none (before_memory s (Open kind))
seeks_memory s (ReqBufs side count) = is_none (before_memory s (ReqBufs side count))
seeks_memory s (CreateBufs side count size) = is_none (before_memory s (CreateBufs side count size))
seeks_memory s request = false

-- a call that is refused where this one takes memory
abbrev pub refused_beside : Call → Call
refused_beside (Open kind) = Poll
refused_beside request = Open Copy

-- The call was one step of the device, at which no memory was found.
pub record FoundNone (n : ℕ) (history : List DeviceEvent) (slot : ℕ) (request : Call) (bytes : List ℕ) (desk : Desk) : Type 0 where
  pub reply : (device_step the_coder (after n history) (call slot request bytes false)).reply ≡ Told slot (Answered (Refused NoMem) [])
  pub at : IsDesk n (history ++ call slot request bytes false ∷ []) desk

-- the step of the call is the same with memory and without
abbrev pub IsAlike : ℕ → List DeviceEvent → ℕ → Call → List ℕ → Type 0
IsAlike n history slot request bytes =
    device_step the_coder (after n history) (call slot request bytes false) ≡ device_step the_coder (after n history) (call slot request bytes true)
