-- What holds of every context as a core keeps it: all that is sound of the context of the device, but for the data of its
-- running job.
use Rattle.std.specs.Prelude.{ℕ, ◌≡◌, ◌≤◌, true, false, is_some, length, Option, Some, None, List, []}
use Rattle.vc_base.specs.declared.Side.TheVariants.{Out, Cap}
use Rattle.vc_base.specs.Device.{DeviceEvent}
use Rattle.vc_model.specs.Coder.{Coder}
use Rattle.vc_model.specs.Context.{Context, Slot, Running, is_run, is_drained}
use Rattle.vc_model.specs.Devices.{slot_of}
use Rattle.vc_model.specs.Sound.{IsSoundQueue, HasCodec, is_last, ends_with_last, LongEnough, IsSettled, is_at_end, MarkIsQueued, IsFit}
use Rattle.vc_model.specs.Standing.{CoreState, Stands}

-- Where no job runs the job lists are empty. A job runs in phase Run alone; it has one OUTPUT buffer, and one CAPTURE buffer
-- but in a probe.
abbrev pub HasJobs : Context → Option Running → Type 0
HasJobs c None = (c.out.job ≡ []) × (c.cap.job ≡ [])
HasJobs c (Some r) = (is_run c.phase ≡ true) × (length c.out.job ≡ 1) × (length c.cap.job ≤ 1)

pub record IsSoundInCore (c : Context) : Type 0 where
  pub out_side : c.out.side ≡ Out
  pub cap_side : c.cap.side ≡ Cap
  pub out : IsSoundQueue c.out
  pub cap : IsSoundQueue c.cap
  pub has_jobs : HasJobs c c.running
  pub has_codec : c.running ≡ None → HasCodec c.kind c.codec
  pub marked : is_some c.mark ≡ true → c.out.streams ≡ true
  pub queued : MarkIsQueued c.mark c.out.next_ordinal
  pub drained : is_at_end c.phase ≡ true → is_drained c.out.ready c.mark ≡ true
  pub stopping : is_run c.phase ≡ false → c.cap.streams ≡ true
  pub ends : is_last c.phase ≡ true → ends_with_last c.cap.done ≡ true
  pub long : LongEnough c
  pub settled : IsSettled c
  pub fit : IsFit c

abbrev pub IsSoundCoreSlot : Slot → Type 0
IsSoundCoreSlot None = Unit {0}
IsSoundCoreSlot (Some c) = IsSoundInCore c

-- Each slot of a core that stands for a history is sound.
abbrev pub CoresAreSound : Type 0
CoresAreSound =
    (coder : Coder) (n w : ℕ) (core : CoreState) (history : List DeviceEvent) (k : ℕ) → Stands coder n w core history → IsSoundCoreSlot (slot_of core k)
