-- What the calls of a flow do, and what they leave.
use Rattle.std.specs.Prelude.{ℕ, ◌≡◌, ◌⊎◌, length, List, ◌++◌}
use Rattle.vc_base.specs.declared.Side.{Side}
use Rattle.vc_base.specs.declared.Side.TheVariants.{Out}
use Rattle.vc_base.specs.declared.Format.{Format}
use Rattle.vc_base.specs.declared.Stamp.{Stamp}
use Rattle.vc_base.specs.declared.Call.{Call}
use Rattle.vc_base.specs.declared.Call.TheVariants.{SetFmt, ReqBufs, QBuf}
use Rattle.vc_base.specs.declared.Errno.TheVariants.{NoMem}
use Rattle.vc_base.specs.declared.Reply.{Reply}
use Rattle.vc_base.specs.declared.Reply.TheVariants.{Done, Fmt, Count, Refused}
use Rattle.vc_model.specs.Solo.{SoloEvent}
use Rattle.vc_queue.specs.Holds.{HoldState}
use Rattle.vc_queue.specs.Answers.{queued_bytes}
use Rattle.vc_port.specs.Payloads.{bytes_out, IsCallOn}

-- the call was made, whatever it was answered
abbrev pub IsMade : List SoloEvent → HoldState → Call → List SoloEvent → HoldState → Type 0
IsMade old before request new after = (told : Reply) × IsCallOn old before request told new after

-- the call was refused for want of memory
abbrev pub LacksMemory : List SoloEvent → HoldState → Call → List SoloEvent → HoldState → Type 0
LacksMemory old before request new after = IsCallOn old before request (Refused NoMem) new after

-- whatever happens to the slot before the call, it is done, or refused for want of memory
abbrev pub IsGranted : List SoloEvent → HoldState → Call → Type 0
IsGranted old before request =
    (told : Reply) (new : List SoloEvent) (after : HoldState) → IsCallOn old before request told new after → (told ≡ Done) ⊎ (told ≡ Refused NoMem)

-- a format of OUTPUT was asked for, and one was given
abbrev pub SetsFormat : List SoloEvent → HoldState → Format → List SoloEvent → HoldState → Type 0
SetsFormat old before want new after =
    (given : Format) × IsCallOn old before (SetFmt Out want) (Fmt given) new after

-- buffers were asked for, and some were given
abbrev pub GivesBuffers : List SoloEvent → HoldState → Side → ℕ → List SoloEvent → HoldState → Type 0
GivesBuffers old before side count new after =
    (given : ℕ) × IsCallOn old before (ReqBufs side count) (Count given) new after

-- An OUTPUT buffer was queued whose payload began with exactly these bytes.
pub record QueuesSource (old : List SoloEvent) (index : ℕ) (bytes : List ℕ) (new : List SoloEvent) (after : HoldState) : Type 0 where
  pub before : HoldState
  pub stamp : Stamp
  pub filled : queued_bytes Out before index (length bytes) ≡ bytes
  pub does : IsCallOn old before (QBuf Out index (length bytes) stamp) Done new after

-- since the start these bytes were handed out first
abbrev pub HandedFirst : List SoloEvent → List ℕ → List SoloEvent → Type 0
HandedFirst start bytes events = (more : List ℕ) × (bytes_out events ≡ bytes_out start ++ (bytes ++ more))

-- what was handed out first since any start still was
abbrev pub KeepsHanded : List SoloEvent → List SoloEvent → Type 0
KeepsHanded old new =
    (start : List SoloEvent) (bytes : List ℕ) → HandedFirst start bytes old → HandedFirst start bytes new
