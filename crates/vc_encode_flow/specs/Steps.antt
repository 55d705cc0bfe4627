-- Where a flow is between its steps, and where it is when it stops early.
use Rattle.std.specs.Prelude.{ℕ, ◌≡◌, ◌+◌, ◌<◌, ◌≤◌, take, length, Option, Some, None, List, [], ◌∷◌, ◌++◌}
use Rattle.std.specs.Io.KnownBytes.{Appends, Consumes}
use Rattle.vc_model.specs.Solo.{SoloEvent}
use Rattle.vc_flow.specs.Buffers.{HasBytes}
use Rattle.vc_encode_flow.specs.Frames.{joined}
use Rattle.vc_encode_flow.specs.Flows.{FlowSoFar, frames_for, IsFlow}
use Rattle.vc_flow.specs.Calls.{HandedFirst}

-- fewer bytes were read than there is room for
abbrev pub ReadsBelow : ℕ → Option (List ℕ) → Option (List ℕ) → Type 0
ReadsBelow room left left_now = (bytes : List ℕ) × (length bytes < room) × Consumes left left_now bytes

-- or as many, and less than `more` beyond them
abbrev pub ReadsBeyond : ℕ → ℕ → Option (List ℕ) → Option (List ℕ) → Type 0
ReadsBeyond room more left left_now = (bytes : List ℕ) × (room ≤ length bytes) × (length bytes < room + more) × Consumes left left_now bytes

-- all frames that were handed out were written
pub record IsAt (start : List SoloEvent) (f : FlowSoFar) (first written : Option (List ℕ)) (events : List SoloEvent) : Type 0 where
  pub flow : IsFlow start f events
  pub wrote : Appends first written (joined f.taken)

-- What was written is a prefix of the bytes handed out, and of the frames of the pictures that were queued.
pub record StopsEarly (start : List SoloEvent) (f : FlowSoFar) (first written : Option (List ℕ)) (events : List SoloEvent) : Type 0 where
  pub bytes : List ℕ
  pub wrote : Appends first written bytes
  pub handed : HandedFirst start bytes events
  pub others : List ℕ
  pub frames : joined (frames_for f f.queued) ≡ bytes ++ others

abbrev pub with_frames : FlowSoFar → List (List ℕ) → FlowSoFar
with_frames f frames = record f { taken = f.taken ++ frames }

-- so many frames more were taken and written
pub record HasTaken (start : List SoloEvent) (f : FlowSoFar) (count : ℕ) (first written : Option (List ℕ)) (events : List SoloEvent) : Type 0 where
  pub frames : List (List ℕ)
  pub number : length frames ≡ count
  pub at : IsAt start (with_frames f frames) first written events

-- a frame more was handed out, and is what the payload begins with
pub record IsTaken (start : List SoloEvent) (f : FlowSoFar) (events : List SoloEvent) (payload : Option (List ℕ)) (used : ℕ) : Type 0 where
  pub frame : List ℕ
  pub flow : IsFlow start (record f { taken = f.taken ++ frame ∷ [] }) events
  pub there : HasBytes payload used frame
