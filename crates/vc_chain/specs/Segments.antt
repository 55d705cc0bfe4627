-- How far an encoder is with the pictures of a segment, which all have one format, and what each step of it promises. In each
-- promise, `old` and `new` are the events of the encoder's slot before and after the step, and `before` and `after` are what was
-- written.
use Rattle.std.specs.Prelude.{ℕ, ◌≡◌, ◌+◌, ◌≤◌, map, length, Option, None, List, [], ◌∷◌, ◌++◌, Result, IfOk, OnOk, OnErr, IsErrOf}
use Rattle.std.specs.Io.KnownBytes.{Appends}
use Rattle.vc_base.specs.declared.Side.TheVariants.{Cap}
use Rattle.vc_base.specs.declared.Format.{Format}
use Rattle.vc_defs.specs.Encoder.{RunRates}
use Rattle.vc_defs.specs.Outputs.{frames_of, frames_bytes}
use Rattle.vc_defs.specs.Raw.{geometry_of, planes_of}
use Rattle.vc_model.specs.Solo.{SoloEvent}
use Rattle.vc_queue.specs.Holds.{HoldState, held_payload}
use Rattle.vc_port.specs.Payloads.{slot_after, bytes_out, good_finishes}
use Rattle.vc_flow.specs.declared.ends.Stop.{Stop}
use Rattle.vc_flow.specs.declared.ends.Stop.TheVariants.{EngineFault}
use Rattle.vc_flow.specs.Buffers.{HasBytes}
use Rattle.vc_flow.specs.Calls.{HandedFirst, QueuesSource}
use Rattle.vc_flow.specs.Faults.{HasFailed}
use Rattle.vc_encode_flow.specs.Flows.{FlowSoFar, IsFlow, rates_of}
use Rattle.vc_encode_flow.specs.Steps.{IsAt, IsTaken}
use Rattle.vc_chain.specs.declared.collecting.Frame.{Frame}

-- the frame that was taken is handed out, and lies in its payload
abbrev pub TakesFrame : (result : Result Frame Stop) (hold : HoldState) (old new : List SoloEvent) → Type 0
TakesFrame result hold old new =
    (start : List SoloEvent) (f : FlowSoFar) → IsFlow start f old →
    IfOk result (λ frame. IsTaken start f new (held_payload hold Cap frame.index) frame.used)

-- the bytes of the frames that the sequential encoder makes of raw pictures of a format
abbrev pub coded : Format → RunRates → List (List ℕ) → List ℕ
coded format rates pictures =
    frames_bytes (frames_of (geometry_of format) rates (map (planes_of format.fourcc format.width format.height) pictures))

-- the flow with these pictures queued and these frames taken
abbrev pub segment_of : Format → RunRates → List (List ℕ) → List (List ℕ) → FlowSoFar
segment_of format rates pictures frames =
    record { format = format; rates = rates; queued = pictures; taken = frames }

-- These pictures were queued since the start. The frames of so many of them are still to be taken, and all others were written.
pub record IsCoding (start : List SoloEvent) (format : Format) (rates : RunRates) (pictures : List (List ℕ)) (flight : ℕ) (first written : Option (List ℕ)) (events : List SoloEvent) : Type 0 where
  pub frames : List (List ℕ)
  pub count : length frames + flight ≡ length pictures
  pub at : IsAt start (segment_of format rates pictures frames) first written events

-- The slot was closed. What was handed out since the start, and written, is the frames of these pictures, each of a job without
-- a fault.
pub record IsCoded (start : List SoloEvent) (format : Format) (rates : RunRates) (pictures : List (List ℕ)) (first written : Option (List ℕ)) (events : List SoloEvent) : Type 0 where
  pub closed : slot_after events ≡ None
  pub wrote : Appends first written (coded format rates pictures)
  pub handed : bytes_out events ≡ bytes_out start ++ coded format rates pictures
  pub finishes : good_finishes start + length pictures ≤ good_finishes events

-- What was written is a prefix of what was handed out since the start, and of the frames of these pictures.
pub record IsCut (start : List SoloEvent) (format : Format) (rates : RunRates) (pictures : List (List ℕ)) (first written : Option (List ℕ)) (events : List SoloEvent) : Type 0 where
  pub bytes : List ℕ
  pub wrote : Appends first written bytes
  pub handed : HandedFirst start bytes events
  pub others : List ℕ
  pub frames : coded format rates pictures ≡ bytes ++ others

-- the segment begins without a picture
abbrev pub BeginsCoding : {T : Type 0} (result : Result T Stop) (format : Format) (gop iqp pqp : ℕ) (old new : List SoloEvent) → Type 0
BeginsCoding result format gop iqp pqp old new =
    (written : Option (List ℕ)) → OnOk result (IsCoding old format (rates_of gop iqp pqp) [] 0 written written new)

-- a buffer that was queued begins with these used bytes of a payload
abbrev pub QueuesUsed : {T : Type 0} (result : Result T Stop) (index : ℕ) (payload : Option (List ℕ)) (used : ℕ) (old new : List SoloEvent) (after : HoldState) → Type 0
QueuesUsed result index payload used old new after =
    (bytes : List ℕ) → HasBytes payload used bytes → OnOk result (QueuesSource old index bytes new after)

-- where the step came through, so many pictures are in flight
abbrev pub KeepsCoding : {T : Type 0} (result : Result T Stop) (flight flight_now : ℕ) (before after : Option (List ℕ)) (old new : List SoloEvent) → Type 0
KeepsCoding result flight flight_now before after old new =
    (start : List SoloEvent) (format : Format) (rates : RunRates) (pictures : List (List ℕ)) (first : Option (List ℕ)) →
    IsCoding start format rates pictures flight first before old →
    OnOk result (IsCoding start format rates pictures flight_now first after new)

-- and the used bytes of the payload are the last picture
abbrev pub Adds : {T : Type 0} (result : Result T Stop) (payload : Option (List ℕ)) (used flight flight_now : ℕ) (before after : Option (List ℕ)) (old new : List SoloEvent) → Type 0
Adds result payload used flight flight_now before after old new =
    (start : List SoloEvent) (format : Format) (rates : RunRates) (pictures : List (List ℕ)) (first : Option (List ℕ)) (picture : List ℕ) →
    HasBytes payload used picture → IsCoding start format rates pictures flight first before old →
    OnOk result (IsCoding start format rates (pictures ++ picture ∷ []) flight_now first after new)

-- where the step failed, it leaves a prefix written
abbrev pub LeavesFront : {T : Type 0} (result : Result T Stop) (flight : ℕ) (before after : Option (List ℕ)) (old new : List SoloEvent) → Type 0
LeavesFront result flight before after old new =
    (start : List SoloEvent) (format : Format) (rates : RunRates) (pictures : List (List ℕ)) (first : Option (List ℕ)) →
    IsCoding start format rates pictures flight first before old → OnErr result (IsCut start format rates pictures first after new)

-- where an engine is said to have failed, a job of the slot did since the start
abbrev pub CodingTellsFault : {T : Type 0} (result : Result T Stop) (flight : ℕ) (before : Option (List ℕ)) (old new : List SoloEvent) → Type 0
CodingTellsFault result flight before old new =
    (start : List SoloEvent) (format : Format) (rates : RunRates) (pictures : List (List ℕ)) (first : Option (List ℕ)) →
    IsCoding start format rates pictures flight first before old → IsErrOf result EngineFault → HasFailed start new

-- where the segment came through, all its frames were written
abbrev pub EndsCoding : {T : Type 0} (result : Result T Stop) (flight : ℕ) (before after : Option (List ℕ)) (old new : List SoloEvent) → Type 0
EndsCoding result flight before after old new =
    (start : List SoloEvent) (format : Format) (rates : RunRates) (pictures : List (List ℕ)) (first : Option (List ℕ)) →
    IsCoding start format rates pictures flight first before old → OnOk result (IsCoded start format rates pictures first after new)
