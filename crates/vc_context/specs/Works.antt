-- What a job takes out of its context, and what comes back of it: the data of the model and the work of the code.
-- The runs are docs/DEVICE.md, "Runs".
use Rattle.std.specs.Prelude.{ℕ, ◌≡◌, ◌≤◌, ◌+◌, length, take, map, is_some, Bool, true, false, Option, Some, None, Result, Ok, Err, List, [], ◌∷◌}
use Rattle.vc_base.specs.declared.Format.{Format}
use Rattle.vc_base.specs.Buffers.{Buffer, without_bytes}
use Rattle.vc_defs.specs.Encoder.{EncoderState, EncodedFrame}
use Rattle.vc_model.specs.Coder.{CodecState, no_codec, encoder, decoder}
use Rattle.vc_defs.specs.Decoder.{DecodedStep, DecodedResult, picture, damaged, changed, spent, step_outcome}
use Rattle.vc_model.specs.Context.{Context, Running, RunSort, copy, encode, decode, probe}
use Rattle.vc_model.specs.Runs.{JobData, RunResult, copied, encoded, decoded}
use Rattle.vc_model.specs.Core.{BroughtBack}
use Rattle.vc_model.specs.Sound.{HasCodec as HasCodecOfKind, IsRunOf, dest_count}
use Rattle.vc_work.specs.References.{CodecReference}
use Rattle.vc_work.specs.Streams.{picture_of, HasStream}
use Rattle.vc_defs.specs.Raw.{geometry_of}
use Rattle.vc_work.specs.Runs.{dest_bytes, run_rates, HasGeometry, assembly_limit, stream_state, told_as, geometry_behind, BringsLegal}
use Rattle.vc_work.specs.declared.work.Sort.{Sort}
use Rattle.vc_work.specs.declared.work.Sort.TheVariants as sort
use Rattle.vc_work.specs.declared.work.Piece.{Piece}
use Rattle.vc_work.specs.declared.work.Work.{Work}
use Rattle.vc_work.specs.declared.engine.Outcome.{Outcome}
use Rattle.vc_work.specs.declared.engine.Outcome.TheVariants.{Copied, Encoded}
use Rattle.vc_work.specs.declared.engine.EngineFault.{EngineFault}

-- The work of a job

-- the sort of the run
abbrev pub IsSort : RunSort → Sort → Type 0
IsSort copy sort.Copy = Unit {0}
IsSort encode sort.Encode = Unit {0}
IsSort probe sort.Probe = Unit {0}
IsSort decode sort.Decode = Unit {0}
IsSort other mine = ⊥

-- The source is the buffer, with a payload of its size.
pub record IsSource (b : Buffer) (piece : Piece) : Type 0 where
  pub used : piece.used ≡ b.used
  pub cursor : piece.cursor ≡ b.cursor
  pub stamp : piece.stamp ≡ b.stamp
  pub bytes : take b.used piece.payload.items ≡ b.bytes
  pub size : length piece.payload.items ≡ b.size

-- no destination for no buffer, and for one buffer a payload of its size
abbrev pub IsDest : List Buffer → Option (List ℕ) → Type 0
IsDest [] None = Unit {0}
IsDest (b ∷ []) (Some payload) = length payload ≡ b.size
IsDest bs payload = ⊥

-- the reference is there, and has the state
abbrev pub HasState : EncoderState → Option CodecReference → Type 0
HasState state None = ⊥
HasState state (Some r) = r.state ≡ state

-- the state of the codec, as a run of the sort takes it: a copy run has none, that of an encoder is in the reference, and
-- that of a decoder in the reference and the assembly
abbrev pub IsCodec : CodecState → Sort → Work → Type 0
IsCodec no_codec sort.Copy work = Unit {0}
IsCodec (encoder state) sort.Encode work = HasState state work.reference
IsCodec (decoder state) sort.Probe work = stream_state work ≡ state
IsCodec (decoder state) sort.Decode work = stream_state work ≡ state
IsCodec codec mine work = ⊥

abbrev pub HasCodec : CodecState → Work → Type 0
HasCodec codec work = IsCodec codec work.sort work

-- a reference that was lent is there, and has room for a picture of the format
abbrev pub HasRoomFor : Format → Option CodecReference → Type 0
HasRoomFor format None = ⊥
HasRoomFor format (Some r) = format.size ≤ r.size

-- the reference of a decoder's job is as long as its destination; without a destination there is none
abbrev pub IsAsLong : List Buffer → Option CodecReference → Type 0
IsAsLong [] None = Unit {0}
IsAsLong (b ∷ []) (Some r) = r.size ≡ b.size
IsAsLong bs reference = ⊥

-- what a decoder's job lends of the codec: the assembly, for bodies of the limit, and a reference for the destination
pub record LendsStream (j : JobData) (work : Work) : Type 0 where
  pub assembly : assembly_limit work ≡ Some j.limit
  pub reference : IsAsLong j.dest work.reference

-- the areas of the codec that the job lends are with the work
abbrev pub HasAreas : CodecState → JobData → Work → Type 0
HasAreas no_codec j work = Unit {0}
HasAreas (encoder state) j work = HasRoomFor j.format work.reference
HasAreas (decoder state) j work = LendsStream j work

-- The work has the data of the job.
pub record IsWork (j : JobData) (work : Work) : Type 0 where
  pub sort : IsSort j.sort work.sort
  pub codec : HasCodec j.codec work
  pub areas : HasAreas j.codec j work
  pub source : IsSource j.source work.source
  pub dest : IsDest j.dest (dest_bytes work)
  pub geometry : work.geometry ≡ j.geometry
  pub format : work.format ≡ j.format
  pub limit : work.limit ≡ j.limit
  pub rates : run_rates work.rates ≡ j.rates

-- the work has the data, where there are any
abbrev pub IsWorkWith : Option JobData → Work → Type 0
IsWorkWith None work = ⊥
IsWorkWith (Some j) work = IsWork j work

-- The job in its context

-- what the job took from its context beside buffers and codec state
abbrev pub running_data : JobData → Running
running_data j =
    record { sort = j.sort; geometry = j.geometry; format = j.format; limit = j.limit; rates = j.rates }

-- A job with these data runs in the context: its buffers are in the job there, and it took what the context
-- still has.
pub record RunsIn (c : Context) (j : JobData) : Type 0 where
  pub running : is_some c.running ≡ true
  pub source : c.out.job ≡ without_bytes j.source ∷ []
  pub dest : c.cap.job ≡ map without_bytes j.dest
  pub dests : length j.dest ≡ dest_count j.sort
  pub codec : HasCodecOfKind c.kind j.codec
  pub run : IsRunOf c.kind c.formats c.geometry (running_data j)

-- a job with the data runs in the context, where there are any
abbrev pub RunsInWith : Context → Option JobData → Type 0
RunsInWith c None = ⊥
RunsInWith c (Some j) = RunsIn c j

-- the buffer in the job, where there is one, has the index
abbrev pub IsIndexOf : ℕ → List Buffer → Type 0
IsIndexOf index [] = Unit {0}
IsIndexOf index (b ∷ rest) = b.index ≡ index

-- What comes back

-- The source comes back as it was queued, with a payload of its size. What it holds is told by the result.
pub record IsSourceBack (b : Buffer) (piece : Piece) : Type 0 where
  pub used : piece.used ≡ b.used
  pub stamp : piece.stamp ≡ b.stamp
  pub size : length piece.payload.items ≡ b.size

-- the bytes stand at the front of the destination
abbrev pub HasFront : List ℕ → Option (List ℕ) → Type 0
HasFront bytes None = ⊥
HasFront bytes (Some payload) = take (length bytes) payload ≡ bytes

-- the bytes stand at the front of the destination, and the source has its own
pub record HasBytes (bytes : List ℕ) (source : Buffer) (work : Work) (used : ℕ) : Type 0 where
  pub told : used ≡ length bytes
  pub front : HasFront bytes (dest_bytes work)
  pub source_bytes : take source.used work.source.payload.items ≡ source.bytes

-- The frame stands there, and the reference has the state after it, with a picture of the job's format.
pub record HasFrame (frame : EncodedFrame) (j : JobData) (work : Work) (used : ℕ) (key : Bool) : Type 0 where
  pub bytes : HasBytes frame.bytes j.source work used
  pub told_key : key ≡ frame.key
  pub state : HasState frame.state work.reference
  pub picture : HasGeometry (geometry_of j.format) frame.state.reference

-- what a decoder's result shows stands in the destination
abbrev pub IsShown : DecodedResult → Option (List ℕ) → Type 0
IsShown (picture bytes key stamp) dest = HasFront bytes dest
IsShown (damaged stamp) dest = Unit {0}
IsShown (changed geometry) dest = Unit {0}
IsShown spent dest = Unit {0}

-- The result is shown, the source is consumed up to it, and what is kept is the stream's state behind it.
pub record HasResult (step : DecodedStep) (result : DecodedResult) (j : JobData) (work : Work) : Type 0 where
  pub cursor : work.source.cursor ≡ j.source.cursor + step.moved
  pub inside : work.source.cursor ≤ j.source.used
  pub source_bytes : take j.source.used work.source.payload.items ≡ j.source.bytes
  pub shown : IsShown result (dest_bytes work)
  pub state : stream_state work ≡ step.state
  pub stream : HasStream j.limit (geometry_behind result j.geometry) (picture_of work.reference) work.assembly
  pub legal : BringsLegal result

-- a decoder's run, as its outcome tells it
pub record HasDecoded (step : DecodedStep) (j : JobData) (work : Work) (outcome : Outcome) : Type 0 where
  pub told : outcome ≡ told_as (step_outcome j.format.fourcc step)
  pub result : HasResult step (step_outcome j.format.fourcc step) j work

-- the job is one of a decoder
abbrev pub is_decoding : RunSort → Bool
is_decoding copy = false
is_decoding encode = false
is_decoding decode = true
is_decoding probe = true

-- the run was one of the job's sort and came to this result, or the engine gave up
abbrev pub IsResult : Option RunResult → JobData → Work → Result Outcome EngineFault → Type 0
IsResult None j work (Err fault) = Unit {0}
IsResult (Some (copied bytes)) j work (Ok (Copied used)) =
    (j.sort ≡ copy) × HasBytes bytes j.source work used
IsResult (Some (encoded frame)) j work (Ok (Encoded used key)) =
    (j.sort ≡ encode) × HasFrame frame j work used key
IsResult (Some (decoded step)) j work (Ok outcome) =
    (is_decoding j.sort ≡ true) × HasDecoded step j work outcome
IsResult back j work result = ⊥

-- What is brought back of a job is this work, with this result of its run.
pub record IsBack (back : BroughtBack) (work : Work) (result : Result Outcome EngineFault) : Type 0 where
  pub source : IsSourceBack back.job.source work.source
  pub dest : IsDest back.job.dest (dest_bytes work)
  pub areas : HasAreas back.job.codec back.job work
  pub came_to : IsResult back.result back.job work result

-- What is brought back is of the job that runs in the context.
pub record IsBackOf (c : Context) (work : Work) (result : Result Outcome EngineFault) : Type 0 where
  pub back : BroughtBack
  pub runs : RunsIn c back.job
  pub is_back : IsBack back work result
