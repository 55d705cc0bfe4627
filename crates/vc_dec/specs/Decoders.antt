-- A decoder context (docs/DEVICE.md, "One context"; "Memory-to-Memory Stateful Video Decoder Interface").
use Rattle.std.specs.Prelude.{ℕ, ◌≡◌, ◌<◌, ◌==◌, nat_le, Bool, true, map, Option, Some, None, List, [], ◌∷◌, ◌++◌, ◌&&◌, false}
use Rattle.std.specs.List.{list_all, list_any}
use Rattle.vc_base.specs.declared.Kind.TheVariants.{Dec}
use Rattle.vc_base.specs.declared.Side.{Side}
use Rattle.vc_base.specs.declared.Side.TheVariants.{Out, Cap}
use Rattle.vc_base.specs.Buffers.{Buffer, QueueState, buffer_count}
use Rattle.vc_base.specs.Events.{EventState}
use Rattle.vc_defs.specs.declared.Geometry.{Geometry}
use Rattle.vc_defs.specs.Encoder.{default_rates}
use Rattle.vc_defs.specs.Decoder.{ReferenceState, DecoderState, fresh_decoder, kept_bytes}
use Rattle.vc_model.specs.Formats.{FormatPair}
use Rattle.vc_model.specs.Coder.{CodecState, no_codec, decoder}
use Rattle.vc_model.specs.Context.{Context, Running}
use Rattle.vc_model.specs.Sound.{HasGeometry, IsOrdered}
use Rattle.vc_model.specs.Standing.{some_job, without_job}
use Rattle.vc_geom.specs.Pairs.{CanStand}
use Rattle.vc_pair.specs.declared.Phase.{Phase}
use Rattle.vc_pair.specs.declared.Phase.TheVariants.{Run, Owe, Last, Stopped}
use Rattle.vc_pair.specs.Pairs.{PairState, is_due}
use Rattle.vc_work.specs.Streams.{IsInStep}
use Rattle.vc_context.specs.Contexts.{has_work}
use Rattle.vc_dec.specs.declared.Dest.{Dest}
use Rattle.vc_dec.specs.declared.InJob.{InJob}

-- What the codec keeps from run to run, while no job has it: its state; the limit of the assembly, where that is there;
-- for which lengths of CAPTURE buffers there are references; and whether the present one is here.
pub record CodecParts : Type 0 where
  pub state : DecoderState
  pub limit : Option ℕ
  pub rooms : List ℕ
  pub present : Bool

-- whether a job runs
abbrev pub job_mark : Option InJob → Option Running
job_mark None = None
job_mark (Some job) = Some some_job

-- While a job runs the state of the codec is with the job.
abbrev pub codec_of : Option InJob → DecoderState → CodecState
codec_of None state = decoder state
codec_of (Some job) state = no_codec

-- A decoder context. It has a geometry once that was found, and no rates to set.
abbrev pub decoder_state : FormatPair → Option Geometry → PairState → EventState → DecoderState → Option InJob → Context
decoder_state formats geometry p events state job =
    record {
      kind = Dec;
      formats = formats;
      geometry = geometry;
      rates = default_rates;
      out = p.out;
      cap = p.cap;
      phase = p.phase;
      mark = p.mark;
      events = events;
      codec = codec_of job state;
      running = job_mark job;
    }

-- The context is one of the device, without the data of the job that runs in it, and all is in its place there.
pub record IsPlaced (c : Context) : Type 0 where
  pub whole : Context
  pub ordered : IsOrdered whole
  pub without : without_job whole ≡ c

-- the picture of the reference, where there is one, has the geometry of the stream
abbrev pub IsPictureOf : Option Geometry → Option ReferenceState → Type 0
IsPictureOf geometry None = Unit {0}
IsPictureOf geometry (Some r) = geometry ≡ Some r.geometry

-- While no job has them, the picture and the bytes that are kept belong together, and to the geometry.
abbrev pub IsOfStream : ℕ → Option Geometry → DecoderState → Option InJob → Type 0
IsOfStream limit geometry state None = IsInStep limit geometry state.reference (kept_bytes state)
IsOfStream limit geometry state (Some job) = Unit {0}

-- no more bytes of a buffer were consumed than are used
abbrev pub AreBegun : List Buffer → Type 0
AreBegun bs = list_all (λ b. nat_le b.cursor b.used) bs ≡ true

-- no byte of a buffer was consumed
abbrev pub AreUntouched : List Buffer → Type 0
AreUntouched bs = list_all (λ b. b.cursor == 0) bs ≡ true

-- no byte of a buffer is used
abbrev pub AreUnused : List Buffer → Type 0
AreUnused bs = list_all (λ b. b.used == 0) bs ≡ true

-- no byte is used of a CAPTURE buffer that is not done
pub record AreBlank (cap : QueueState) : Type 0 where
  pub held : AreUnused cap.held
  pub ready : AreUnused cap.ready
  pub job : AreUnused cap.job

-- While a job runs its OUTPUT buffer is before the mark of a drain, where there is one.
abbrev pub IsBeforeMark : PairState → Option InJob → Type 0
IsBeforeMark p None = Unit {0}
IsBeforeMark p (Some job) = is_due p.out.job p.mark ≡ true

-- no buffer, or the one with the index and the length
abbrev pub IsDestOf : Option Dest → List Buffer → Type 0
IsDestOf None bs = bs ≡ []
IsDestOf (Some dest) bs = (map (λ b. b.index) bs ≡ dest.index ∷ []) × (map (λ b. b.size) bs ≡ dest.length ∷ [])

-- the buffers of the running job are those that are known
abbrev pub KnowsItsJob : PairState → Option InJob → Type 0
KnowsItsJob p None = Unit {0}
KnowsItsJob p (Some job) = (map (λ b. b.index) p.out.job ≡ job.source ∷ []) × IsDestOf job.dest p.cap.job

-- While no job has it, the assembly is as large as OUTPUT's buffers need it.
abbrev pub IsSupplied : ℕ → QueueState → Option ℕ → Option InJob → Type 0
IsSupplied size out limit None = 0 < buffer_count out → limit ≡ Some size
IsSupplied size out limit (Some job) = Unit {0}

-- the length of the buffer that has the reference that is with the job
abbrev pub lent_room : Option InJob → List ℕ
lent_room None = []
lent_room (Some job) = elim job.dest as (λ _. List ℕ) [ None ↦ [] | Some dest ↦ dest.length ∷ [] ]

-- While a job has a reference no present one is here.
abbrev pub IsLentOut : Bool → Option InJob → Type 0
IsLentOut present None = Unit {0}
IsLentOut present (Some job) = elim job.dest as (λ _. Type 0) [ None ↦ Unit {0} | Some dest ↦ present ≡ false ]

-- whether there is a reference for buffers of the length
abbrev pub serves : List ℕ → ℕ → Bool
serves rooms length = list_any (λ room. room == length) rooms

-- what the length of every buffer of a queue is held to
pub record AllLengths (p : ℕ → Bool) (q : QueueState) : Type 0 where
  pub held : list_all (λ b. p b.size) q.held ≡ true
  pub ready : list_all (λ b. p b.size) q.ready ≡ true
  pub job : list_all (λ b. p b.size) q.job ≡ true
  pub done : list_all (λ b. p b.size) q.done ≡ true

-- there is a reference for each CAPTURE buffer
abbrev pub AreServed : List ℕ → QueueState → Type 0
AreServed rooms cap = AllLengths (serves rooms) cap

-- What every decoder context keeps: its formats can stand and are those of its geometry, as is the picture of the
-- reference; what is kept is of one stream, and nothing while OUTPUT has no buffers; and what a run needs is there.
pub record IsDecoder (formats : FormatPair) (geometry : Option Geometry) (p : PairState) (events : EventState) (parts : CodecParts) (job : Option InJob) : Type 0 where
  pub stands : CanStand Dec formats
  pub sized : HasGeometry Dec formats geometry
  pub placed : IsPlaced (decoder_state formats geometry p events parts.state job)
  pub picture : IsPictureOf geometry parts.state.reference
  pub fresh : buffer_count p.out ≡ 0 → parts.state ≡ fresh_decoder
  pub stream : IsOfStream formats.out.size geometry parts.state job
  pub begun : AreBegun p.out.ready
  pub untouched : AreUntouched p.out.held
  pub blank : AreBlank p.cap
  pub knows : KnowsItsJob p job
  pub supplied : IsSupplied formats.out.size p.out parts.limit job
  pub served : AreServed (lent_room job ++ parts.rooms) p.cap
  pub lent : IsLentOut parts.present job
  pub due : IsBeforeMark p job

-- the state of the codec when the side stops streaming: on OUTPUT that is the seek ("Seek")
abbrev pub sought_anew : Side → DecoderState → DecoderState
sought_anew Out state = fresh_decoder
sought_anew Cap state = state

-- what stays known of the geometry when the side gets a new format
abbrev pub geometry_after : Side → Option Geometry → Option Geometry
geometry_after Out geometry = None
geometry_after Cap geometry = geometry

abbrev pub is_run_alone : Phase → Bool
is_run_alone Run = true
is_run_alone Owe = false
is_run_alone Last = false
is_run_alone Stopped = false

-- the queues have work: for a probe while the geometry is unknown, and then for a run
abbrev pub is_job_due : Option Geometry → PairState → Bool
is_job_due None p = p.out.streams && is_due p.out.ready p.mark
is_job_due (Some geometry) p = has_work p.out && has_work p.cap
