-- An encoder context (docs/DEVICE.md, "One context"; "Memory-to-Memory Stateful Video Encoder Interface").
use Rattle.std.specs.Prelude.{ℕ, ◌≡◌, ◌<◌, ◌==◌, nat_lt, Bool, true, false, if◌then◌else◌, map, Option, Some, None, List, [], ◌∷◌}
use Rattle.std.specs.List.{list_all}
use Rattle.std.specs.Option.{option_map}
use Rattle.vc_base.specs.declared.Kind.TheVariants.{Enc}
use Rattle.vc_base.specs.declared.Side.{Side}
use Rattle.vc_base.specs.declared.Side.TheVariants.{Out, Cap}
use Rattle.vc_base.specs.declared.Format.{Format}
use Rattle.vc_base.specs.Buffers.{Buffer, QueueState, buffer_count}
use Rattle.vc_base.specs.Events.{EventState}
use Rattle.vc_defs.specs.Encoder.{RunRates, fresh_encoder}
use Rattle.vc_model.specs.Formats.{FormatPair}
use Rattle.vc_model.specs.Coder.{CodecState, no_codec, encoder}
use Rattle.vc_model.specs.Context.{Context, Running, run}
use Rattle.vc_model.specs.Sound.{AreLong}
use Rattle.vc_model.specs.Standing.{some_job}
use Rattle.vc_geom.specs.Pairs.{CanStand}
use Rattle.vc_pair.specs.Pairs.{PairState, IsSettled}
use Rattle.vc_work.specs.References.{CodecReference}
use Rattle.vc_work.specs.Runs.{coder_state, with_state, HasReference}
use Rattle.vc_enc.specs.declared.InJob.{InJob}

-- whether a job runs
abbrev pub job_mark : Option InJob → Option Running
job_mark None = None
job_mark (Some job) = Some some_job

-- The codec begins anew without a reference. While a job runs its state is with the job.
abbrev pub codec_of : Option InJob → Option CodecReference → CodecState
codec_of None reference = encoder (coder_state reference)
codec_of (Some job) reference = no_codec

-- An encoder context. It has no geometry: its pictures have that of OUTPUT's format.
abbrev pub encoder_state : FormatPair → RunRates → PairState → EventState → Option CodecReference → Option InJob → Context
encoder_state formats rates p events reference job =
    record {
      kind = Enc;
      formats = formats;
      geometry = None;
      rates = rates;
      out = p.out;
      cap = p.cap;
      phase = p.phase;
      mark = p.mark;
      events = events;
      codec = codec_of job reference;
      running = job_mark job;
    }

-- each of the buffers has a whole picture of that size
abbrev pub AreWhole : ℕ → List Buffer → Type 0
AreWhole size bs = list_all (λ b. b.used == size) bs ≡ true

-- The encoder has a reference, for pictures of the format, exactly where OUTPUT has buffers.
abbrev pub IsSupplied : Format → ℕ → Option CodecReference → Type 0
IsSupplied format buffers None = buffers ≡ 0
IsSupplied format buffers (Some r) = (0 < buffers) × HasReference format (Some r)

-- The buffer with the index is in the job of the queue, which streams.
pub record IsInJob (q : QueueState) (index : ℕ) : Type 0 where
  pub streams : q.streams ≡ true
  pub one : map (λ b. b.index) q.job ≡ index ∷ []

-- A job runs in phase Run, over the buffers that are known. While none runs the reference is here.
abbrev pub KnowsItsJob : Format → PairState → Option CodecReference → Option InJob → Type 0
KnowsItsJob format p reference None =
    (p.out.job ≡ []) × (p.cap.job ≡ []) × IsSupplied format (buffer_count p.out) reference
KnowsItsJob format p reference (Some job) =
    (p.phase ≡ run) × IsInJob p.out job.source × IsInJob p.cap job.dest

-- What every encoder context keeps: its formats can stand, nothing is left to be settled, and what is
-- queued fits the formats.
pub record IsEncoder (formats : FormatPair) (p : PairState) (reference : Option CodecReference) (job : Option InJob) : Type 0 where
  pub stands : CanStand Enc formats
  pub settled : IsSettled p
  pub whole : AreWhole formats.out.size p.out.ready
  pub long : AreLong formats.cap.size p.cap.ready
  pub known : KnowsItsJob formats.out p reference job

-- the reference that so many new OUTPUT buffers of the size need
abbrev pub new_reference : ℕ → ℕ → Option CodecReference
new_reference count size =
    if nat_lt 0 count then Some (record { size = size; state = fresh_encoder }) else None

-- whether CAPTURE streams and is to stop
abbrev pub ends_capture : Side → PairState → Bool
ends_capture Out p = false
ends_capture Cap p = p.cap.streams

-- the reference, without its picture where the codec has to begin anew
abbrev pub anew_where : Bool → Option CodecReference → Option CodecReference
anew_where due reference = if due then option_map (with_state fresh_encoder) reference else reference

-- OUTPUT has buffers, where it is to get more
abbrev pub HasSources : Side → Context → Type 0
HasSources Out c = 0 < buffer_count c.out
HasSources Cap c = Unit {0}
