-- The state of a copying context.
use Rattle.std.specs.Prelude.{ℕ, ◌≡◌, Bool, true, false, Option, Some, None, Result, Ok}
use Rattle.vc_base.specs.declared.Kind.TheVariants.{Copy}
use Rattle.vc_base.specs.declared.Format.{Format}
use Rattle.vc_base.specs.Buffers.{QueueState}
use Rattle.vc_base.specs.Limits.{error_flag}
use Rattle.vc_base.specs.Events.{no_events}
use Rattle.vc_defs.specs.Encoder.{default_rates}
use Rattle.vc_model.specs.Formats.{FormatPair, data_format}
use Rattle.vc_model.specs.Coder.{no_codec}
use Rattle.vc_model.specs.Context.{Context, Running, run, copy}
use Rattle.vc_model.specs.Runs.{JobData, job_data, after_claim, running_of}
use Rattle.vc_model.specs.Standing.{some_job}
use Rattle.vc_queue.specs.declared.queue.Lent.{Lent}
use Rattle.vc_queue.specs.Lending.{IsLent}
use Rattle.vc_work.specs.declared.engine.Outcome.{Outcome}
use Rattle.vc_work.specs.declared.engine.Outcome.TheVariants.{Copied}
use Rattle.vc_work.specs.declared.engine.EngineFault.{EngineFault}
use Rattle.vc_context.specs.Works.{IsDest}

-- the format with buffers of that size
abbrev pub data_bytes : ℕ → Format
data_bytes size = record { fourcc = data_format; width = 0; height = 0; size = size }

-- the formats of a copying context with buffers of that size
abbrev pub data_formats : ℕ → FormatPair
data_formats size = record { out = data_bytes size; cap = data_bytes size }

-- whether a job runs
abbrev pub job_mark : Bool → Option Running
job_mark true = Some some_job
job_mark false = None

-- A copying context. It has no geometry, no controls, no events and no codec, and never drains.
abbrev pub copier_state : ℕ → QueueState → QueueState → Bool → Context
copier_state size out cap running =
    record {
      kind = Copy;
      formats = data_formats size;
      geometry = None;
      rates = default_rates;
      out = out;
      cap = cap;
      phase = run;
      mark = None;
      events = no_events;
      codec = no_codec;
      running = job_mark running;
    }

-- The buffers of the job are given: a job of a copying context has these data.
pub record IsGiven (j : JobData) (source_lent dest_lent : Lent) (data_format : Format) : Type 0 where
  pub sort : j.sort ≡ copy
  pub codec : j.codec ≡ no_codec
  pub source : IsLent j.source source_lent
  pub dest : IsDest j.dest (Some dest_lent.payload.items)
  pub geometry : j.geometry ≡ None
  pub format : data_format ≡ j.format
  pub limit : data_format.size ≡ j.limit
  pub rates : j.rates ≡ default_rates

-- the data of the job that the context gives at a claim
abbrev pub claimed_data : Context → JobData
claimed_data c = job_data (after_claim c) (running_of c copy)

-- how many bytes of the destination are used, and its flags, after a copy run or where there was none
abbrev pub brought_used : Result Outcome EngineFault → ℕ
brought_used (Ok (Copied used)) = used
brought_used result = 0

abbrev pub brought_flags : Result Outcome EngineFault → ℕ
brought_flags (Ok (Copied used)) = 0
brought_flags result = error_flag
