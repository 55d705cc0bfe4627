-- The work of an encoder's job (docs/DEVICE.md, "Runs"; "Encoding" of the stateful encoder).
use Rattle.std.specs.Prelude.{◌≡◌, ◌≤◌, ◌+◌, vec_len, length, true, false, if◌then◌else◌, Option, Some, None, Result, Ok}
use Rattle.vc_base.specs.declared.Format.{Format}
use Rattle.vc_base.specs.Limits.{keyframe_flag, pframe_flag, error_flag, header_size}
use Rattle.vc_defs.specs.Bodies.{padded_sum}
use Rattle.vc_defs.specs.Laws.{IsRawFormat, AreRates}
use Rattle.vc_model.specs.Context.{encode}
use Rattle.vc_model.specs.Coder.{encoder}
use Rattle.vc_model.specs.Runs.{JobData}
use Rattle.vc_queue.specs.declared.queue.Lent.{Lent}
use Rattle.vc_queue.specs.Lending.{IsLent}
use Rattle.vc_work.specs.References.{CodecReference}
use Rattle.vc_defs.specs.Raw.{geometry_of}
use Rattle.vc_work.specs.Runs.{HasReference, coder_state, run_rates}
use Rattle.vc_work.specs.declared.work.Rates.{Rates}
use Rattle.vc_work.specs.declared.engine.Outcome.{Outcome}
use Rattle.vc_work.specs.declared.engine.Outcome.TheVariants.{Encoded}
use Rattle.vc_work.specs.declared.engine.EngineFault.{EngineFault}
use Rattle.vc_context.specs.Works.{IsDest}
use Rattle.vc_enc.specs.declared.jobs.RunEnd.{RunEnd}

-- The buffers and the reference of the job are given: a job of an encoder has these data.
pub record IsGiven (j : JobData) (source_lent dest_lent : Lent) (reference : Option CodecReference) (raw : Format) (asked : Rates) : Type 0 where
  pub sort : j.sort ≡ encode
  pub codec : j.codec ≡ encoder (coder_state reference)
  pub source : IsLent j.source source_lent
  pub dest : IsDest j.dest (Some dest_lent.payload.items)
  pub geometry : j.geometry ≡ None
  pub format : raw ≡ j.format
  pub limit : raw.size ≡ j.limit
  pub rates : run_rates asked ≡ j.rates

-- The picture can be encoded: it is a whole one of the format, there is room for any frame that it can become, and a
-- reference for it.
pub record CanEncode (source_lent dest_lent : Lent) (reference : Option CodecReference) (format : Format) (rates : Rates) : Type 0 where
  pub filled : source_lent.used ≤ vec_len source_lent.payload
  pub whole : source_lent.used ≡ format.size
  pub room : header_size + padded_sum (geometry_of format) ≤ length dest_lent.payload.items
  pub picture : HasReference format reference
  pub raw : IsRawFormat format
  pub range : AreRates (run_rates rates)

-- what a run leaves of its buffers: the frame, or after a fault ERROR on both
abbrev pub end_of : Result Outcome EngineFault → RunEnd
end_of (Ok (Encoded used key)) =
    record { used = used; source_flags = 0; dest_flags = if key then keyframe_flag else pframe_flag; fault = false }
end_of other =
    record { used = 0; source_flags = error_flag; dest_flags = error_flag; fault = true }
