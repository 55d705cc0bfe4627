-- What options may be.
use Rattle.std.specs.Prelude.{ℕ, ◌≤◌}
use Rattle.vc_base.specs.Limits.{most_gop, most_quantiser, most_slots, script_workers}
use Rattle.vc_defs.specs.Laws.{IsRawFormat}
use Rattle.vc_words.specs.declared.command.Command.{Command}
use Rattle.vc_words.specs.declared.command.Command.TheVariants.{Script, Encode, Decode, Make, Share, Transcode, Audit, Wire}
use Rattle.vc_words.specs.declared.command.ScriptOptions.{ScriptOptions}
use Rattle.vc_words.specs.declared.command.RateOptions.{RateOptions}
use Rattle.vc_words.specs.declared.command.EncodeOptions.{EncodeOptions}
use Rattle.vc_words.specs.declared.command.DecodeOptions.{DecodeOptions}
use Rattle.vc_words.specs.declared.command.MakeOptions.{MakeOptions}
use Rattle.vc_words.specs.declared.command.ShareOptions.{ShareOptions}
use Rattle.vc_words.specs.declared.command.TranscodeOptions.{TranscodeOptions}
use Rattle.vc_words.specs.declared.command.AuditOptions.{AuditOptions}
use Rattle.vc_words.specs.declared.command.WireOptions.{WireOptions}

abbrev pub IsBetween : ℕ → ℕ → ℕ → Type 0
IsBetween least most n = (least ≤ n) × (n ≤ most)

pub record AreRates (rates : RateOptions) : Type 0 where
  pub gop : IsBetween 1 most_gop rates.gop
  pub iqp : IsBetween 1 most_quantiser rates.iqp
  pub pqp : IsBetween 1 most_quantiser rates.pqp

abbrev pub IsScript : ScriptOptions → Type 0
IsScript options = IsBetween 1 most_slots options.slots

pub record IsEncode (options : EncodeOptions) : Type 0 where
  pub raw : IsRawFormat options.format
  pub rates : AreRates options.rates
  pub workers : IsBetween 1 script_workers options.workers

abbrev pub IsDecode : DecodeOptions → Type 0
IsDecode options = IsBetween 1 script_workers options.workers

pub record IsMake (options : MakeOptions) : Type 0 where
  pub raw : IsRawFormat options.format
  pub pictures : IsBetween 1 1000000 options.pictures
  pub number : options.number ≤ 1000000

pub record IsShare (options : ShareOptions) : Type 0 where
  pub contexts : IsBetween 1 64 options.contexts
  pub raw : IsRawFormat options.format
  pub pictures : IsBetween 1 1000 options.pictures
  pub number : options.number ≤ 1000000
  pub workers : IsBetween 1 script_workers options.workers

pub record IsTranscode (options : TranscodeOptions) : Type 0 where
  pub rates : AreRates options.rates
  pub workers : IsBetween 1 script_workers options.workers

abbrev pub IsAudit : AuditOptions → Type 0
IsAudit options = IsBetween 1 most_slots options.slots

abbrev pub IsWire : WireOptions → Type 0
IsWire options = IsBetween 1 most_slots options.slots

-- each option lies in its range
abbrev pub IsInRange : Command → Type 0
IsInRange (Script options) = IsScript options
IsInRange (Encode options) = IsEncode options
IsInRange (Decode options) = IsDecode options
IsInRange (Make options) = IsMake options
IsInRange (Share options) = IsShare options
IsInRange (Transcode options) = IsTranscode options
IsInRange (Audit options) = IsAudit options
IsInRange (Wire options) = IsWire options
