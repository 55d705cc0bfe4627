-- What a decoder keeps of its stream from run to run, and when it all belongs together.
-- States and results are docs/FORMAT.md, "The sequential decoder"; runs are docs/DEVICE.md, "Runs".
use Rattle.std.specs.Prelude.{◌≡◌, ℕ, List, length}
use Rattle.std.specs.declared.option.Option.{Option}
use Rattle.std.specs.declared.option.Option.TheVariants.{Some, None}
use Rattle.vc_base.specs.declared.Stamp.{Stamp}
use Rattle.vc_defs.specs.declared.Geometry.{Geometry}
use Rattle.vc_defs.specs.Finds.{KeptBytes, nothing_kept}
use Rattle.vc_defs.specs.Decoder.{ReferenceState, DecoderState}
use Rattle.vc_defs.specs.Laws.{kept_at, present_at}
use Rattle.vc_resync.specs.Assembling.{AssemblyState}
use Rattle.vc_resync.specs.Decoding.{InStep}
use Rattle.vc_work.specs.References.{CodecReference}

-- the state of a decoder, from its reference and from what its assembly keeps
abbrev pub decoder_of : Option ReferenceState → KeptBytes → DecoderState
decoder_of reference kept = record { reference = reference; tail = kept.tail; first_stamp = kept.first_stamp; last_stamps = kept.last_stamps }

-- What is kept and what the decoder has belong together: since it began anew, with a geometry or none, some bytes were
-- consumed, so many headers and frames of them told, and so many results given.
pub record IsInStep (limit : ℕ) (geometry : Option Geometry) (reference : Option ReferenceState) (kept : KeptBytes) : Type 0 where
  pub begun : Option Geometry
  pub bytes : List ℕ
  pub stamps : List Stamp
  pub told : ℕ
  pub given : ℕ
  pub long : length stamps ≡ length bytes
  pub in_step : InStep limit begun bytes told given
  pub keeps : kept ≡ kept_at bytes stamps limit told
  pub has : record { geometry = geometry; reference = reference } ≡ present_at bytes limit begun given

-- A decoder that has begun anew is in step, whatever its geometry.
abbrev pub BeginsInStep : Type 0
BeginsInStep = (limit : ℕ) (geometry : Option Geometry) → IsInStep limit geometry None nothing_kept

-- the picture of a reference, where there is one and has it
abbrev pub picture_of : Option CodecReference → Option ReferenceState
picture_of None = None
picture_of (Some r) = r.state.reference

-- the bytes that an assembly keeps, where there is one
abbrev pub kept_of : Option AssemblyState → KeptBytes
kept_of None = nothing_kept
kept_of (Some a) = a.kept

-- the assembly is there, for bodies of so many bytes, and what it keeps belongs to the geometry and the picture
abbrev pub HasStream : ℕ → Option Geometry → Option ReferenceState → Option AssemblyState → Type 0
HasStream limit geometry picture None = ⊥
HasStream limit geometry picture (Some a) = (a.limit ≡ limit) × IsInStep limit geometry picture a.kept

-- The picture that is kept is of the stream's geometry.
abbrev pub KeepsGeometry : Type 0
KeepsGeometry = (limit : ℕ) (geometry : Option Geometry) (r : ReferenceState) (kept : KeptBytes) →
    IsInStep limit geometry (Some r) kept → geometry ≡ Some r.geometry
