-- What a run of a decoder or of a probe comes to.
-- Runs are docs/DEVICE.md, "Runs"; results are docs/FORMAT.md, "The sequential decoder".
use Rattle.std.specs.Prelude.{◌≡◌, ℕ, List, length, true}
use Rattle.std.specs.declared.option.Option.{Option}
use Rattle.std.specs.declared.option.Option.TheVariants.{Some, None}
use Rattle.vc_base.specs.declared.Stamp.{Stamp}
use Rattle.vc_defs.specs.declared.Geometry.{Geometry}
use Rattle.vc_defs.specs.Headers.{is_legal_geometry}
use Rattle.vc_defs.specs.Decoder.{DecodedResult, DecodedStep, picture, damaged, changed, spent, decode}
use Rattle.vc_resync.specs.Assembling.{AssemblyState}
use Rattle.vc_work.specs.References.{CodecReference}
use Rattle.vc_stream_run.specs.declared.decoded.Decoded.{Decoded}
use Rattle.vc_stream_run.specs.declared.decoded.Decoded.TheVariants.{Picture, Damaged, Changed, Spent}
pub use Rattle.vc_work.specs.Streams.{decoder_of, IsInStep}
pub use Rattle.vc_work.specs.Runs.{shown_in}

-- the next result of a decoder of this geometry, from bytes that have one stamp
abbrev pub next_of : Geometry → CodecReference → AssemblyState → List ℕ → Stamp → DecodedStep
next_of geometry reference assembly source stamp =
    decode (decoder_of reference.state.reference assembly.kept) (Some geometry) assembly.limit source stamp

-- the same of a probe, which has neither geometry nor reference
abbrev pub next_of_probe : AssemblyState → List ℕ → Stamp → DecodedStep
next_of_probe assembly source stamp = decode (decoder_of None assembly.kept) None assembly.limit source stamp

-- a result, as a run tells it: the bytes of a picture stand in the destination
abbrev pub answer_of : DecodedResult → Decoded
answer_of (picture bytes key stamp) = Picture (length bytes) key stamp
answer_of (damaged stamp) = Damaged stamp
answer_of (changed geometry) = Changed geometry
answer_of spent = Spent

-- the geometry behind a run: a change brings the new one
abbrev pub geometry_behind : Decoded → Option Geometry → Option Geometry
geometry_behind (Picture used key stamp) present = present
geometry_behind (Damaged stamp) present = present
geometry_behind (Changed geometry) present = Some geometry
geometry_behind Spent present = present

-- headers alone were looked at: no picture, and no damaged frame
abbrev pub IsOfHeaders : Decoded → Type 0
IsOfHeaders (Picture used key stamp) = ⊥
IsOfHeaders (Damaged stamp) = ⊥
IsOfHeaders (Changed geometry) = Unit {0}
IsOfHeaders Spent = Unit {0}

-- a geometry that a change brings is legal
abbrev pub IsLegalChange : Decoded → Type 0
IsLegalChange (Picture used key stamp) = Unit {0}
IsLegalChange (Damaged stamp) = Unit {0}
IsLegalChange (Changed geometry) = is_legal_geometry geometry ≡ true
IsLegalChange Spent = Unit {0}
