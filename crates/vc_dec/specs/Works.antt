-- The work of a decoder's job (docs/DEVICE.md, "Runs").
use Rattle.std.specs.Prelude.{◌≡◌, ◌≤◌, ℕ, vec_len, length, Option, Some, None, []}
use Rattle.vc_base.specs.declared.Format.{Format}
use Rattle.vc_defs.specs.declared.Geometry.{Geometry}
use Rattle.vc_defs.specs.Encoder.{default_rates}
use Rattle.vc_defs.specs.Laws.{IsRawFormat}
use Rattle.vc_model.specs.Context.{decode, probe}
use Rattle.vc_model.specs.Coder.{decoder}
use Rattle.vc_model.specs.Runs.{JobData}
use Rattle.vc_queue.specs.declared.queue.Lent.{Lent}
use Rattle.vc_queue.specs.Lending.{IsLent}
use Rattle.vc_resync.specs.Assembling.{AssemblyState}
use Rattle.vc_work.specs.References.{CodecReference}
use Rattle.vc_work.specs.Streams.{decoder_of, picture_of, kept_of, HasStream}
use Rattle.vc_defs.specs.Raw.{geometry_of}
use Rattle.vc_work.specs.Runs.{HasArea}
use Rattle.vc_context.specs.Works.{IsDest, IsAsLong}
use Rattle.vc_dec.specs.Parts.{limit_of}

-- What every job of a decoder has of these parts of it: the source, the state that is in the reference and in the assembly, the
-- raw format, and the bound on the bodies of frames, for which the assembly is made.
pub record IsPartOf (j : JobData) (source_lent : Lent) (reference : Option CodecReference) (assembly : Option AssemblyState) (raw : Format) (most : ℕ) : Type 0 where
  pub codec : j.codec ≡ decoder (decoder_of (picture_of reference) (kept_of assembly))
  pub source : IsLent j.source source_lent
  pub format : raw ≡ j.format
  pub limit : most ≡ j.limit
  pub bodies : limit_of assembly ≡ Some j.limit
  pub rates : default_rates ≡ j.rates

-- The buffer and the assembly are given: a probe of a decoder has these data.
pub record IsProbeOf (j : JobData) (source_lent : Lent) (assembly : Option AssemblyState) (raw : Format) (most : ℕ) : Type 0 where
  pub sort : j.sort ≡ probe
  pub parts : IsPartOf j source_lent None assembly raw most
  pub dest : j.dest ≡ []
  pub geometry : j.geometry ≡ None

-- The buffers, the reference and the assembly are given: a decode run of a decoder has these data.
pub record IsRunOver (j : JobData) (source_lent dest_lent : Lent) (reference : Option CodecReference) (assembly : Option AssemblyState) (found : Option Geometry) (raw : Format) (most : ℕ) : Type 0 where
  pub sort : j.sort ≡ decode
  pub parts : IsPartOf j source_lent reference assembly raw most
  pub dest : IsDest j.dest (Some dest_lent.payload.items)
  pub long : IsAsLong j.dest reference
  pub geometry : found ≡ j.geometry

-- the used bytes of a buffer are there, and no more of them were consumed
pub record IsPiece (source_lent : Lent) : Type 0 where
  pub filled : source_lent.used ≤ vec_len source_lent.payload
  pub begun : source_lent.cursor ≤ source_lent.used

-- The bytes can be looked through for a header: what is kept of the stream is there, which has no geometry yet.
pub record CanProbe (source_lent : Lent) (assembly : Option AssemblyState) (limit : ℕ) : Type 0 where
  pub piece : IsPiece source_lent
  pub stream : HasStream limit None None assembly

-- The bytes can be decoded: there is room for a picture of the raw format, which is that of the stream's geometry, in the
-- destination and in the reference, and what is kept of the stream is there.
pub record CanDecode (source_lent dest_lent : Lent) (reference : Option CodecReference) (assembly : Option AssemblyState) (geometry : Option Geometry) (format : Format) (limit : ℕ) : Type 0 where
  pub piece : IsPiece source_lent
  pub raw : IsRawFormat format
  pub same : geometry ≡ Some (geometry_of format)
  pub room : format.size ≤ length dest_lent.payload.items
  pub area : HasArea format.size reference
  pub stream : HasStream limit geometry (picture_of reference) assembly
