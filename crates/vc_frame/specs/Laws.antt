-- What holds of frames that are written and read again.
use Rattle.std.specs.Prelude.{◌≡◌, ℕ, ◌+◌, ◌%◌, List, take, drop}
use Rattle.std.specs.declared.option.Option.{Option}
use Rattle.std.specs.declared.option.Option.TheVariants.{Some, None}
use Rattle.vc_base.specs.declared.Format.{Format}
use Rattle.vc_defs.specs.declared.Geometry.{Geometry}
use Rattle.vc_defs.specs.declared.Header.{Header}
use Rattle.vc_defs.specs.Headers.{header_from}
use Rattle.vc_base.specs.Limits.{most_bytes}
use Rattle.vc_defs.specs.Bodies.{IsPicture}
use Rattle.vc_defs.specs.Raw.{raw_of, geometry_of}
use Rattle.vc_defs.specs.Decoder.{ReferenceState, frame_planes}
use Rattle.vc_defs.specs.Encoder.{RunRates, EncoderState, encode}
use Rattle.vc_defs.specs.Laws.{IsRawFormat, IsEncoderState}
use Rattle.vc_frame.specs.Frames.{picture_of}

-- the next frame has the number after that of the reference, where there is one
abbrev pub CountsOn : Option ReferenceState → ℕ → Type 0
CountsOn None next = Unit {0}
CountsOn (Some r) next = (before : ℕ) × ((r.number ≡ Some before) × (next ≡ (before + 1) % 2048))

-- the state of an encoder, over pictures of the geometry, whose frames a decoder reads in their order
abbrev pub IsFollowed : Geometry → EncoderState → Type 0
IsFollowed g s = IsEncoderState g s × CountsOn s.reference s.since_reset

-- No drift, frame by frame: of a frame that is encoded, a decoder with the encoder's reference reads the header in its
-- first 44 bytes, and the rest gives it exactly the encoder's new reference. So it is with the frame after it.
abbrev pub FramesComeBack : Type 0
FramesComeBack = (s : EncoderState) (format : Format) (rates : RunRates) (planes : List (List ℕ)) →
    IsRawFormat format → IsPicture (geometry_of format) planes → IsFollowed (geometry_of format) s →
    let frame = encode s format rates (raw_of format.fourcc planes) in
    (h : Header) × ((header_from most_bytes (take 44 frame.bytes) ≡ Some h)
    × (picture_of h (frame_planes h s.reference (drop 44 frame.bytes)) ≡ frame.state.reference)
    × IsFollowed (geometry_of format) frame.state)
