-- The outcomes of a decoder's runs over named streams, cut into buffers in several ways. Each row is computed: a run
-- after the other, where a buffer whose cursor moved is run again.
use Rattle.std.proofs.Common.{◌≡◌, ℕ, ◌+◌, List, [], ◌∷◌, ◌++◌, refl, take, drop, length, replicate}
use Rattle.std.specs.Prelude.{true}
use Rattle.vc_defs.specs.Headers.{header_bytes, header_from, is_legal}
use Rattle.vc_defs.specs.Places.{places, look}
use Rattle.vc_defs.specs.Words.{from_scan_order, scan_number}
use Rattle.vc_defs.specs.Walsh.{transformed, coefficient, walsh}
use Rattle.vc_defs.specs.Quantiser.{dequantised, shift_at}
use Rattle.vc_defs.specs.Planes.{block_of, samples_of, decoded_blocks, decoded_plane, plane_of, padded_plane, unpadded}
use Rattle.vc_defs.specs.Bodies.{body_planes}
use Rattle.vc_defs.specs.Raw.{raw_of}
use Rattle.std.specs.Prelude.{zero, suc, nat_lt, if◌then◌else◌}
use Rattle.std.specs.declared.option.Option.{Option}
use Rattle.std.specs.declared.option.Option.TheVariants.{Some, None}
use Rattle.vc_base.specs.declared.Stamp.{Stamp}
use Rattle.vc_defs.specs.declared.Geometry.{Geometry}
use Rattle.vc_defs.specs.Raw.{grey}
use Rattle.vc_defs.specs.Decoder.{results, given_in, DecoderState, fresh_decoder, DecodedResult, picture, damaged, changed, spent, decode, step_outcome, geometry_after}
use Rattle.vc_defs.specs.Named.{frame_f, frame_g, frame_of, zeros_body, grey_bytes, small}

abbrev stamp : ℕ → Stamp
stamp n = record { 0 = n }

-- An OUTPUT buffer from its cursor on.
record Source : Type 0 where
  bytes : List ℕ
  stamp : Stamp

-- the buffers after a run: the first one is used up, or its cursor has moved
abbrev sources_after : DecodedResult → ℕ → Source → List Source → List Source
sources_after spent moved source later = later
sources_after (changed g) moved source later = record { bytes = drop moved source.bytes; stamp = source.stamp } ∷ later
sources_after _ moved source later =
    if nat_lt moved (length source.bytes) then record { bytes = drop moved source.bytes; stamp = source.stamp } ∷ later else later

-- the outcomes of so many runs
outcomes : ℕ → ℕ → Option Geometry → DecoderState → List Source → List DecodedResult
outcomes zero limit g state sources = []
outcomes (suc runs) limit g state [] = []
outcomes (suc runs) limit g state (source ∷ later) =
    let step = decode state g limit source.bytes source.stamp in
    let outcome = step_outcome grey step in
    outcome ∷ outcomes runs limit (geometry_after step.given g) step.state (sources_after outcome step.moved source later)

-- one byte a buffer
abbrev single_bytes : ℕ → List ℕ → List Source
single_bytes n [] = []
single_bytes n (b ∷ bytes) = record { bytes = b ∷ []; stamp = stamp n } ∷ single_bytes (n + 1) bytes

in_48_pieces : outcomes 49 556 None fresh_decoder (single_bytes 100 frame_f) ≡ replicate 43 spent ++ changed small ∷ (replicate 4 spent ++ picture (grey_bytes 256) true (stamp 100) ∷ [])
unfolding outcomes decode raw_of results given_in places look header_from header_bytes is_legal body_planes from_scan_order scan_number dequantised
    transformed coefficient walsh shift_at samples_of block_of decoded_blocks decoded_plane plane_of padded_plane unpadded
in_48_pieces = refl

two_in_one : outcomes 3 556 None fresh_decoder (record { bytes = frame_f ++ frame_f; stamp = stamp 9 } ∷ []) ≡ changed small ∷ picture (grey_bytes 256) true (stamp 9) ∷ picture (grey_bytes 256) true (stamp 9) ∷ []
unfolding outcomes decode raw_of results given_in places look header_from header_bytes is_legal body_planes from_scan_order scan_number dequantised
    transformed coefficient walsh shift_at samples_of block_of decoded_blocks decoded_plane plane_of padded_plane unpadded
two_in_one = refl

cut_by_the_next : outcomes 3 556 None fresh_decoder (record { bytes = take 46 frame_f ++ frame_f; stamp = stamp 3 } ∷ []) ≡ changed small ∷ damaged (stamp 3) ∷ picture (grey_bytes 256) true (stamp 3) ∷ []
unfolding outcomes decode raw_of results given_in places look header_from header_bytes is_legal body_planes from_scan_order scan_number dequantised
    transformed coefficient walsh shift_at samples_of block_of decoded_blocks decoded_plane plane_of padded_plane unpadded
cut_by_the_next = refl

into_the_next : outcomes 3 556 None fresh_decoder (record { bytes = frame_of 3 16 16 0x00080400 0 0x20 zeros_body ++ frame_f; stamp = stamp 3 } ∷ []) ≡ changed small ∷ damaged (stamp 3) ∷ picture (grey_bytes 256) true (stamp 3) ∷ []
unfolding outcomes decode raw_of results given_in places look header_from header_bytes is_legal body_planes from_scan_order scan_number dequantised
    transformed coefficient walsh shift_at samples_of block_of decoded_blocks decoded_plane plane_of padded_plane unpadded
into_the_next = refl

after_a_seek : outcomes 2 556 (Some small) fresh_decoder (record { bytes = frame_g; stamp = stamp 20 } ∷ record { bytes = frame_f; stamp = stamp 21 } ∷ []) ≡ spent ∷ picture (grey_bytes 256) true (stamp 21) ∷ []
unfolding outcomes decode raw_of results given_in places look header_from header_bytes is_legal body_planes from_scan_order scan_number dequantised
    transformed coefficient walsh shift_at samples_of block_of decoded_blocks decoded_plane plane_of padded_plane unpadded
after_a_seek = refl

above_the_limit : outcomes 2 64 None fresh_decoder (record { bytes = frame_of 3 16 16 0x00080400 0 0x41 zeros_body; stamp = stamp 1 } ∷ record { bytes = frame_f; stamp = stamp 2 } ∷ []) ≡ spent ∷ changed small ∷ []
unfolding outcomes decode raw_of results given_in places look header_from header_bytes is_legal body_planes from_scan_order scan_number dequantised
    transformed coefficient walsh shift_at samples_of block_of decoded_blocks decoded_plane plane_of padded_plane unpadded
above_the_limit = refl
