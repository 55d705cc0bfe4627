-- What feeding tells of named frames in pieces, and what the commands count. Each row is computed: that a header was
-- told, that a frame was, or that nothing is left to be told.
use Rattle.std.proofs.Common.{◌≡◌, ℕ, List, [], ◌∷◌, ◌++◌, refl, take, drop, replicate}
use Rattle.std.specs.Prelude.{true, false, zero, suc}
use Rattle.std.specs.declared.option.Option.{Option}
use Rattle.std.specs.declared.option.Option.TheVariants.{Some, None}
use Rattle.vc_base.specs.declared.Stamp.{Stamp}
use Rattle.vc_defs.specs.Headers.{header_bytes, header_from, is_legal}
use Rattle.vc_base.specs.Limits.{most_bytes}
use Rattle.vc_defs.specs.Words.{from_scan_order, scan_number}
use Rattle.vc_defs.specs.Walsh.{transformed, coefficient, walsh}
use Rattle.vc_defs.specs.Quantiser.{dequantised, shift_at}
use Rattle.vc_defs.specs.Planes.{block_of, samples_of, decoded_blocks, decoded_plane, plane_of, padded_plane, unpadded}
use Rattle.vc_defs.specs.Bodies.{body_planes}
use Rattle.vc_defs.specs.Raw.{yu12}
use Rattle.vc_defs.specs.Places.{places, look}
use Rattle.vc_defs.specs.Finds.{Find, Head, Ended, KeptBytes, nothing_kept, fed, finds}
use Rattle.vc_defs.specs.Decoder.{results, given_in}
use Rattle.vc_defs.specs.Outputs.{is_short_raw, result_count}
use Rattle.vc_defs.specs.Named.{frame_f, frame_g, frame_h, frame_of, zeros_body}

-- What a call said, in short: that a header was told, that a frame was, or that nothing is left to be told.
data Word : Type 0 where
  head : Word
  cut : Word
  whole : Word
  more : Word

abbrev word_of : Option Find → Word
word_of None = more
word_of (Some (Head position h)) = head
word_of (Some (Ended f)) = elim f.body as (λ _. Word) [ None ↦ cut | Some body ↦ whole ]

-- what calls say and how far each went, where each piece is fed until nothing is left of it to be told
words : ℕ → ℕ → KeptBytes → List ℕ → Stamp → List (Word × ℕ)
words zero limit kept piece stamp = []
words (suc calls) limit kept piece stamp =
    let step = fed kept limit piece stamp in
    (word_of step.told, step.moved) ∷ words calls limit step.kept (drop step.moved piece) stamp

whole_at_once : words 7 most_bytes nothing_kept (frame_f ++ frame_of 3 16 16 0x00080400 0 0x20 zeros_body ++ frame_g) (record { 0 = 1 }) ≡ (head, 44) ∷ (whole, 4) ∷ (head, 44) ∷ (cut, 12) ∷ (head, 36) ∷ (whole, 4) ∷ (more, 0) ∷ []
unfolding words fed finds places look header_from header_bytes is_legal
whole_at_once = refl

empty_body : words 3 most_bytes nothing_kept (frame_of 3 16 16 0x00080400 0 0 [] ++ take 5 frame_f) (record { 0 = 1 }) ≡ (head, 44) ∷ (whole, 0) ∷ (more, 5) ∷ []
unfolding words fed finds places look header_from header_bytes is_legal
empty_body = refl

-- a picture of 384 bytes and one byte more
short_raw : is_short_raw yu12 16 16 (replicate 385 0) ≡ true
unfolding is_short_raw
short_raw = refl

not_short_raw : is_short_raw yu12 16 16 (replicate 768 0) ≡ false
unfolding is_short_raw
not_short_raw = refl

three_results : result_count (frame_f ++ frame_h ++ take 46 frame_h ++ frame_f) ≡ 4
unfolding result_count results given_in places look header_from header_bytes is_legal body_planes from_scan_order scan_number dequantised transformed
    coefficient walsh shift_at samples_of block_of decoded_blocks decoded_plane plane_of padded_plane unpadded
three_results = refl
