-- Worked rows of blocks, planes, headers and frame places.
-- They are computed from the rules of docs/FORMAT.md: "Words and planes", "Transform", "Headers" and "Frame places".
use Rattle.std.specs.Prelude.{◌≡◌, ℕ, ℤ, pos, negsuc, List, [], ◌∷◌, ◌++◌, map, take, drop, replicate, Bool, true, false}
use Rattle.std.specs.List.{range_with_len}
use Rattle.std.specs.declared.option.Option.{Option}
use Rattle.std.specs.declared.option.Option.TheVariants.{Some, None}
use Rattle.vc_defs.specs.declared.Layout.{Layout}
use Rattle.vc_defs.specs.declared.Layout.TheVariants.{C420, C422}
use Rattle.vc_defs.specs.declared.Header.{Header}
use Rattle.vc_defs.specs.Walsh.{transformed}
use Rattle.vc_defs.specs.Quantiser.{dequantised}
use Rattle.vc_defs.specs.Words.{canon, values_from, words_bytes}
use Rattle.vc_defs.specs.Planes.{Block, canon_plane}
use Rattle.vc_defs.specs.Headers.{magic, header_bytes, header_from, flags_of}
use Rattle.vc_defs.specs.Places.{Frame, places, is_claimed}
use Rattle.vc_defs.specs.Named.{frame_f, frame_f4, frame_g4, frame_of, small, zeros_body}

-- so many values of 0
abbrev pub zeros : ℕ → List ℤ
zeros n = replicate n (pos 0)

-- the words that an encoder writes for a block's values in scan order
pub record WordsOfBlocks : Type 0 where
  pub all_zero : canon (zeros 64) ≡ 0x000f ∷ []
  pub greatest_first : canon (pos 2032 ∷ zeros 63) ≡ 0x7f00 ∷ 0x000f ∷ []
  pub least_first : canon (negsuc 2047 ∷ zeros 63) ≡ 0x8000 ∷ 0x000f ∷ []
  pub run_of_15 : canon (zeros 15 ++ pos 25 ∷ zeros 48) ≡ 0x000e ∷ 0x0190 ∷ 0x000f ∷ []
  pub run_of_14 : canon (zeros 14 ++ negsuc 24 ∷ zeros 49) ≡ 0xfe7e ∷ 0x000f ∷ []
  pub last_alone : canon (zeros 63 ++ pos 30 ∷ []) ≡ 0x000e ∷ 0x000e ∷ 0x000e ∷ 0x000e ∷ 0x01e3 ∷ []
  pub zero_at_end : canon (replicate 63 (pos 21) ++ zeros 1) ≡ replicate 63 0x0150 ++ 0x0000 ∷ []
  pub zeros_at_end : canon (replicate 50 (pos 21) ++ zeros 14) ≡ replicate 50 0x0150 ++ 0x000d ∷ []

-- what is read of words, and which are no block
pub record BlocksOfWords : Type 0 where
  pub read_with_rest : values_from 64 (words_bytes (0x000e ∷ 0x0190 ∷ 0x000f ∷ 0x0006 ∷ [])) ≡ Some (zeros 15 ++ pos 25 ∷ zeros 48, 0x00 ∷ 0x06 ∷ [])
  pub passes_the_end : values_from 64 (words_bytes (0x000e ∷ 0x000e ∷ 0x000e ∷ 0x000e ∷ 0x0004 ∷ [])) ≡ None
  pub no_word : values_from 64 (words_bytes (0x001f ∷ [])) ≡ None
  pub bytes_end : values_from 64 (words_bytes (0x0150 ∷ [])) ≡ None

-- the inverse of the greatest first value of an I block
abbrev pub GreatestInverse : Type 0
GreatestInverse = transformed (dequantised (pos 2032 ∷ zeros 63) true) ≡ replicate 64 (pos 8128)

-- an I block whose values are all 0
abbrev pub zero_block : Block
zero_block = record { inter = false; values = zeros 64 }

-- the bytes of as many blocks as one entry stands for at most, and of one more
pub record RepeatsOfBlocks : Type 0 where
  pub most_repeats : canon_plane (replicate 4096 zero_block) ≡ 0x1f ∷ 0xfe ∷ 0x00 ∷ 0x0f ∷ []
  pub one_block_more : canon_plane (replicate 4097 zero_block) ≡ 0x1f ∷ 0xfe ∷ 0x00 ∷ 0x0f ∷ 0x00 ∷ 0x00 ∷ 0x00 ∷ 0x0f ∷ []

-- the header of a grey frame of 16 by 16 with a body of four bytes
abbrev pub small_header : Option ℕ → Bool → Header
small_header number key = record { geometry = small; key = key; raw = false ∷ false ∷ false ∷ []; colour = 0 ∷ 0 ∷ 0 ∷ 0 ∷ []; size = 4; number = number }

-- that of an I frame with chroma
abbrev pub chroma_header : Option ℕ → Layout → Header
chroma_header number layout = record (small_header number true) { geometry = record { width = 16; height = 16; layout = layout } }

-- the bytes and flags of headers, and what is read of bytes under a limit
pub record BytesOfHeaders : Type 0 where
  pub header_of_f : header_bytes (small_header None true) ≡ take 44 frame_f
  pub header_of_f4 : header_bytes (small_header (Some 0) true) ≡ take 44 frame_f4
  pub header_of_g4 : header_bytes (small_header (Some 1) false) ≡ take 44 (frame_g4 0x00280000)
  pub number_seven : drop 20 (header_bytes (small_header (Some 7) false)) ≡ 0x00 ∷ 0xe8 ∷ 0x00 ∷ 0x00 ∷ (replicate 16 0 ++ 0 ∷ 0 ∷ 0 ∷ 4 ∷ [])
  pub flags_420 : flags_of (chroma_header (Some 0) C420) ≡ 0x000a0400
  pub flags_422 : flags_of (chroma_header None C422) ≡ 0x000a0480
  pub read_back : header_from 556 (take 44 frame_f) ≡ Some (small_header None true)
  pub size_above_limit : header_from 3 (take 44 frame_f) ≡ None
  pub colour_above_255 : header_from 556 (take 44 (frame_of 3 16 16 0x00080400 256 4 [])) ≡ None

abbrev pub is_whole : Option (List ℕ) → Bool
is_whole None = false
is_whole (Some body) = true

-- the known frames: where each begins and ends, and whether it is whole
abbrev pub spans : List ℕ → ℕ → List (ℕ × ℕ × Bool)
spans bytes limit = map (λ (f : Frame). (f.position, f.end, is_whole f.body)) (places bytes limit).frames

-- a frame with this size field, and one behind it
abbrev pub sized_before_f : ℕ → List ℕ
sized_before_f size = frame_of 3 16 16 0x00080400 0 size zeros_body ++ frame_f

-- the places of frames where the bytes are hostile
pub record PlacesOfFrames : Type 0 where
  pub after_a_magic : spans (magic ++ frame_f) 556 ≡ (8, 56, true) ∷ []
  pub magic_unclaimed : map (is_claimed (places (magic ++ frame_f) 556).frames) (range_with_len 0 9) ≡ replicate 8 false ++ true ∷ []
  pub cut_at_41 : spans (take 41 frame_f ++ frame_f) 17694720 ≡ (0, 41, false) ∷ (41, 89, true) ∷ []
  pub sizes_at_41 : map (λ (f : Frame). f.header.size) (places (take 41 frame_f ++ frame_f) 17694720).frames ≡ 0x004f4f4f ∷ 4 ∷ []
  pub above_limit_at_41 : spans (take 41 frame_f ++ frame_f) 556 ≡ (41, 89, true) ∷ []
  pub one_byte_of_next : spans (sized_before_f 5) 556 ≡ (0, 49, true) ∷ (48, 96, true) ∷ []
  pub cut_by_next : spans (sized_before_f 0x20) 556 ≡ (0, 48, false) ∷ (48, 96, true) ∷ []
