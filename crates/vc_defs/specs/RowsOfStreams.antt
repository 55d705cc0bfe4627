-- Worked rows of streams: what decoders give for them, and encoders write.
-- They are computed from the rules of docs/FORMAT.md: "The sequential decoder", "The sequential encoder", "Words and
-- planes", "Frame places" and "Raw pictures".
use Rattle.std.specs.Prelude.{◌≡◌, ℕ, ◌+◌, List, [], ◌∷◌, ◌++◌, map, length, take, replicate, Bool, true, false}
use Rattle.std.specs.List.{flat_map, range_with_len}
use Rattle.std.specs.declared.option.Option.TheVariants.{None}
use Rattle.vc_base.specs.declared.Fourcc.{Fourcc}
use Rattle.vc_defs.specs.declared.Layout.{Layout}
use Rattle.vc_defs.specs.declared.Layout.TheVariants.{C420, C422}
use Rattle.vc_defs.specs.declared.Geometry.{Geometry}
use Rattle.vc_base.specs.Limits.{most_bytes}
use Rattle.vc_defs.specs.Raw.{raw_of, planes_of, yu12, nv12, yuyv}
use Rattle.vc_defs.specs.Decoder.{FrameResult, Picture, Changed, results}
use Rattle.vc_defs.specs.Encoder.{Encoded}
use Rattle.vc_defs.specs.Outputs.{frames_of, frames_bytes, decode_output, is_damaged_input, default_rates, chained}
use Rattle.vc_defs.specs.Named.{words32, frame_f, frame_g, frame_h, frame_f4, frame_g4, frame_h4, frame_of, written_as, zeros_body, small, grey_bytes, grey_planes}

abbrev pub change_at : ℕ → FrameResult
change_at p = record { position = p; known = p + 44; kind = Changed small }

abbrev pub picture_at : ℕ → Bool → FrameResult
picture_at p key = record { position = p; known = p + 48; kind = Picture small key (grey_planes 256) }

-- the results of streams
pub record ResultsOfFrames : Type 0 where
  pub f_alone : results frame_f most_bytes None None ≡ change_at 0 ∷ picture_at 0 true ∷ []
  pub f_and_g : results (frame_f ++ frame_g) most_bytes None None ≡ change_at 0 ∷ picture_at 0 true ∷ picture_at 48 false ∷ []
  pub g_alone : results frame_g most_bytes None None ≡ []

-- pictures' frames as an encoder writes them, and its own reconstructions of the pictures
abbrev pub written : Geometry → List (List (List ℕ)) → List ℕ
written g pictures = frames_bytes (frames_of g default_rates pictures)

abbrev pub rebuilt : Geometry → List (List (List ℕ)) → List (List (List ℕ))
rebuilt g pictures = map (λ (e : Encoded). e.planes) (frames_of g default_rates pictures)

-- a picture whose samples are all the same
abbrev pub plain : ℕ → List (List ℕ)
plain sample = replicate 256 sample ∷ []

-- rows of four samples 130 and four samples 126
abbrev pub halves : List ℕ
halves = flat_map (λ (n : ℕ). replicate 4 130 ++ replicate 4 126) (range_with_len 0 32)

-- The frames of the halves twice: their difference is one value, 2 times 64 shifted right by 2, in the second place;
-- the same picture again is blocks of P with nothing in them.
abbrev pub halves_twice : List ℕ
halves_twice = written_as 0x00080400 (0x00 ∷ 0x06 ∷ 0x02 ∷ 0x01 ∷ 0x00 ∷ 0x0f ∷ []) ++ written_as 0x00280000 (0x80 ∷ 0x06 ∷ 0x00 ∷ 0x0f ∷ [])

-- a picture with chroma, four blocks of luma and one or two of each chroma, with samples of 128
abbrev pub with_chroma : Layout → Geometry
with_chroma layout = record { width = 16; height = 16; layout = layout }

abbrev pub grey_chroma : ℕ → List (List ℕ)
grey_chroma n = grey_bytes 256 ∷ grey_bytes n ∷ grey_bytes n ∷ []

-- The frames that an encoder writes for pictures, what it reconstructs of some, and what a decoder gives for the frames of
-- one picture twice.
pub record FramesOfPictures : Type 0 where
  pub two_pictures : written small (grey_planes 256 ∷ grey_planes 256 ∷ []) ≡ frame_f4 ++ frame_g4 0x00280000
  pub all_255 : written small (plain 255 ∷ []) ≡ written_as 0x00080400 (0x00 ∷ 0x06 ∷ 0x7f ∷ 0x00 ∷ 0x00 ∷ 0x0f ∷ [])
  pub all_0 : written small (plain 0 ∷ []) ≡ written_as 0x00080400 (0x00 ∷ 0x06 ∷ 0x80 ∷ 0x00 ∷ 0x00 ∷ 0x0f ∷ [])
  pub exactly_255 : rebuilt small (plain 255 ∷ plain 0 ∷ []) ≡ plain 255 ∷ plain 0 ∷ []
  pub blocks_of_p : written small ((halves ∷ []) ∷ (halves ∷ []) ∷ []) ≡ halves_twice
  pub blocks_of_p_exactly : rebuilt small ((halves ∷ []) ∷ (halves ∷ []) ∷ []) ≡ (halves ∷ []) ∷ (halves ∷ []) ∷ []
  pub blocks_of_p_decoded : decode_output halves_twice ≡ halves ++ halves
  pub half_chroma : written (with_chroma C420) (grey_chroma 64 ∷ []) ≡ written_as 0x000a0400 (words32 (0x0006000f ∷ 0x0000000f ∷ 0x0000000f ∷ []))
  pub full_chroma : written (with_chroma C422) (grey_chroma 128 ∷ []) ≡ written_as 0x000a0480 (words32 (0x0006000f ∷ 0x0002000f ∷ 0x0002000f ∷ []))

-- planes of 4 by 2 samples and their bytes in a raw format, each read back from the other
abbrev pub BothWays : Fourcc → List (List ℕ) → List ℕ → Type 0
BothWays fourcc planes bytes = (raw_of fourcc planes ≡ bytes) × (planes_of fourcc 4 2 bytes ≡ planes)

abbrev pub few_planes : List (List ℕ)
few_planes = (1 ∷ 2 ∷ 3 ∷ 4 ∷ 5 ∷ 6 ∷ 7 ∷ 8 ∷ []) ∷ (11 ∷ 12 ∷ []) ∷ (21 ∷ 22 ∷ []) ∷ []

abbrev pub more_planes : List (List ℕ)
more_planes = (1 ∷ 2 ∷ 3 ∷ 4 ∷ 5 ∷ 6 ∷ 7 ∷ 8 ∷ []) ∷ (11 ∷ 12 ∷ 13 ∷ 14 ∷ []) ∷ (21 ∷ 22 ∷ 23 ∷ 24 ∷ []) ∷ []

-- pictures in the raw formats with chroma
pub record RawPictures : Type 0 where
  pub in_yu12 : BothWays yu12 few_planes (1 ∷ 2 ∷ 3 ∷ 4 ∷ 5 ∷ 6 ∷ 7 ∷ 8 ∷ 11 ∷ 12 ∷ 21 ∷ 22 ∷ [])
  pub in_nv12 : BothWays nv12 few_planes (1 ∷ 2 ∷ 3 ∷ 4 ∷ 5 ∷ 6 ∷ 7 ∷ 8 ∷ 11 ∷ 21 ∷ 12 ∷ 22 ∷ [])
  pub in_yuyv : BothWays yuyv more_planes (1 ∷ 11 ∷ 2 ∷ 21 ∷ 3 ∷ 12 ∷ 4 ∷ 22 ∷ 5 ∷ 13 ∷ 6 ∷ 23 ∷ 7 ∷ 14 ∷ 8 ∷ 24 ∷ [])

-- streams that are decoded and encoded again
pub record EncodedAgain : Type 0 where
  pub two_again : chained (frame_f ++ frame_g) default_rates ≡ frame_f4 ++ frame_g4 0x00280000
  pub each_alone : chained (frame_f ++ frame_g) (record default_rates { gop = 1 }) ≡ frame_f4 ++ frame_g4 0x00280400
  pub over_a_change : chained (frame_f ++ frame_h) default_rates ≡ frame_f4 ++ frame_h4
  pub before_zeros : chained (frame_f ++ replicate 3 0x00) default_rates ≡ frame_f4
  pub nothing_again : chained [] default_rates ≡ []

-- so many grey bytes are decoded from an input, which is damaged or not
abbrev pub Decodes : List ℕ → ℕ → Bool → Type 0
Decodes input count is_damaged = (decode_output input ≡ grey_bytes count) × (is_damaged_input input ≡ is_damaged)

-- what is decoded of frames with numbers
pub record NumberedStreams : Type 0 where
  pub both_numbers : Decodes (frame_f4 ++ frame_g4 0x00280000) 512 false
  pub one_lost : Decodes (frame_f4 ++ frame_g4 0x00480000) 256 true
  pub passed_over : Decodes (frame_f4 ++ frame_g4 0x00480000 ++ frame_g4 0x00680000) 256 true
  pub after_none : Decodes (frame_f ++ frame_g4 0x00e80000) 512 false
  pub none_between : Decodes (frame_f4 ++ frame_g ++ frame_g4 0x01280000) 768 false
  pub begins_again : Decodes (frame_of 4 16 16 0xffe80400 0 4 zeros_body ++ frame_g4 0x00080000) 512 false
  pub number_in_version_3 : Decodes (frame_f ++ frame_of 3 16 16 0x00280000 0 4 zeros_body) 256 true

-- the first frame with another body, and its size
abbrev pub with_body : List ℕ → List ℕ
with_body body = frame_of 3 16 16 0x00080400 0 (length body) body

-- the first frame with another size field
abbrev pub with_size : ℕ → List ℕ
with_size size = frame_of 3 16 16 0x00080400 0 size zeros_body

-- what is decoded of hostile streams
pub record HostileStreams : Type 0 where
  pub too_short : Decodes (take 43 frame_f) 0 true
  pub version_5 : Decodes (frame_of 5 16 16 0x00080400 0 4 zeros_body) 0 true
  pub unknown_flag : Decodes (frame_of 3 16 16 0x00080600 0 4 zeros_body) 0 true
  pub two_components : Decodes (frame_of 3 16 16 0x00090400 0 4 zeros_body) 0 true
  pub narrow : Decodes (frame_of 3 15 16 0x00080400 0 4 zeros_body) 0 true
  pub colour_256 : Decodes (frame_of 3 16 16 0x00080400 256 4 zeros_body) 0 true
  pub odd_height : Decodes (frame_of 3 16 17 0x000a0400 0 4 zeros_body) 0 true
  pub many_repeats : Decodes (with_body (0x00 ∷ 0x08 ∷ 0x00 ∷ 0x0f ∷ [])) 0 true
  pub inter_head : Decodes (with_body (0x80 ∷ 0x06 ∷ 0x00 ∷ 0x0f ∷ [])) 0 true
  pub odd_head : Decodes (with_body (0x00 ∷ 0x07 ∷ 0x00 ∷ 0x0f ∷ [])) 0 true
  pub high_head : Decodes (with_body (0x20 ∷ 0x06 ∷ 0x00 ∷ 0x0f ∷ [])) 0 true
  pub no_word : Decodes (with_body (0x00 ∷ 0x06 ∷ 0x00 ∷ 0x1f ∷ [])) 0 true
  pub three_bytes : Decodes (with_body (0x00 ∷ 0x06 ∷ 0x00 ∷ [])) 0 true
  pub six_bytes : Decodes (with_body (0x00 ∷ 0x06 ∷ 0x00 ∷ 0x0f ∷ 0x00 ∷ 0x00 ∷ [])) 0 true
  pub one_byte_more : Decodes (with_size 0x00000005 ++ frame_f) 256 true
  pub greatest_size : Decodes (with_size 0x010e0000 ++ frame_f) 256 true
  pub above_greatest : Decodes (with_size 0x010e0001 ++ frame_f) 256 true
  pub first_41 : Decodes (take 41 frame_f ++ frame_f) 256 true
  pub other_size : Decodes (frame_f ++ frame_of 3 32 16 0x00080000 0 4 (0x00 ∷ 0x0e ∷ 0x00 ∷ 0x0f ∷ [])) 256 true
  pub all_words : Decodes (with_body (0x00 ∷ 0x06 ∷ replicate 128 0x00)) 256 false
  pub no_repeats : Decodes (with_body (flat_map (λ (n : ℕ). 0x00 ∷ 0x00 ∷ 0x00 ∷ 0x0f ∷ []) (range_with_len 0 4))) 256 false
  pub raw_128 : Decodes (frame_of 3 16 16 0x00080410 0 256 (replicate 256 0x80)) 256 false
  pub raw_255 : Decodes (frame_of 3 16 16 0x00080410 0 256 (replicate 99 0x80 ++ 0xff ∷ replicate 156 0x80)) 0 true
  pub three_zeros : Decodes (frame_f ++ replicate 3 0x00) 256 true
  pub first_40 : Decodes (take 40 frame_f) 0 true
  pub p_alone : Decodes frame_g 0 false
  pub p_without_body : Decodes (take 46 frame_g ++ frame_f) 256 false
  -- the cut frame owns its bytes, and it is passed over
  pub p_cut : Decodes (frame_of 3 16 16 0x00080000 0 0x20 zeros_body ++ frame_f) 256 false
  pub nothing : Decodes [] 0 false
