-- An encoder writes one frame for each picture, so a raw file gives as many frames as it has whole pictures. Each
-- picture adds one frame to the list and moves to the next picture.
use Rattle.std.proofs.Common.{◌≡◌, ◌∙◌, ap, refl, ℕ, suc, zero, ◌/◌, List, [], ◌∷◌, length, drop, map}
use Rattle.std.specs.List.{range_with_len}
use Rattle.std.proofs.lemmas.List.{length-map}
use Rattle.std.proofs.lemmas.List.FromFn.{length-range_with_len}
use Rattle.vc_base.specs.declared.Fourcc.{Fourcc}
use Rattle.vc_defs.specs.declared.Layout.TheVariants.{C420}
use Rattle.vc_defs.specs.declared.Geometry.{Geometry}
use Rattle.vc_defs.specs.Raw.{layout_of, raw_size, planes_of, pieces_from, pictures_in, generated}
use Rattle.vc_defs.specs.Encoder.{RunRates, EncoderState, fresh_encoder, next_encoded, encoder_after, encoded_after, encoded}
use Rattle.vc_defs.specs.Outputs.{frames_of, encode_frames, shared_frames, generated_pictures, default_rates}
use Rattle.vc_defs.specs.Laws.{EachPictureIsAFrame}

after_long : (g : Geometry) (s : EncoderState) (pictures : List (List (List ℕ) × RunRates)) → length (encoded_after g s pictures) ≡ length pictures
after_long g s [] = refl
after_long g s (p ∷ pictures) = ap (λ n. suc n) (after_long g (encoder_after s (next_encoded g s p.0 p.1)) pictures)

encoded_long : (g : Geometry) (pictures : List (List (List ℕ) × RunRates)) → length (encoded g pictures) ≡ length pictures
unfolding encoded
encoded_long g pictures = after_long g fresh_encoder pictures

frames_long : (g : Geometry) (rates : RunRates) (pictures : List (List (List ℕ))) → length (frames_of g rates pictures) ≡ length pictures
frames_long g rates pictures = encoded_long g (map (λ planes. (planes, rates)) pictures) ∙ length-map pictures (λ planes. (planes, rates))

pieces_long : (count size : ℕ) (bytes : List ℕ) → length (pieces_from count size bytes) ≡ count
pieces_long zero size bytes = refl
pieces_long (suc count) size bytes = ap (λ n. suc n) (pieces_long count size (drop size bytes))

pictures_long : (fourcc : Fourcc) (width height : ℕ) (bytes : List ℕ) → length (pictures_in fourcc width height bytes) ≡ length bytes / raw_size (layout_of fourcc) width height
unfolding pictures_in
pictures_long fourcc width height bytes =
    length-map (pieces_from (length bytes / raw_size (layout_of fourcc) width height) (raw_size (layout_of fourcc) width height) bytes) (planes_of fourcc width height)
    ∙ pieces_long (length bytes / raw_size (layout_of fourcc) width height) (raw_size (layout_of fourcc) width height) bytes

pub each_picture_is_a_frame : EachPictureIsAFrame
unfolding encode_frames shared_frames
each_picture_is_a_frame = (
  encoded_long,
  λ fourcc width height rates input.
      frames_long (record { width = width; height = height; layout = layout_of fourcc }) rates (pictures_in fourcc width height input) ∙ pictures_long fourcc width height input,
  λ width height count number.
      let g : Geometry = record { width = width; height = height; layout = C420 } in
      frames_long g default_rates (generated_pictures g count number) ∙ length-map (range_with_len 0 count) (λ n. generated g n number) ∙ length-range_with_len 0 count,
)
