-- The frames of pictures that go on are those of the first ones and, from the state that these leave, those of the others.
-- They are the frames that the sequential encoder writes for the planes of the pictures.
use Rattle.std.proofs.Common.{ℕ, ◌≡◌, List, [], ◌∷◌, ◌++◌, map, refl, ap}
use Rattle.std.specs.List.{flat_map}
use Rattle.vc_base.specs.declared.Format.{Format}
use Rattle.vc_defs.specs.declared.Geometry.{Geometry}
use Rattle.vc_defs.specs.Raw.{layout_of, planes_of}
use Rattle.vc_defs.specs.Encoder.{RunRates, EncoderState, encoded_bytes, next_encoded, encoder_after, encoded_after, encode}
use Rattle.vc_encode_flow.specs.Frames.{frames_from, state_from, joined}

pub frames_append : (s : EncoderState) (format : Format) (rates : RunRates) (ps qs : List (List ℕ)) → frames_from s format rates (ps ++ qs) ≡ frames_from s format rates ps ++ frames_from (state_from s format rates ps) format rates qs
frames_append s format rates [] qs = refl
frames_append s format rates (p ∷ ps) qs =
    ap (λ (l : List (List ℕ)). (encode s format rates p).bytes ∷ l) (frames_append (encode s format rates p).state format rates ps qs)

pub state_append : (s : EncoderState) (format : Format) (rates : RunRates) (ps qs : List (List ℕ)) → state_from s format rates (ps ++ qs) ≡ state_from (state_from s format rates ps) format rates qs
state_append s format rates [] qs = refl
state_append s format rates (p ∷ ps) qs = state_append (encode s format rates p).state format rates ps qs

-- the frames are those that the sequential encoder writes for the planes of the pictures
pub frames_are_encoded : (s : EncoderState) (format : Format) (rates : RunRates) (ps : List (List ℕ)) →
    joined (frames_from s format rates ps) ≡ flat_map encoded_bytes
    (encoded_after (record { width = format.width; height = format.height; layout = layout_of format.fourcc }) s
    (map (λ (planes : List (List ℕ)). (planes, rates)) (map (planes_of format.fourcc format.width format.height) ps)))
unfolding encode
frames_are_encoded s format rates [] = refl
frames_are_encoded s format rates (p ∷ ps) =
    let g : Geometry = record { width = format.width; height = format.height; layout = layout_of format.fourcc } in
    let e = next_encoded g s (planes_of format.fourcc format.width format.height p) rates in
    ap (λ (l : List ℕ). encoded_bytes e ++ l) (frames_are_encoded (encoder_after s e) format rates ps)
