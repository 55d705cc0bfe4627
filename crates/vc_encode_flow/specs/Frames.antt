-- The frames of raw pictures, one after another (docs/FORMAT.md, "The sequential encoder").
use Rattle.std.specs.Prelude.{ℕ, List, [], ◌∷◌}
use Rattle.std.specs.List.{flat_map}
use Rattle.vc_base.specs.declared.Format.{Format}
use Rattle.vc_defs.specs.Encoder.{RunRates, EncoderState, encode}

-- the frames of raw pictures of a format, from a state on
abbrev pub frames_from : EncoderState → Format → RunRates → List (List ℕ) → List (List ℕ)
frames_from s format rates [] = []
frames_from s format rates (p ∷ ps) =
    (encode s format rates p).bytes ∷ frames_from (encode s format rates p).state format rates ps

-- the state after them
abbrev pub state_from : EncoderState → Format → RunRates → List (List ℕ) → EncoderState
state_from s format rates [] = s
state_from s format rates (p ∷ ps) = state_from (encode s format rates p).state format rates ps

-- the bytes of pieces, one behind the other
abbrev pub joined : List (List ℕ) → List ℕ
joined pieces = flat_map (λ (piece : List ℕ). piece) pieces
