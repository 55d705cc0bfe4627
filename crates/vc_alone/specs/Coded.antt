-- What coding pictures one after another reads and writes. A frame is that of docs/FORMAT.md, "The sequential encoder".
use Rattle.std.specs.Prelude.{ℕ, ◌≡◌, Bool, true, false, List, [], ◌∷◌, ◌++◌, length, Option, All}
use Rattle.std.specs.Io.KnownBytes.{Appends, Consumes, IsAtEnd}
use Rattle.vc_defs.specs.Encoder.{EncoderState, default_rates, encode}
use Rattle.vc_alone.specs.Pictures.{picture_format}

-- pictures, one behind the other
abbrev pub joined : List (List ℕ) → List ℕ
joined [] = []
joined (picture ∷ pictures) = picture ++ joined pictures

-- the bytes of their frames, one behind the other, from a state of the encoder
abbrev pub frames_from : EncoderState → List (List ℕ) → List ℕ
frames_from s [] = []
frames_from s (picture ∷ pictures) =
    (encode s picture_format default_rates picture).bytes ++ frames_from (encode s picture_format default_rates picture).state pictures

-- the state after them
abbrev pub state_from : EncoderState → List (List ℕ) → EncoderState
state_from s [] = s
state_from s (picture ∷ pictures) = state_from (encode s picture_format default_rates picture).state pictures

-- One more picture was read, and its frame written.
pub record CodesNext (left left' written written' : Option (List ℕ)) (s s' : EncoderState) : Type 0 where
  pub picture : List ℕ
  pub size : length picture ≡ 152064
  pub read : Consumes left left' picture
  pub wrote : Appends written written' (encode s picture_format default_rates picture).bytes
  pub after : s' ≡ (encode s picture_format default_rates picture).state

-- There was none: the input is at its end, and nothing was written.
pub record HasNone (left left' written written' : Option (List ℕ)) : Type 0 where
  pub read : Consumes left left' []
  pub end : IsAtEnd left'
  pub wrote : Appends written written' []

-- what a turn does, by whether there was a picture
abbrev pub TurnCodes : Bool → Option (List ℕ) → Option (List ℕ) → Option (List ℕ) → Option (List ℕ) → EncoderState → EncoderState → Type 0
TurnCodes true left left' written written' s s' = CodesNext left left' written written' s s'
TurnCodes false left left' written written' s s' = HasNone left left' written written'

-- Some whole pictures were read, and their frames written, from a state to another one.
pub record HasCoded (s : EncoderState) (left left' written written' : Option (List ℕ)) (s' : EncoderState) : Type 0 where
  pub pictures : List (List ℕ)
  pub sizes : All (λ (p : List ℕ). length p ≡ 152064) pictures
  pub read : Consumes left left' (joined pictures)
  pub wrote : Appends written written' (frames_from s pictures)
  pub after : s' ≡ state_from s pictures

-- The input was read to its end, and is whole pictures, whose frames were written.
pub record AreCoded (s : EncoderState) (left left' written written' : Option (List ℕ)) : Type 0 where
  pub pictures : List (List ℕ)
  pub sizes : All (λ (p : List ℕ). length p ≡ 152064) pictures
  pub read : Consumes left left' (joined pictures)
  pub end : IsAtEnd left'
  pub wrote : Appends written written' (frames_from s pictures)
