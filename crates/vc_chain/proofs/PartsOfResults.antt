-- The parts of results that go on. A change ends the part before it and begins one; results without a change add their pictures
-- to the last part alone; and the first frames of an encoder are those of its first pictures.
use Rattle.std.proofs.Common.{ℕ, ◌≡◌, Bool, not, true, List, [], ◌∷◌, ◌++◌, map, refl, sym, ap, ◌∙◌, append_assoc}
use Rattle.std.specs.List.{list_all, flat_map}
use Rattle.std.proofs.lemmas.Bool.{false≢true}
use Rattle.std.proofs.lemmas.List.{append-nil, map-append}
use Rattle.std.proofs.lemmas.Grind.{flat_map-append}
use Rattle.vc_defs.specs.declared.Geometry.{Geometry}
use Rattle.vc_defs.specs.Decoder.{FrameResult, ResultKind, Picture, Damaged, Changed}
use Rattle.vc_defs.specs.Encoder.{RunRates, EncoderState, Encoded, fresh_encoder, next_encoded, encoder_after, encoded, encoded_after, encoded_bytes}
use Rattle.vc_defs.specs.Outputs.{frames_of, frames_bytes, is_change_result, with_picture, with_part, pictures_before_change, parts_of, chained, chained_frames}
use Rattle.vc_model.proofs.PartsOfTests.{and_left, and_right}
use Rattle.vc_chain.specs.Parts.{chained_of, HasNoChange, part_bytes, ChainedIsOfResults, NoChangeNoFrames, PartsGoOn, PartsAreFirst}

abbrev Pictures : Type 0
Pictures = List (List (List ℕ))

abbrev Part : Type 0
Part = Geometry × Pictures

abbrev no_change : FrameResult → Bool
no_change r = not (is_change_result r.kind)

-- Parts

before_change : (xs ys : List FrameResult) (c : FrameResult) (g : Geometry) → c.kind ≡ Changed g → pictures_before_change (xs ++ c ∷ ys) ≡ pictures_before_change xs
before_change [] ys c g e = ap (λ (k : ResultKind). with_picture k (pictures_before_change ys)) e
before_change (x ∷ xs) ys c g e = ap (λ (ps : Pictures). with_picture x.kind ps) (before_change xs ys c g e)

part_first : (k : ResultKind) (ps : Pictures) (fs bs : List Part) → with_part k ps (fs ++ bs) ≡ with_part k ps fs ++ bs
part_first (Picture geometry key planes) ps fs bs = refl
part_first Damaged ps fs bs = refl
part_first (Changed geometry) ps fs bs = refl

split_parts : (xs ys : List FrameResult) (c : FrameResult) (g : Geometry) → c.kind ≡ Changed g → parts_of (xs ++ c ∷ ys) ≡ parts_of xs ++ (g, pictures_before_change ys) ∷ parts_of ys
split_parts [] ys c g e = ap (λ (k : ResultKind). with_part k (pictures_before_change ys) (parts_of ys)) e
split_parts (x ∷ xs) ys c g e =
    ap (λ (ps : Pictures). with_part x.kind ps (parts_of (xs ++ c ∷ ys))) (before_change xs ys c g e)
    ∙ (ap (λ (fs : List Part). with_part x.kind (pictures_before_change xs) fs) (split_parts xs ys c g e)
    ∙ part_first x.kind (pictures_before_change xs) (parts_of xs) ((g, pictures_before_change ys) ∷ parts_of ys))

no_part : (k : ResultKind) (ps : Pictures) → not (is_change_result k) ≡ true → with_part k ps [] ≡ []
no_part (Picture geometry key planes) ps n = refl
no_part Damaged ps n = refl
no_part (Changed geometry) ps n = absurd (false≢true n)

no_parts : (xs : List FrameResult) → HasNoChange xs → parts_of xs ≡ []
no_parts [] n = refl
no_parts (x ∷ xs) n =
    ap (λ (fs : List Part). with_part x.kind (pictures_before_change xs) fs) (no_parts xs (and_right (no_change x) (list_all no_change xs) n)) ∙ no_part x.kind (pictures_before_change xs) (and_left (no_change x) (list_all no_change xs) n)

picture_first : (k : ResultKind) (fs bs : Pictures) → not (is_change_result k) ≡ true → with_picture k (fs ++ bs) ≡ with_picture k fs ++ bs
picture_first (Picture geometry key planes) fs bs n = refl
picture_first Damaged fs bs n = refl
picture_first (Changed geometry) fs bs n = absurd (false≢true n)

pictures_on : (xs ys : List FrameResult) → HasNoChange xs → pictures_before_change (xs ++ ys) ≡ pictures_before_change xs ++ pictures_before_change ys
pictures_on [] ys n = refl
pictures_on (x ∷ xs) ys n =
    ap (λ (ps : Pictures). with_picture x.kind ps) (pictures_on xs ys (and_right (no_change x) (list_all no_change xs) n)) ∙ picture_first x.kind (pictures_before_change xs) (pictures_before_change ys) (and_left (no_change x) (list_all no_change xs) n)

-- Frames

encoded_first : (g : Geometry) (s : EncoderState) (ps qs : List (List (List ℕ) × RunRates)) → (more : List Encoded) × (encoded_after g s (ps ++ qs) ≡ encoded_after g s ps ++ more)
encoded_first g s [] qs = (encoded_after g s qs, refl)
encoded_first g s (p ∷ ps) qs =
    let e = next_encoded g s p.0 p.1 in
    let h = encoded_first g (encoder_after s e) ps qs in
    (h.0, ap (λ (es : List Encoded). e ∷ es) h.1)

frames_first : (g : Geometry) (rates : RunRates) (ps qs : Pictures) → (more : List ℕ) × (frames_bytes (frames_of g rates (ps ++ qs)) ≡ frames_bytes (frames_of g rates ps) ++ more)
unfolding encoded
frames_first g rates ps qs =
    let at : List (List ℕ) → List (List ℕ) × RunRates = λ (planes : List (List ℕ)). (planes, rates) in
    let h = encoded_first g fresh_encoder (map at ps) (map at qs) in (
      flat_map encoded_bytes h.0,
      ap (λ (l : List (List (List ℕ) × RunRates)). flat_map encoded_bytes (encoded_after g fresh_encoder l)) (map-append at ps qs)
          ∙ (ap (λ (es : List Encoded). flat_map encoded_bytes es) h.1 ∙ flat_map-append encoded_bytes (encoded_after g fresh_encoder (map at ps)) h.0),
    )

abbrev part_frames : RunRates → Part → List Encoded
part_frames rates part = frames_of part.0 rates part.1

-- a change splits the frames' bytes
split_bytes : (past now : List FrameResult) (c : FrameResult) (g : Geometry) (rates : RunRates) → c.kind ≡ Changed g → chained_of (past ++ c ∷ now) rates ≡ chained_of past rates ++ (part_bytes g rates now ++ chained_of now rates)
split_bytes past now c g rates e =
    let here = frames_of g rates (pictures_before_change now) in
    let later = flat_map (part_frames rates) (parts_of now) in
    ap (λ (fs : List Part). frames_bytes (flat_map (part_frames rates) fs)) (split_parts past now c g e)
    ∙ (ap frames_bytes (flat_map-append (part_frames rates) (parts_of past) ((g, pictures_before_change now) ∷ parts_of now))
    ∙ (flat_map-append encoded_bytes (flat_map (part_frames rates) (parts_of past)) (here ++ later)
    ∙ ap (λ (l : List ℕ). chained_of past rates ++ l) (flat_map-append encoded_bytes here later)))

pub chained_is_of_results : ChainedIsOfResults
unfolding chained chained_frames
chained_is_of_results input rates = refl

pub no_change_no_frames : NoChangeNoFrames
no_change_no_frames results rates n =
    ap (λ (fs : List Part). frames_bytes (flat_map (part_frames rates) fs)) (no_parts results n)

pub parts_go_on : PartsGoOn
parts_go_on past now change g rates e n =
    let here = part_bytes g rates now in
    split_bytes past now change g rates e
    ∙ ap (λ (l : List ℕ). chained_of past rates ++ l) (ap (λ (l : List ℕ). here ++ l) (no_change_no_frames now rates n) ∙ append-nil here)

pub parts_are_first : PartsAreFirst
parts_are_first past now later change g rates e n =
    let here = part_bytes g rates now in
    let before = chained_of past rates in
    let rest = chained_of (now ++ later) rates in
    let h = frames_first g rates (pictures_before_change now) (pictures_before_change later) in
    let all : part_bytes g rates (now ++ later) ≡ here ++ h.0 = ap (λ (ps : Pictures). frames_bytes (frames_of g rates ps)) (pictures_on now later n) ∙ h.1 in
    (h.0 ++ rest, split_bytes past (now ++ later) change g rates e ∙ (ap (λ (l : List ℕ). before ++ (l ++ rest)) all ∙ (ap (λ (l : List ℕ). before ++ l) (append_assoc here h.0 rest) ∙ sym (append_assoc before here (h.0 ++ rest)))))
