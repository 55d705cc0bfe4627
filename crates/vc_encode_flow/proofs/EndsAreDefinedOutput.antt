-- How a flow ends, in terms of what is defined for its input. An input of whole pictures and a part of one is cut into
-- exactly these pictures, and their frames are the output that is defined for it; those of its first pictures are a prefix.
use Rattle.std.proofs.Common.{ℕ, nat_eq, ◌≡◌, ◌≤◌, ◌<◌, ◌+◌, List, [], ◌∷◌, ◌++◌, length, Bool, true, false, not, Option, Some, None, refl, sym, ap, ◌∙◌, subst, arith, All, append-nil, append_assoc}
use Rattle.std.specs.Prelude.{Result, Ok, Err, IfOk, OnOk, OnErr}
use Rattle.std.specs.Io.KnownBytes.{Consumes, IsAtEnd}
use Rattle.std.proofs.KnownBytes.{Appends-nil}
use Rattle.std.proofs.lemmas.Bool.{ne_eqb}
use Rattle.vc_base.specs.declared.Format.{Format}
use Rattle.vc_defs.specs.Encoder.{RunRates, fresh_encoder}
use Rattle.vc_model.specs.Solo.{SoloEvent}
use Rattle.vc_port.specs.Payloads.{bytes_out, good_finishes}
use Rattle.vc_encode_flow.specs.Frames.{frames_from, state_from, joined}
use Rattle.vc_encode_flow.specs.Flows.{flow_of, IsKept, IsFlow}
use Rattle.vc_flow.specs.Calls.{HandedFirst}
use Rattle.vc_encode_flow.specs.Steps.{IsAt}
use Rattle.vc_encode_flow.specs.Endings.{IsOutput, IsFrontOfOutput, EndsInside, HasFinishes, IsWritten, IsFrontWritten, IsThrough, IsCutShort}
use Rattle.vc_flow.specs.Inputs.{BeginsWith}
use Rattle.vc_flow.specs.declared.ends.Stop.{Stop}
use Rattle.vc_encode_flow.proofs.StoppingWritesAPrefix.{joined_append}
use Rattle.vc_encode_flow.proofs.FramesGoOn.{frames_append}
use Rattle.vc_encode_flow.proofs.InputIsCutIntoPictures.{cut_whole, cut_front, kept_some, output_is, count_is, short_is}

-- the flow of a slot that was just opened
pub at_open : (start events : List SoloEvent) (format : Format) (rates : RunRates) (first : Option (List ℕ)) → IsFlow start (flow_of format rates) events → IsAt start (flow_of format rates) first first events
at_open start events format rates first w =
    record { flow = w; wrote = Appends-nil first }

pub handed_none : (start : List SoloEvent) → HandedFirst start [] start
handed_none start = ([], sym (append-nil (bytes_out start)))

begins_none : (left : Option (List ℕ)) → BeginsWith left []
begins_none None = tt
begins_none (Some input) = (input, refl)

-- nothing was read or written
pub cut_at_once : (start events : List SoloEvent) (format : Format) (rates : RunRates) (first left : Option (List ℕ)) → HandedFirst start [] events → IsCutShort start (flow_of format rates) format.size first first left events
cut_at_once start events format rates first left h =
    record {
      pictures = [];
      sizes = λ k d l. absurd (omega (arith, l));
      read = begins_none left;
      stops = record { bytes = []; wrote = Appends-nil first; handed = h; others = []; frames = refl };
    }

-- The input was read to its end

whole_input : (input rest bytes : List ℕ) → input ≡ bytes ++ rest → rest ≡ [] → input ≡ bytes
whole_input input rest bytes e n =
    e ∙ (ap (λ (l : List ℕ). bytes ++ l) n ∙ append-nil bytes)

output_of : (format : Format) (rates : RunRates) (left left_now : Option (List ℕ)) (ps : List (List ℕ)) (rest : List ℕ) → IsKept format →
    All (λ (p : List ℕ). length p ≡ format.size) ps → length rest < format.size → Consumes left left_now (joined ps ++ rest) → IsAtEnd left_now →
    IsOutput format rates left (joined (frames_from fresh_encoder format rates ps))
output_of format rates None left_now ps rest k a l c e = tt
output_of format rates (Some input) None ps rest k a l c e = absurd c
output_of format rates (Some input) (Some after) ps rest k a l c e =
    let cut = cut_whole format.size ps rest input a l (whole_input input after (joined ps ++ rest) c e) in
    sym (output_is format rates input ps k cut.pieces)

finishes_of : (format : Format) (rates : RunRates) (left left_now : Option (List ℕ)) (ps : List (List ℕ)) (rest : List ℕ)
    (start events : List SoloEvent) → IsKept format → All (λ (p : List ℕ). length p ≡ format.size) ps → length rest < format.size →
    Consumes left left_now (joined ps ++ rest) → IsAtEnd left_now → good_finishes start + length ps ≤ good_finishes events →
    HasFinishes format rates left start events
finishes_of format rates None left_now ps rest start events k a l c e n = tt
finishes_of format rates (Some input) None ps rest start events k a l c e n = absurd c
finishes_of format rates (Some input) (Some after) ps rest start events k a l c e n =
    let cut = cut_whole format.size ps rest input a l (whole_input input after (joined ps ++ rest) c e) in
    subst (λ (m : ℕ). good_finishes start + m ≤ good_finishes events) (sym (count_is format rates input (length ps) k cut.number)) n

inside_of : (format : Format) (left left_now : Option (List ℕ)) (ps : List (List ℕ)) (rest : List ℕ) (short : Bool) → IsKept format →
    All (λ (p : List ℕ). length p ≡ format.size) ps → length rest < format.size → Consumes left left_now (joined ps ++ rest) → IsAtEnd left_now →
    not (nat_eq (length rest) 0) ≡ short → EndsInside format left short
inside_of format None left_now ps rest short k a l c e s = tt
inside_of format (Some input) None ps rest short k a l c e s = absurd c
inside_of format (Some input) (Some after) ps rest short k a l c e s =
    let cut = cut_whole format.size ps rest input a l (whole_input input after (joined ps ++ rest) c e) in
    short_is format input (length rest) k cut.part ∙ s

is_short : (whole : Bool) (rest : List ℕ) → (whole ≡ true → rest ≡ []) → (whole ≡ false → 0 < length rest) → not (nat_eq (length rest) 0) ≡ not whole
is_short true rest t f =
    ap (λ (l : List ℕ). not (nat_eq (length l) 0)) (t refl)
is_short false [] t f = let l = f refl in absurd (omega (arith, l))
is_short false (x ∷ rest) t f =
    ap not (ne_eqb (length (x ∷ rest)) 0 (λ e. absurd (omega (arith, e))))

-- All frames were written, and the slot was closed since.
pub is_written : (start before events : List SoloEvent) (format : Format) (rates : RunRates) (whole short : Bool)
    (left left_now first written : Option (List ℕ)) → IsKept format → IsThrough start (flow_of format rates) format.size whole first written left
    left_now before → not whole ≡ short → bytes_out events ≡ bytes_out before → good_finishes before ≤ good_finishes events →
    IsWritten format rates short left left_now first written start events
is_written start before events format rates whole short left left_now first written k t q b n =
    let ps = t.pictures in
    let frames = joined (frames_from fresh_encoder format rates ps) in
    let finished = t.finishes in
    record {
      end = t.end;
      inside = inside_of format left left_now ps t.rest short k t.sizes t.part t.read t.end (is_short whole t.rest t.between t.inside ∙ q);
      bytes = frames;
      wrote = t.wrote;
      output = output_of format rates left left_now ps t.rest k t.sizes t.part t.read t.end;
      handed = b ∙ t.handed;
      finishes = finishes_of format rates left left_now ps t.rest start events k t.sizes t.part t.read t.end (omega (arith, finished, n));
    }

-- The input was not read to its end, or it was

front_of_whole : (format : Format) (rates : RunRates) (left : Option (List ℕ)) (bytes : List ℕ) → IsOutput format rates left bytes → IsFrontOfOutput format rates left bytes
front_of_whole format rates None bytes o = tt
front_of_whole format rates (Some input) bytes o = ([], sym o ∙ sym (append-nil bytes))

front_of_cut : (format : Format) (rates : RunRates) (left : Option (List ℕ)) (ps : List (List ℕ)) (bytes others : List ℕ) → IsKept format →
    All (λ (p : List ℕ). length p ≡ format.size) ps → BeginsWith left (joined ps) →
    joined (frames_from fresh_encoder format rates ps) ≡ bytes ++ others → IsFrontOfOutput format rates left bytes
front_of_cut format rates None ps bytes others k a r e = tt
front_of_cut format rates (Some input) ps bytes others k a r e =
    let cut = cut_front format.size ps r.0 input (kept_some format k) a r.1 in
    let later = frames_from (state_from fresh_encoder format rates ps) format rates cut.0 in (
      others ++ joined later,
      output_is format rates input (ps ++ cut.0) k cut.1
          ∙ (ap joined (frames_append fresh_encoder format rates ps cut.0)
          ∙ (joined_append (frames_from fresh_encoder format rates ps) later
          ∙ (ap (λ (l : List ℕ). l ++ joined later) e ∙ append_assoc bytes others (joined later)))),
    )

handed_still : (start before events : List SoloEvent) (bytes : List ℕ) → bytes_out events ≡ bytes_out before → HandedFirst start bytes before → HandedFirst start bytes events
handed_still start before events bytes b h = (h.0, b ∙ h.1)

pub is_front : (start before events : List SoloEvent) (format : Format) (rates : RunRates) (left left_now first written : Option (List ℕ))
    (r : Result Bool Stop) → IsKept format → IfOk r (λ (whole : Bool). IsThrough start (flow_of format rates) format.size whole first written left
    left_now before) → OnErr r (IsCutShort start (flow_of format rates) format.size first written left before) →
    bytes_out events ≡ bytes_out before → IsFrontWritten format rates left first written start events
is_front start before events format rates left left_now first written (Ok whole) k t c b =
    let ps = t.pictures in
    let frames = joined (frames_from fresh_encoder format rates ps) in
    record {
      bytes = frames;
      wrote = t.wrote;
      output = front_of_whole format rates left frames (output_of format rates left left_now ps t.rest k t.sizes t.part t.read t.end);
      handed = handed_still start before events frames b ([], t.handed ∙ ap (λ (l : List ℕ). bytes_out start ++ l) (sym (append-nil frames)));
    }
is_front start before events format rates left left_now first written (Err stop) k t c b =
    let s = c.stops in
    record {
      bytes = s.bytes;
      wrote = s.wrote;
      output = front_of_cut format rates left c.pictures s.bytes s.others k c.sizes c.read s.frames;
      handed = handed_still start before events s.bytes b s.handed;
    }

pub came_through : (r : Result Bool Stop) (X : Bool → Type 0) (whole : Bool) → r ≡ Ok whole → IfOk r X → X whole
came_through (Ok w) X whole e t = let q : w ≡ whole = cc in subst X q t
came_through (Err stop) X whole e t = absurd (cc)

pub on_through : {X : Type 0} (r : Result Bool Stop) (whole : Bool) → r ≡ Ok whole → OnOk r X → X
on_through (Ok w) whole e t = t
on_through (Err stop) whole e t = absurd (cc)
