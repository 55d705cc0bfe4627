-- Frames in a row give what the first ones give, and then what the others give from the state that the first ones
-- leave. A decoder's results depend only on this state and on the frames, and on places only by a number that is
-- added to each.
use Rattle.std.proofs.Common.{◌≡◌, ◌∙◌, sym, ap, refl, ℕ, ◌+◌, List, [], ◌∷◌, ◌++◌, map, length, ◌-◌, arith, append_assoc}
use Rattle.std.specs.Prelude.{Bool, true, false, cond}
use Rattle.std.specs.declared.option.Option.{Option}
use Rattle.std.specs.declared.option.Option.TheVariants.{Some, None}
use Rattle.std.proofs.lemmas.List.{map-append}
use Rattle.vc_defs.specs.declared.Header.{Header}
use Rattle.vc_defs.specs.Places.{Frame, OpenFrame, moved_frame, moved_open}
use Rattle.vc_defs.specs.Decoder.{GivenResult, BetweenFrames, Changed, given_at_header, given_by, given_at_end, picture_planes, given_then, given_in_frames}
use Rattle.vc_defs.specs.Decoder.{is_passed_over, is_change, present_after_header, moved_given, given_in, present_after}
use Rattle.vc_defs.specs.Laws.{given_in_known, ResultsContinue}
use Rattle.vc_defs.specs.Places.{places}
use Rattle.vc_defs.proofs.PlacesContinue.{places_continue}

pub present_append : (now : BetweenFrames) (xs ys : List GivenResult) → present_after now (xs ++ ys) ≡ present_after (present_after now xs) ys
present_append now [] ys = refl
present_append now (x ∷ xs) ys = present_append x.present xs ys

then_append : (b : Bool) (f : Frame) (now : BetweenFrames) (all first : BetweenFrames → List GivenResult) (second : BetweenFrames → List GivenResult) →
    ((p : BetweenFrames) → all p ≡ first p ++ second (present_after p (first p))) →
    given_then b f now all ≡ given_then b f now first ++ second (present_after now (given_then b f now first))
then_append true f now all first second e = e now
then_append false f now all first second e =
    ap (λ t. given_at_header f.position f.header now ++ given_at_end f (present_after_header f.header now) ∷ t) (e (given_at_end f (present_after_header f.header now)).present)
    ∙ sym (append_assoc (given_at_header f.position f.header now) (given_at_end f (present_after_header f.header now) ∷ first (given_at_end f (present_after_header f.header now)).present)
    (second (present_after (given_at_end f (present_after_header f.header now)).present (first (given_at_end f (present_after_header f.header now)).present))))
    ∙ ap (λ p. (given_at_header f.position f.header now ++ given_at_end f (present_after_header f.header now) ∷ first (given_at_end f (present_after_header f.header now)).present) ++ second p)
    (sym (present_append now (given_at_header f.position f.header now) (given_at_end f (present_after_header f.header now) ∷ first (given_at_end f (present_after_header f.header now)).present)))

-- Frames in a row give what the first ones give, and then what the others give from what the decoder has after them.
pub given_append : (fs gs : List Frame) (u : Option OpenFrame) (now : BetweenFrames) → given_in_frames (fs ++ gs) u now ≡ given_in_frames fs None now ++ given_in_frames gs u (present_after now (given_in_frames fs None now))
given_append [] gs u now = refl
given_append (f ∷ fs) gs u now =
    then_append (is_passed_over f.header now.reference) f now (λ p. given_in_frames (fs ++ gs) u p) (λ p. given_in_frames fs None p) (λ p. given_in_frames gs u p) (λ p. given_append fs gs u p)

moved_header : (k p : ℕ) (h : Header) (now : BetweenFrames) → given_at_header (k + p) h now ≡ map (moved_given k) (given_at_header p h now)
moved_header k p h now = by_test (is_change h now.geometry)
  where
    by_test : (b : Bool) →
        cond b (record { result = record { position = k + p; known = k + p + 44; kind = Changed h.geometry }; present = record { geometry = Some h.geometry; reference = None } } ∷ []) []
        ≡ map (moved_given k) (cond b (record { result = record { position = p; known = p + 44; kind = Changed h.geometry }; present = record { geometry = Some h.geometry; reference = None } } ∷ []) [])
    by_test true =
        let e : k + p + 44 ≡ k + (p + 44) = omega arith in
        ap (λ n. record { result = record { position = k + p; known = n; kind = Changed h.geometry }; present = record { geometry = Some h.geometry; reference = None } } ∷ []) e
    by_test false = refl

moved_end : (k : ℕ) (f : Frame) (now : BetweenFrames) (o : Option (List (List ℕ))) → given_by (moved_frame k f) now o ≡ moved_given k (given_by f now o)
moved_end k f now None = refl
moved_end k f now (Some planes) = refl

then_moved :
    (k : ℕ) (b : Bool) (f : Frame) (now : BetweenFrames) (later moved : BetweenFrames → List GivenResult)
    → ((p : BetweenFrames) → moved p ≡ map (moved_given k) (later p))
    → given_then b (moved_frame k f) now moved ≡ map (moved_given k) (given_then b f now later)
then_moved k true f now later moved e = e now
then_moved k false f now later moved e =
    ap (λ t. t ++ given_at_end (moved_frame k f) (present_after_header f.header now) ∷ moved (given_at_end (moved_frame k f) (present_after_header f.header now)).present) (moved_header k f.position f.header now)
    ∙ ap (λ r. map (moved_given k) (given_at_header f.position f.header now) ++ r ∷ moved r.present) (moved_end k f (present_after_header f.header now) (picture_planes f (present_after_header f.header now)))
    ∙ ap (λ t. map (moved_given k) (given_at_header f.position f.header now) ++ moved_given k (given_at_end f (present_after_header f.header now)) ∷ t) (e (given_at_end f (present_after_header f.header now)).present)
    ∙ sym (map-append (moved_given k) (given_at_header f.position f.header now) (given_at_end f (present_after_header f.header now) ∷ later (given_at_end f (present_after_header f.header now)).present))

-- Frames that are counted from earlier on give the same.
pub given_moved : (k : ℕ) (fs : List Frame) (u : Option OpenFrame) (now : BetweenFrames) → given_in_frames (map (moved_frame k) fs) (moved_open k u) now ≡ map (moved_given k) (given_in_frames fs u now)
given_moved k [] None now = refl
given_moved k [] (Some f) now = moved_header k f.position f.header now
given_moved k (f ∷ fs) u now =
    then_moved k (is_passed_over f.header now.reference) f now (λ p. given_in_frames fs u p) (λ p. given_in_frames (map (moved_frame k) fs) (moved_open k u) p) (λ p. given_moved k fs u p)

pub results_continue : ResultsContinue
unfolding given_in
results_continue limit g r bytes more =
    ap (λ p. given_in_frames p.frames p.unfinished (record { geometry = g; reference = r })) (places_continue limit bytes more)
    ∙ given_append (places bytes limit).frames
    (map (moved_frame (length bytes - length (places bytes limit).tail)) (places ((places bytes limit).tail ++ more) limit).frames)
    (moved_open (length bytes - length (places bytes limit).tail) (places ((places bytes limit).tail ++ more) limit).unfinished)
    (record { geometry = g; reference = r })
    ∙ ap (λ t. given_in_known bytes limit (record { geometry = g; reference = r }) ++ t)
    (given_moved (length bytes - length (places bytes limit).tail) (places ((places bytes limit).tail ++ more) limit).frames
    (places ((places bytes limit).tail ++ more) limit).unfinished
    (present_after (record { geometry = g; reference = r }) (given_in_known bytes limit (record { geometry = g; reference = r }))))
