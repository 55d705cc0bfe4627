-- The results of a decoder are what its finds give, one after the other. Each frame gives two finds, its header and
-- its end, and what the header leaves behind decides what the end gives; so the results frame by frame are the
-- results find by find.
use Rattle.std.proofs.Common.{◌≡◌, ◌∙◌, sym, ap, refl, ℕ, ◌+◌, List, [], ◌∷◌, ◌++◌}
use Rattle.std.specs.Prelude.{Bool, true, false, ◌&&◌, not, cond}
use Rattle.std.specs.declared.option.Option.{Option}
use Rattle.std.specs.declared.option.Option.TheVariants.{Some, None}
use Rattle.std.proofs.lemmas.List.{append-nil}
use Rattle.vc_defs.specs.declared.Header.{Header}
use Rattle.vc_defs.specs.Places.{Frame, OpenFrame, places}
use Rattle.vc_defs.specs.Finds.{Ended, finds_in, finds}
use Rattle.vc_defs.specs.Decoder.{GivenResult, BetweenFrames, Changed, ReferenceState, given_at_header, given_at_end, given_then, given_in_frames}
use Rattle.vc_defs.specs.Decoder.{is_passed_over, is_present, is_change, present_after_header, present_after, given_by_find, given_by_finds, given_in}
use Rattle.vc_defs.specs.Laws.{ResultsAreOfFinds}

-- a header leaves what it should, and doesn't change whether its frame is passed over
pub after_header : (p : ℕ) (h : Header) (now : BetweenFrames) → present_after now (given_at_header p h now) ≡ present_after_header h now
after_header p h now = by_test (is_change h now.geometry)
  where
    by_test : (b : Bool) →
        present_after now (cond b (record { result = record { position = p; known = p + 44; kind = Changed h.geometry }; present = record { geometry = Some h.geometry; reference = None } } ∷ []) [])
        ≡ cond b (record { geometry = Some h.geometry; reference = None }) now
    by_test true = refl
    by_test false = refl

pub still_passed_over : (h : Header) (now : BetweenFrames) → is_passed_over h (present_after_header h now).reference ≡ is_passed_over h now.reference
still_passed_over h now = by_key h.key refl
  where
    no_key : (b : Bool) (r : Option ReferenceState) → h.key ≡ true → is_passed_over h r ≡ false
    no_key b None e = ap (λ k. not k) e
    no_key b (Some r) e = refl

    by_key : (k : Bool) → h.key ≡ k → is_passed_over h (cond (h.key && not (is_present now.geometry h.geometry)) (record { geometry = Some h.geometry; reference = None }) now).reference ≡ is_passed_over h now.reference
    by_key true e = no_key true (present_after_header h now).reference e ∙ sym (no_key true now.reference e)
    by_key false e = ap (λ k. is_passed_over h (cond (k && not (is_present now.geometry h.geometry)) (record { geometry = Some h.geometry; reference = None }) now).reference) e

-- a frame that is passed over has no key, so that its header gives nothing
pub passed_over_gives : (p : ℕ) (h : Header) (now : BetweenFrames) → is_passed_over h now.reference ≡ true → given_at_header p h now ≡ []
passed_over_gives p h now e = by_reference now.reference e
  where
    by_key : (k : Bool) → h.key ≡ k → not k ≡ true → given_at_header p h now ≡ []
    by_key true k e = let clash : false ≡ true = e in absurd cc
    by_key false k e =
        ap (λ b.
        cond (b && not (is_present now.geometry h.geometry))
        (record { result = record { position = p; known = p + 44; kind = Changed h.geometry }; present = record { geometry = Some h.geometry; reference = None } } ∷ [])
        [])
        k

    by_reference : (r : Option ReferenceState) → is_passed_over h r ≡ true → given_at_header p h now ≡ []
    by_reference None e = by_key h.key refl e
    by_reference (Some r) e = let clash : false ≡ true = e in absurd cc

-- what an end gives, by whether its frame is passed over
abbrev end_gives : Bool → Frame → BetweenFrames → List GivenResult
end_gives b f now = cond b [] (given_at_end f now ∷ [])

frame_gives : (b : Bool) (f : Frame) (now : BetweenFrames) (rest : BetweenFrames → List GivenResult) → is_passed_over f.header now.reference ≡ b →
    given_then b f now rest ≡ given_at_header f.position f.header now ++ (end_gives b f (present_after_header f.header now) ++ rest (present_after (present_after_header f.header now) (end_gives b f (present_after_header f.header now))))
frame_gives true f now rest e =
    let none : given_at_header f.position f.header now ≡ [] = passed_over_gives f.position f.header now e in
    let same : present_after_header f.header now ≡ now = sym (after_header f.position f.header now) ∙ ap (λ t. present_after now t) none in
    ap (λ n. rest n) (sym same) ∙ ap (λ t. t ++ rest (present_after_header f.header now)) (sym none)
frame_gives false f now rest e = refl

pub by_finds : (fs : List Frame) (u : Option OpenFrame) (now : BetweenFrames) → given_in_frames fs u now ≡ given_by_finds (finds_in fs u) now
by_finds [] None now = refl
by_finds [] (Some f) now = sym (append-nil (given_at_header f.position f.header now))
by_finds (f ∷ fs) u now =
    frame_gives (is_passed_over f.header now.reference) f now (λ n. given_in_frames fs u n) refl
    ∙ ap (λ b.
    given_at_header f.position f.header now
    ++ (end_gives b f (present_after_header f.header now) ++ given_in_frames fs u (present_after (present_after_header f.header now) (end_gives b f (present_after_header f.header now)))))
    (sym (still_passed_over f.header now))
    ∙ ap (λ t. given_at_header f.position f.header now ++ (given_by_find (Ended f) (present_after_header f.header now) ++ t))
    (by_finds fs u (present_after (present_after_header f.header now) (given_by_find (Ended f) (present_after_header f.header now))))
    ∙ ap (λ n. given_at_header f.position f.header now ++ (given_by_find (Ended f) n ++ given_by_finds (finds_in fs u) (present_after n (given_by_find (Ended f) n)))) (sym (after_header f.position f.header now))

pub results_are_of_finds : ResultsAreOfFinds
unfolding given_in finds
results_are_of_finds limit g r bytes = by_finds (places bytes limit).frames (places bytes limit).unfinished (record { geometry = g; reference = r })
