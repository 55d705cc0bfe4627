-- A flow that took as many frames as pictures were queued has taken all of them. No job failed then, since the picture of a
-- failed job gives no frame; and as many jobs were finished as there are pictures.
use Rattle.std.proofs.Common.{ℕ, suc, ◌≡◌, ◌≤◌, ◌+◌, List, [], ◌∷◌, ◌++◌, length, refl, sym, ap, ◌∙◌, arith, length-append, inl, inr}
use Rattle.std.proofs.lemmas.List.{append-nil}
use Rattle.vc_base.specs.declared.Format.{Format}
use Rattle.vc_defs.specs.Encoder.{RunRates, EncoderState, fresh_encoder, encode}
use Rattle.vc_model.specs.Context.{Context}
use Rattle.vc_model.specs.Solo.{SoloEvent}
use Rattle.vc_port.specs.Payloads.{good_finishes, faulty_finishes}
use Rattle.vc_encode_flow.specs.Frames.{frames_from, joined}
use Rattle.vc_encode_flow.specs.Flows.{FlowSoFar, frames_for, payloads, IsUnderWay, IsFlow}

frames_long : (s : EncoderState) (format : Format) (rates : RunRates) (ps : List (List ℕ)) → length (frames_from s format rates ps) ≡ length ps
frames_long s format rates [] = refl
frames_long s format rates (p ∷ ps) = ap (λ n. suc n) (frames_long (encode s format rates p).state format rates ps)

none : {A : Type 0} → (xs : List A) → length xs ≡ 0 → xs ≡ []
none [] e = refl
none (x ∷ xs) e = absurd (omega (arith, e))

pub record TookAll (f : FlowSoFar) (before now : ℕ) : Type 0 where
  pub frames : joined f.taken ≡ joined (frames_for f f.queued)
  pub finishes : before + length f.queued ≤ now

took_all : (f : FlowSoFar) (c : Context) (g h l m : ℕ) → length f.taken ≡ length f.queued → IsUnderWay f c g h l m → TookAll f g h
took_all f c g h l m n (inl x) =
    let waits = payloads (c.out.job ++ c.out.ready) in
    let done = payloads c.cap.done in
    let count = x.counted in
    let queued : length f.queued ≡ length (x.coded ++ waits) = ap (λ (z : List (List ℕ)). length z) x.waiting in
    let frames : length (f.taken ++ done) ≡ length (frames_for f x.coded) = ap (λ (z : List (List ℕ)). length z) x.frames in
    let long = frames_long fresh_encoder f.format f.rates x.coded in
    let none_waits : waits ≡ [] = none waits (omega (arith, n, queued, frames, long, length-append x.coded waits, length-append f.taken done)) in
    let none_done : done ≡ [] = none done (omega (arith, n, queued, frames, long, length-append x.coded waits, length-append f.taken done)) in
    let all : f.queued ≡ x.coded = x.waiting ∙ (ap (λ (z : List (List ℕ)). x.coded ++ z) none_waits ∙ append-nil x.coded) in
    record {
      frames = ap joined (sym (append-nil f.taken) ∙ (ap (λ (z : List (List ℕ)). f.taken ++ z) (sym none_done) ∙ (x.frames ∙ ap (λ (z : List (List ℕ)). frames_for f z) (sym all))));
      finishes = let same = ap (λ (z : List (List ℕ)). length z) all in omega (arith, count, same);
    }
took_all f c g h l m n (inr x) =
    let done = payloads x.front in
    let queued : length f.queued ≡ length (x.coded ++ x.lost ∷ x.others) = ap (λ (z : List (List ℕ)). length z) x.queued in
    let frames : length (f.taken ++ done) ≡ length (frames_for f x.coded) = ap (λ (z : List (List ℕ)). length z) x.frames in
    let long = frames_long fresh_encoder f.format f.rates x.coded in
    absurd (omega (arith, n, queued, frames, long, length-append x.coded (x.lost ∷ x.others), length-append f.taken done))

pub all_taken : (start : List SoloEvent) (f : FlowSoFar) (events : List SoloEvent) → length f.taken ≡ length f.queued → IsFlow start f events → TookAll f (good_finishes start) (good_finishes events)
all_taken start f events n w =
    took_all f w.context (good_finishes start) (good_finishes events) (faulty_finishes start) (faulty_finishes events) n w.under_way
