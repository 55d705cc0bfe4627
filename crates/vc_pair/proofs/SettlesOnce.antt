-- Settling leaves a settled pair, and leaves a settled pair alone. A LAST buffer that is owed is given exactly where
-- a CAPTURE buffer is ready.
use Rattle.std.proofs.Common.{◌≡◌, Bool, true, false, not, cond, List, [], ◌∷◌, refl, sym, ap, ◌∙◌}
use Rattle.std.proofs.lemmas.Bool.{false≢true}
use Rattle.vc_base.specs.Buffers.{Buffer, is_empty}
use Rattle.vc_model.specs.Context.{Cause, drain, change, PhaseState, run, owe, last, stopped, is_run}
use Rattle.vc_model.specs.Sound.{last_not_given}
use Rattle.vc_pair.specs.Pairs.{PairState, owes_last, owing, last_given, given, pair_settled, gives_end, raises_end, IsSettled}

none_owed : (p : PairState) (b : Bool) → is_run p.phase ≡ false → owes_last p ≡ false
none_owed p b e = rw e refl

-- a LAST buffer that is owed
given_last : (p : PairState) (cause : Cause) → p.phase ≡ owe cause → (ready : List Buffer) → p.cap.ready ≡ ready → IsSettled (last_given p cause ready)
given_last p cause e [] r =
    record { noted = none_owed p true (ap is_run e); given = ap (λ ph. last_not_given ph p.cap.ready) e ∙ ap (λ l. not (is_empty l)) r }
given_last p cause e (b ∷ rest) r = record { noted = refl; given = refl }

owed : (p : PairState) → owes_last p ≡ false → (phase : PhaseState) → p.phase ≡ phase → IsSettled (given p phase)
owed p n run e = record { noted = n; given = ap (λ ph. last_not_given ph p.cap.ready) e }
owed p n (owe cause) e = given_last p cause e p.cap.ready refl
owed p n (last cause) e = record { noted = n; given = ap (λ ph. last_not_given ph p.cap.ready) e }
owed p n (stopped cause) e = record { noted = n; given = ap (λ ph. last_not_given ph p.cap.ready) e }

after_owing : (p : PairState) (b : Bool) → owes_last p ≡ b → (q : PairState) → q ≡ cond b (record p { phase = owe drain }) p → IsSettled (given q q.phase)
after_owing p true e q eq = rw eq (owed (record p { phase = owe drain }) refl (owe drain) refl)
after_owing p false e q eq = rw eq (owed p e p.phase refl)

pub settled_by : (p : PairState) → IsSettled (pair_settled p)
settled_by p = after_owing p (owes_last p) refl (owing p) refl

left_last : (p : PairState) (cause : Cause) (ready : List Buffer) → not (is_empty ready) ≡ false → last_given p cause ready ≡ p
left_last p cause [] e = refl
left_last p cause (b ∷ rest) e = absurd (false≢true (sym e))

left_owed : (p : PairState) (phase : PhaseState) → last_not_given phase p.cap.ready ≡ false → given p phase ≡ p
left_owed p run e = refl
left_owed p (owe cause) e = left_last p cause p.cap.ready e
left_owed p (last cause) e = refl
left_owed p (stopped cause) e = refl

no_end : (p : PairState) (phase : PhaseState) → last_not_given phase p.cap.ready ≡ false → gives_end p phase ≡ false
no_end p run e = refl
no_end p (owe drain) e = e
no_end p (owe change) e = refl
no_end p (last cause) e = refl
no_end p (stopped cause) e = refl

not_owing : (p : PairState) (b : Bool) → b ≡ false → cond b (record p { phase = owe drain }) p ≡ p
not_owing p true e = absurd (false≢true (sym e))
not_owing p false e = refl

pub settled_alone : (p : PairState) → IsSettled p → pair_settled p ≡ p
settled_alone p s =
    ap (λ q. given q q.phase) (not_owing p (owes_last p) s.noted) ∙ left_owed p p.phase s.given

pub settled_quiet : (p : PairState) → IsSettled p → raises_end p ≡ false
settled_quiet p s =
    ap (λ q. gives_end q q.phase) (not_owing p (owes_last p) s.noted) ∙ no_end p p.phase s.given
