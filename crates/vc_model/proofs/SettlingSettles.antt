-- Settling leaves a settled context, and leaves a settled context alone. It gives the LAST buffer that is owed where
-- there is one to give, after which none is owed; in every other phase nothing is put off.
use Rattle.std.proofs.Common.{◌≡◌, Bool, true, false, not, cond, List, [], ◌∷◌, refl, sym, ap, ◌∙◌}
use Rattle.std.proofs.lemmas.Bool.{false≢true}
use Rattle.vc_model.proofs.PartsOfTests.{and_false}
use Rattle.vc_base.specs.Buffers.{Buffer, is_empty}
use Rattle.vc_model.specs.Context.{Context, Cause, drain, change, PhaseState, run, owe, last, stopped, is_run, settle, settle_owed, settle_last, give_last}
use Rattle.vc_model.specs.Sound.{IsSettled, drain_not_noted, last_not_given}
use Rattle.vc_model.specs.Soundness.{Settling}

-- in another phase than Run nothing is put off
not_run : (c : Context) → is_run c.phase ≡ false → drain_not_noted c ≡ false
not_run c p = and_false (is_run c.phase) _ p

-- a LAST buffer that is owed
given_last : (c : Context) (cause : Cause) → c.phase ≡ owe cause → (ready : List Buffer) → c.cap.ready ≡ ready → IsSettled (give_last c cause ready)
given_last c cause p [] r =
    record { noted = not_run c (ap is_run p); given = ap (λ ph. last_not_given ph c.cap.ready) p ∙ ap (λ l. not (is_empty l)) r }
given_last c drain p (b ∷ rest) r = record { noted = refl; given = refl }
given_last c change p (b ∷ rest) r = record { noted = refl; given = refl }

owed : (c : Context) → drain_not_noted c ≡ false → (phase : PhaseState) → c.phase ≡ phase → IsSettled (settle_last c phase)
owed c n run p = record { noted = n; given = ap (λ ph. last_not_given ph c.cap.ready) p }
owed c n (owe cause) p = given_last c cause p c.cap.ready refl
owed c n (last cause) p = record { noted = n; given = ap (λ ph. last_not_given ph c.cap.ready) p }
owed c n (stopped cause) p = record { noted = n; given = ap (λ ph. last_not_given ph c.cap.ready) p }

after_drain : (c : Context) (b : Bool) → drain_not_noted c ≡ b → IsSettled (settle_owed (cond b (record c { phase = owe drain }) c))
after_drain c true e = owed (record c { phase = owe drain }) refl (owe drain) refl
after_drain c false e = owed c e c.phase refl

left_last : (c : Context) (cause : Cause) (ready : List Buffer) → not (is_empty ready) ≡ false → give_last c cause ready ≡ c
left_last c cause [] e = refl
left_last c cause (b ∷ rest) e = absurd (false≢true (sym e))

left_owed : (c : Context) (phase : PhaseState) → last_not_given phase c.cap.ready ≡ false → settle_last c phase ≡ c
left_owed c run e = refl
left_owed c (owe cause) e = left_last c cause c.cap.ready e
left_owed c (last cause) e = refl
left_owed c (stopped cause) e = refl

left_alone : (c : Context) (b : Bool) → drain_not_noted c ≡ b → IsSettled c → settle_owed (cond b (record c { phase = owe drain }) c) ≡ c
left_alone c true e s = absurd (false≢true (sym s.noted ∙ e))
left_alone c false e s = left_owed c c.phase s.given

pub settled_by : (c : Context) → IsSettled (settle c)
unfolding settle
settled_by c = after_drain c (drain_not_noted c) refl

pub settles_once : Settling
unfolding settle
settles_once c = record { again = λ s. left_alone c (drain_not_noted c) refl s; settles = after_drain c (drain_not_noted c) refl }
