-- Settling moves the front of CAPTURE's ready to done at most, empty. So buffers keep their lengths, OUTPUT stays as
-- it is, and numbers rise by one at most.
use Rattle.std.proofs.Common.{ℕ, ◌≡◌, ◌≤◌, ◌+◌, nat_le, Bool, true, false, cond, ◌&&◌, List, [], ◌∷◌, ◌++◌, refl, sym, ap, ◌∙◌, subst, arith, le-leb, ◌==◌}
use Rattle.std.specs.List.{list_all}
use Rattle.std.proofs.lemmas.Bool.{and_parts, and_from, false≢true}
use Rattle.std.proofs.lemmas.List.Folds.{list_all-append}
use Rattle.vc_base.specs.Buffers.{Buffer, lend_front, retire_after, zero_stamp, known_bytes}
use Rattle.vc_base.specs.Limits.{last_flag, eos_event}
use Rattle.vc_base.specs.Events.{EventState, raise_after, is_subscribed}
use Rattle.vc_model.specs.Context.{Cause, drain, PhaseState, run, owe, last, stopped, is_run}
use Rattle.vc_pair.specs.Pairs.{PairState, owes_last, last_given, given, pair_settled}
use Rattle.vc_context.specs.Contexts.{AreFilled}
use Rattle.vc_m2m.specs.Settling.{end_raised}
use Rattle.vc_dec.specs.Decoders.{AllLengths, AreUnused, AreBlank}

-- One CAPTURE buffer at most goes to done.
pub record Settles (old new : PairState) : Type 0 where
  pub out : new.out ≡ old.out
  pub queued : new.cap.next_ordinal ≡ old.cap.next_ordinal
  pub retired : new.cap.next_seq ≤ old.cap.next_seq + 1
  pub done : AreFilled old.cap.done → AreFilled new.cap.done
  pub lengths : (p : ℕ → Bool) → AllLengths p old.cap → AllLengths p new.cap
  pub blank : AreBlank old.cap → AreBlank new.cap
  pub mark : new.mark ≡ old.mark

quiet : (p : PairState) (phase : PhaseState) → Settles p (record p { phase = phase })
quiet p phase =
    record { out = refl; queued = refl; retired = omega arith; done = λ h. h; lengths = λ f a. a; blank = λ a. a; mark = refl }

one_more : (p : Buffer → Bool) (xs : List Buffer) (b : Buffer) → list_all p xs ≡ true → p b ≡ true → list_all p (xs ++ b ∷ []) ≡ true
one_more p xs b x y =
    list_all-append p xs (b ∷ []) ∙ and_from (list_all p xs) (p b && true) x (and_from (p b) true y refl)

-- the front of ready goes to done, without a byte
given_last : (p : PairState) (phase : PhaseState) (cause : Cause) (ready : List Buffer) → p.cap.ready ≡ ready → Settles p (last_given (record p { phase = phase }) cause ready)
given_last p phase cause [] e = quiet p phase
given_last p phase cause (b ∷ rest) e =
    let front : p.cap.ready ≡ b ∷ rest = e in
    let q = lend_front p.cap (b ∷ rest) in
    let x : Buffer = record b { used = 0; bytes = known_bytes p.cap.side last_flag []; flags = last_flag; stamp = zero_stamp; seq = p.cap.next_seq } in
    let out : Settles p (record p { cap = retire_after q 0 [] last_flag zero_stamp; phase = last cause }) = record {
      out = refl;
      queued = refl;
      retired = omega arith;
      done = λ h. one_more (λ y. nat_le y.used y.size) p.cap.done x h (le-leb 0 b.size (omega arith));
      lengths = λ f a. let r = and_parts (f b.size) (list_all (λ y. f y.size) rest) (subst (λ (l : List Buffer). list_all (λ y. f y.size) l ≡ true) front a.ready) in record {
        held = a.held;
        ready = r.1;
        job = refl;
        done = one_more (λ y. f y.size) p.cap.done x a.done r.0;
      };
      blank = λ a. record { held = a.held; ready = (and_parts (b.used == 0) (list_all (λ y. y.used == 0) rest) (subst AreUnused front a.ready)).1; job = refl };
      mark = refl;
    } in
    subst (λ (l : List Buffer). Settles p (record p { cap = retire_after (lend_front p.cap l) 0 [] last_flag zero_stamp; phase = last cause })) (sym front) out

given_settles : (p : PairState) (phase before : PhaseState) → Settles p (given (record p { phase = before }) phase)
given_settles p run before = quiet p before
given_settles p (owe cause) before = given_last p before cause p.cap.ready refl
given_settles p (last cause) before = quiet p before
given_settles p (stopped cause) before = quiet p before

by_owing : (p : PairState) (b : Bool) → let o : PairState = cond b (record p { phase = owe drain }) p in Settles p (given o o.phase)
by_owing p true = given_settles p (owe drain) (owe drain)
by_owing p false = given_settles p p.phase p.phase

pub settles : (p : PairState) → Settles p (pair_settled p)
settles p = by_owing p (owes_last p)

-- where the phase is Run afterwards nothing was given

not_given : (p : PairState) (phase before : PhaseState) → before ≡ phase → is_run (given (record p { phase = before }) phase).phase ≡ true → given (record p { phase = before }) phase ≡ record p { phase = before }
not_given p run before e h = refl
not_given p (owe cause) before e h = absurd (owed p.cap.ready h)
  where
    owed : (ready : List Buffer) → is_run (last_given (record p { phase = before }) cause ready).phase ≡ true → ⊥
    owed [] g = false≢true (ap is_run (sym e) ∙ g)
    owed (b ∷ rest) g = false≢true g
not_given p (last cause) before e h = refl
not_given p (stopped cause) before e h = refl

run_by_owing : (p : PairState) (b : Bool) → let o : PairState = cond b (record p { phase = owe drain }) p in is_run (given o o.phase).phase ≡ true → (given o o.phase).cap ≡ p.cap
run_by_owing p true h = ap (λ (q : PairState). q.cap) (not_given p (owe drain) (owe drain) refl h)
run_by_owing p false h = ap (λ (q : PairState). q.cap) (not_given p p.phase p.phase refl h)

pub stays_in_run : (p : PairState) → is_run (pair_settled p).phase ≡ true → (pair_settled p).cap ≡ p.cap
stays_in_run p h = run_by_owing p (owes_last p) h

-- at most one event is raised

raised_seq : (e : EventState) (b : Bool) (after : EventState) → after.next_seq ≤ e.next_seq + 1 → (cond b after e).next_seq ≤ e.next_seq + 1
raised_seq e true after h = h
raised_seq e false after h = omega arith

pub raised : (e : EventState) (event changes : ℕ) → (raise_after e event changes).next_seq ≤ e.next_seq + 1
raised e event changes = raised_seq e (is_subscribed e event) _ (omega arith)

pub ended_raised : (b : Bool) (e : EventState) → (end_raised b e).next_seq ≤ e.next_seq + 1
ended_raised true e = raised e eos_event 0
ended_raised false e = omega arith
