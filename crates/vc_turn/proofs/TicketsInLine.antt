-- The tickets that wait stay in line: they lie from the one that is served up to the next one to be drawn, and no two seats
-- have the same. A step changes the ticket of one seat at most, so that one alone is compared with the others, and with the
-- two counts of the lock.
use Rattle.std.proofs.Common.{◌≡◌, ◌≢◌, ℕ, ◌+◌, ◌^◌, ◌<◌, ◌≤◌, Bool, true, false, cond, List, [], ◌∷◌, ◌++◌, length, set, ⊎_elim, refl, sym, ap, ◌∙◌, arith}
use mathlib.Core.Option.{some-ne-none}
use Rattle.vc_turn.specs.declared.rule.View.{View}
use Rattle.vc_turn.specs.Rule.{At, AreInLine}
use Rattle.vc_turn.proofs.ListsByPlace.{off, each_set, each_more, apart_set, at_more, count_set, count_more}

abbrev one_if : Bool → ℕ
one_if b = cond b 1 0

-- a step that leaves the tickets
pub line_same : (serving ticket : ℕ) (views : List View) (id : ℕ) (v w : View) → AreInLine serving ticket views → At views id v → w.queued ≡ v.queued → w.ticket ≡ v.ticket → AreInLine serving ticket (set views id w)
line_same serving ticket views id v w l at q t = record {
  queue = let e : cond w.queued 1 0 ≡ cond v.queued 1 0 = ap one_if q in omega (arith, count_set (λ (x : View). x.queued) views id v w at, l.queue, e);
  limit = l.limit;
  waiting = each_set (λ _ u. u.queued ≡ true → (serving ≤ u.ticket) × (u.ticket < ticket)) views id w (λ j u _ a. l.waiting j u a)
      (λ h. let b = l.waiting id v at (sym q ∙ h) in (omega (arith, t, b.0), omega (arith, t, b.1)));
  apart = apart_set (λ (x : View). x.queued) (λ (x : View). x.ticket) views id w l.apart (λ h j u other a hu same. other (sym (l.apart id j v u at a (sym q ∙ h) hu (sym t ∙ same))));
}

-- the next ticket is drawn
pub line_drawn : (serving ticket : ℕ) (views : List View) (id : ℕ) (v w : View) → AreInLine serving ticket views → At views id v → v.queued ≡ false → w.queued ≡ true → w.ticket ≡ ticket → ticket < 2 ^ 62
    → AreInLine serving (ticket + 1) (set views id w)
line_drawn serving ticket views id v w l at was is t less = record {
  queue = let e : cond v.queued 1 0 ≡ 0 = ap one_if was in let f : cond w.queued 1 0 ≡ 1 = ap one_if is in omega (arith, count_set (λ (x : View). x.queued) views id v w at, l.queue, e, f);
  limit = omega arith;
  waiting = each_set (λ _ u. u.queued ≡ true → (serving ≤ u.ticket) × (u.ticket < ticket + 1)) views id w (λ j u _ a h. let b = l.waiting j u a h in (b.0, omega (arith, b.1)))
      (λ h. (omega (arith, t, l.queue), omega (arith, t)));
  apart = apart_set (λ (x : View). x.queued) (λ (x : View). x.ticket) views id w l.apart (λ h j u other a hu same. let b = l.waiting j u a hu in absurd (omega (arith, b.1, t, same)));
}

-- the served ticket is given up
pub line_passed : (serving ticket : ℕ) (views : List View) (id : ℕ) (v w : View) → AreInLine serving ticket views → At views id v → v.queued ≡ true → v.ticket ≡ serving → w.queued ≡ false
    → AreInLine (serving + 1) ticket (set views id w)
line_passed serving ticket views id v w l at was served is = record {
  queue = let e : cond v.queued 1 0 ≡ 1 = ap one_if was in let f : cond w.queued 1 0 ≡ 0 = ap one_if is in omega (arith, count_set (λ (x : View). x.queued) views id v w at, l.queue, e, f);
  limit = l.limit;
  waiting = each_set (λ _ u. u.queued ≡ true → (serving + 1 ≤ u.ticket) × (u.ticket < ticket)) views id w
      (λ j u other a h. let b = l.waiting j u a h in let n : u.ticket ≢ serving = λ e. other (sym (l.apart id j v u at a was h (served ∙ sym e))) in (omega (arith, b.0), b.1))
      (λ h. off w.queued is h);
  apart = apart_set (λ (x : View). x.queued) (λ (x : View). x.ticket) views id w l.apart (λ h. off w.queued is h);
}

-- a seat that has no ticket comes
pub line_more : (serving ticket : ℕ) (views : List View) (w : View) → AreInLine serving ticket views → w.queued ≡ false → AreInLine serving ticket (views ++ w ∷ [])
line_more serving ticket views w l is = record {
  queue = let f : cond w.queued 1 0 ≡ 0 = ap one_if is in omega (arith, count_more (λ (x : View). x.queued) views w, l.queue, f);
  limit = l.limit;
  waiting = each_more (λ _ u. u.queued ≡ true → (serving ≤ u.ticket) × (u.ticket < ticket)) views w l.waiting (λ h. off w.queued is h);
  apart = λ m n x y em en hx hy k. ⊎_elim
      (λ (t : At views m x). ⊎_elim (λ (u : At views n y). l.apart m n x y t u hx hy k) (λ (u : (n ≡ length views) × (w ≡ y)). off w.queued is (ap (λ (z : View). z.queued) u.1 ∙ hy)) (at_more views w y n en))
      (λ (t : (m ≡ length views) × (w ≡ x)). off w.queued is (ap (λ (z : View). z.queued) t.1 ∙ hx))
      (at_more views w x m em);
}

-- a step of a seat that has no ticket before or after
pub line_aside : (serving ticket : ℕ) (views : List View) (id : ℕ) (v w : View) → AreInLine serving ticket views → At views id v → v.queued ≡ false → w.queued ≡ false → AreInLine serving ticket (set views id w)
line_aside serving ticket views id v w l at was is = record {
  queue = let e : cond v.queued 1 0 ≡ 0 = ap one_if was in let f : cond w.queued 1 0 ≡ 0 = ap one_if is in omega (arith, count_set (λ (x : View). x.queued) views id v w at, l.queue, e, f);
  limit = l.limit;
  waiting = each_set (λ _ u. u.queued ≡ true → (serving ≤ u.ticket) × (u.ticket < ticket)) views id w (λ j u _ a. l.waiting j u a) (λ h. off w.queued is h);
  apart = apart_set (λ (x : View). x.queued) (λ (x : View). x.ticket) views id w l.apart (λ h. off w.queued is h);
}

-- one seat that has no ticket
pub line_one : (w : View) → w.queued ≡ false → AreInLine 0 0 (w ∷ [])
line_one w is = line_more 0 0 [] w record {
  queue = refl;
  limit = omega arith;
  waiting = λ i v a. absurd (some-ne-none v (sym a));
  apart = λ i j v u a. absurd (some-ne-none v (sym a));
} is
