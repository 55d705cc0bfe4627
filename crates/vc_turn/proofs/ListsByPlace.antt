-- Lists read by place, prefixes of lists, and the places of a seat's entries in a history. What holds of each item goes on
-- holding where one item is replaced or one more comes, and one more entry adds one place to its own seat and none to
-- another. Shown by going along the lists.
use Rattle.std.proofs.Common.{◌≡◌, ◌≢◌, ◌⊎◌, ℕ, zero, suc, ◌+◌, ◌<◌, ◌==◌, Bool, true, false, true≢false, cond, List, [], ◌∷◌, ◌++◌, length, set, refl, sym, ap, ◌∙◌, subst, inl, inr, ⊎_elim, arith, append_assoc}
use Rattle.std.specs.Prelude.{if◌then◌else◌}
use Rattle.std.specs.List.{count_by}
use Rattle.std.proofs.lemmas.List.Sums.{sum_by-append, sum_by-cons}
use Rattle.std.proofs.lemmas.Bool.Decides.{nat_tests}
use mathlib.Core.List.{IsPrefix}
use mathlib.Core.Option.{some-injective, some-ne-none}
use Rattle.atomic_table.proofs.Lists.{at_set}
use Rattle.vc_turn.specs.declared.rule.Noted.{Noted}
use Rattle.vc_turn.specs.History.{places_from, places}
use Rattle.vc_turn.specs.Rule.{At, Apart}

pub off : {X : Type 0} → (b : Bool) → b ≡ false → b ≡ true → X
off b is_not is = absurd (true≢false (sym is ∙ is_not))

module _ {A : Type 0} where
  pub one_at : (l : List A) (i : ℕ) (a b : A) → At l i a → At l i b → a ≡ b
  one_at l i a b p q = some-injective a b (sym p ∙ q)

  pub at_inside : (l : List A) (i : ℕ) (a : A) → At l i a → i < length l
  at_inside [] i a e = absurd (some-ne-none a (sym e))
  at_inside (x ∷ xs) zero a e = omega arith
  at_inside (x ∷ xs) (suc i) a e = let h = at_inside xs i a e in omega arith

  pub at_more : (l : List A) (a b : A) (j : ℕ) → At (l ++ a ∷ []) j b → At l j b ⊎ ((j ≡ length l) × (a ≡ b))
  at_more [] a b zero e = inr (refl, some-injective a b e)
  at_more [] a b (suc j) e = absurd (some-ne-none b (sym e))
  at_more (x ∷ xs) a b zero e = inl e
  at_more (x ∷ xs) a b (suc j) e = ⊎_elim (λ t. inl t) (λ t. inr (ap suc t.0, t.1)) (at_more xs a b j e)

  pub each_set : (P : ℕ → A → Type 0) (l : List A) (i : ℕ) (a : A) → ((j : ℕ) (b : A) → j ≢ i → At l j b → P j b) → P i a → (j : ℕ) (b : A) → At (set l i a) j b → P j b
  each_set P l i a others mine j b e = ⊎_elim (λ (t : (j ≡ i) × (a ≡ b)). subst (λ (x : ℕ × A). P x.0 x.1) (λ k. (sym t.0 k, t.1 k)) mine)
      (λ (t : (j ≢ i) × At l j b). others j b t.0 t.1) (at_set l i j a b e)

  pub each_more : (P : ℕ → A → Type 0) (l : List A) (a : A) → ((j : ℕ) (b : A) → At l j b → P j b) → P (length l) a → (j : ℕ) (b : A) → At (l ++ a ∷ []) j b → P j b
  each_more P l a others mine j b e = ⊎_elim (λ (t : At l j b). others j b t)
      (λ (t : (j ≡ length l) × (a ≡ b)). subst (λ (x : ℕ × A). P x.0 x.1) (λ k. (sym t.0 k, t.1 k)) mine) (at_more l a b j e)

  pub apart_set : (has : A → Bool) (key : A → ℕ) (l : List A) (i : ℕ) (a : A) → Apart has key l
      → (has a ≡ true → (j : ℕ) (b : A) → j ≢ i → At l j b → has b ≡ true → key a ≢ key b) → Apart has key (set l i a)
  apart_set has key l i a old new m n x y em en hx hy k = ⊎_elim
      (λ (t : (m ≡ i) × (a ≡ x)). ⊎_elim (λ (u : (n ≡ i) × (a ≡ y)). t.0 ∙ sym u.0)
      (λ (u : (n ≢ i) × At l n y). absurd (new (ap has t.1 ∙ hx) n y u.0 u.1 hy (ap key t.1 ∙ k))) (at_set l i n a y en))
      (λ (t : (m ≢ i) × At l m x). ⊎_elim (λ (u : (n ≡ i) × (a ≡ y)). absurd (new (ap has u.1 ∙ hy) m x t.0 t.1 hx (ap key u.1 ∙ sym k)))
      (λ (u : (n ≢ i) × At l n y). old m n x y t.1 u.1 hx hy k) (at_set l i n a y en))
      (at_set l i m a x em)

  pub apart_more : (has : A → Bool) (key : A → ℕ) (l : List A) (a : A) → Apart has key l
      → ((j : ℕ) (b : A) → At l j b → has b ≡ true → key a ≢ key b) → Apart has key (l ++ a ∷ [])
  apart_more has key l a old new m n x y em en hx hy k = ⊎_elim
      (λ (t : At l m x). ⊎_elim (λ (u : At l n y). old m n x y t u hx hy k)
      (λ (u : (n ≡ length l) × (a ≡ y)). absurd (new m x t hx (ap key u.1 ∙ sym k))) (at_more l a y n en))
      (λ (t : (m ≡ length l) × (a ≡ x)). ⊎_elim (λ (u : At l n y). absurd (new n y u hy (ap key t.1 ∙ k)))
      (λ (u : (n ≡ length l) × (a ≡ y)). t.0 ∙ sym u.0) (at_more l a y n en))
      (at_more l a x m em)

  pub count_set : (p : A → Bool) (l : List A) (i : ℕ) (a b : A) → At l i a → count_by p (set l i b) + cond (p a) 1 0 ≡ count_by p l + cond (p b) 1 0
  count_set p [] i a b e = absurd (some-ne-none a (sym e))
  count_set p (x ∷ xs) zero a b e =
      let f : A → ℕ = λ y. cond (p y) 1 0 in
      let same : f x ≡ f a = ap f (some-injective x a e) in
      omega (arith, sum_by-cons f x xs, sum_by-cons f b xs, same)
  count_set p (x ∷ xs) (suc i) a b e =
      let f : A → ℕ = λ y. cond (p y) 1 0 in
      omega (arith, sum_by-cons f x xs, sum_by-cons f x (set xs i b), count_set p xs i a b e)

  pub count_more : (p : A → Bool) (l : List A) (a : A) → count_by p (l ++ a ∷ []) ≡ count_by p l + cond (p a) 1 0
  count_more p l a = let f : A → ℕ = λ y. cond (p y) 1 0 in omega (arith, sum_by-append f l (a ∷ []), sum_by-cons f a [])

  pub prefix_self : (xs : List A) → IsPrefix xs xs
  prefix_self [] = ([], refl)
  prefix_self (x ∷ xs) = (let r = prefix_self xs in r.0, ap (λ ys. x ∷ ys) (prefix_self xs).1)

  pub prefix_trans : (xs ys zs : List A) → IsPrefix xs ys → IsPrefix ys zs → IsPrefix xs zs
  prefix_trans xs ys zs p q = (p.0 ++ q.0, sym (append_assoc xs p.0 q.0) ∙ (ap (λ w. w ++ q.0) p.1 ∙ q.1))

  pub prefix_more : (xs ys zs : List A) → IsPrefix xs ys → IsPrefix xs (ys ++ zs)
  prefix_more xs ys zs p = prefix_trans xs ys (ys ++ zs) p (zs, refl)

  pub prefix_is : (xs ys : List A) → xs ≡ ys → IsPrefix xs ys
  prefix_is xs ys e = subst (IsPrefix xs) e (prefix_self xs)

step_if : (b : Bool) (at : ℕ) (r t : List ℕ) → (if b then at ∷ (r ++ t) else (r ++ t)) ≡ (if b then at ∷ r else r) ++ t
step_if true at r t = refl
step_if false at r t = refl

own_from : (at number : ℕ) (xs : List Noted) (e : Noted) → e.seat ≡ number → places_from at number (xs ++ e ∷ []) ≡ places_from at number xs ++ (length xs + at) ∷ []
own_from at number [] e is =
    let t : (e.seat == number) ≡ true = grind (arith, nat_tests) in
    let n : at ≡ 0 + at = omega arith in
    ap (λ (b : Bool). if b then at ∷ [] else []) t ∙ ap (λ (k : ℕ). k ∷ []) n
own_from at number (x ∷ xs) e is =
    ap (λ (r : List ℕ). if x.seat == number then at ∷ r else r) (own_from (suc at) number xs e is)
    ∙ (step_if (x.seat == number) at (places_from (suc at) number xs) ((length xs + suc at) ∷ [])
    ∙ ap (λ (n : ℕ). places_from at number (x ∷ xs) ++ n ∷ []) (omega arith))

other_from : (at number : ℕ) (xs : List Noted) (e : Noted) → e.seat ≢ number → places_from at number (xs ++ e ∷ []) ≡ places_from at number xs
other_from at number [] e differs =
    let t : (e.seat == number) ≡ false = grind (arith, nat_tests) in
    ap (λ (b : Bool). if b then at ∷ [] else []) t
other_from at number (x ∷ xs) e differs = ap (λ (r : List ℕ). if x.seat == number then at ∷ r else r) (other_from (suc at) number xs e differs)

-- an entry of the seat is one more place
pub places_own : (number : ℕ) (xs : List Noted) (e : Noted) → e.seat ≡ number → places number (xs ++ e ∷ []) ≡ places number xs ++ length xs ∷ []
places_own number xs e is = own_from 0 number xs e is ∙ ap (λ (n : ℕ). places number xs ++ n ∷ []) (omega arith)

-- an entry of another seat changes nothing
pub places_other : (number : ℕ) (xs : List Noted) (e : Noted) → e.seat ≢ number → places number (xs ++ e ∷ []) ≡ places number xs
places_other number xs e differs = other_from 0 number xs e differs
