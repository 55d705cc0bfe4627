-- Sums of signed numbers below a bound. A sign leaves the size of a number as it is, so that a sum of so many is at
-- most so many times the bound.
use Rattle.std.proofs.Common.{◌≡◌, ◌∙◌, ap, refl, ℕ, suc, zero, ◌+◌, ◌*◌, ◌<◌, arith, inl, inr}
use Rattle.std.specs.Prelude.{ℤ, pos, negsuc, ◌+ℤ◌, ◌*ℤ◌, ◌⊎◌}
use Rattle.std.proofs.lemmas.Int.{ints}
use Rattle.vc_defs.specs.Walsh.{sum_below}
use Rattle.vc_fwht.proofs.MachineSumsAreExact.{Within}

-- 1 or -1
abbrev pub IsSign : ℤ → Type 0
IsSign w = (w ≡ pos 1) ⊎ (w ≡ negsuc 0)

pub same_sum : (n : ℕ) (f g : ℕ → ℤ) → ((i : ℕ) → i < n → f i ≡ g i) → sum_below n f ≡ sum_below n g
same_sum zero f g h = refl
same_sum (suc n) f g h =
    let e : sum_below n f ≡ sum_below n g = same_sum n f g (λ i p. h i (omega arith)) in
    let e' : f n ≡ g n = h n (omega arith) in
    cc

-- A sign goes into a sum.
pub signed_sum : (w : ℤ) → IsSign w → (n : ℕ) (f : ℕ → ℤ) → w *ℤ sum_below n f ≡ sum_below n (λ i. w *ℤ f i)
signed_sum w s zero f = elim s [ inl e ↦ rw e refl | inr e ↦ rw e refl ]
signed_sum w s (suc n) f =
    let e : w *ℤ sum_below n f ≡ sum_below n (λ i. w *ℤ f i) = signed_sum w s n f in
    let e' : w *ℤ (sum_below n f +ℤ f n) ≡ w *ℤ sum_below n f +ℤ w *ℤ f n = over_sum w s (sum_below n f) (f n) in
    e' ∙ ap (λ z. z +ℤ w *ℤ f n) e
  where
    over_sum : (w : ℤ) → IsSign w → (a b : ℤ) → w *ℤ (a +ℤ b) ≡ w *ℤ a +ℤ w *ℤ b
    over_sum w s a b = elim s [ inl e ↦ rw e (omega (arith, ints)) | inr e ↦ rw e (omega (arith, ints)) ]

-- The signs on both sides of a number may be put together either way.
pub between_signs : (w a u : ℤ) → IsSign w → IsSign u → w *ℤ (a *ℤ u) ≡ w *ℤ a *ℤ u
between_signs w a u s t =
    elim s [
      | inl e ↦ elim t [ inl d ↦ rw (e, d) (omega (arith, ints)) | inr d ↦ rw (e, d) (omega (arith, ints)) ]
      | inr e ↦ elim t [ inl d ↦ rw (e, d) (omega (arith, ints)) | inr d ↦ rw (e, d) (omega (arith, ints)) ]
    ]

pub signed_within : (n : ℕ) (a w : ℤ) → IsSign w → Within n a → Within n (a *ℤ w)
signed_within n a w s h = elim s [ inl e ↦ rw e (omega (arith, ints), omega (arith, ints)) | inr e ↦ rw e (omega (arith, ints), omega (arith, ints)) ]

-- A sum of n numbers of which none is beyond m is not beyond n times m.
pub sum_within : (m n : ℕ) (f : ℕ → ℤ) → ((i : ℕ) → i < n → Within m (f i)) → Within (n * m) (sum_below n f)
sum_within m zero f h = (omega (arith, ints), omega (arith, ints))
sum_within m (suc n) f h =
    let before : Within (n * m) (sum_below n f) = sum_within m n f (λ i p. h i (omega arith)) in
    let here : Within m (f n) = h n (omega arith) in
    let e : suc n * m ≡ n * m + m = omega arith in
    rw e (omega (arith, ints), omega (arith, ints))
