-- The inverse transform of a block of which only the first value may not be zero has that coefficient everywhere. All
-- other terms of each sum are zero, and the first column of the matrix has no minus.
use Rattle.std.proofs.Common.{◌≡◌, ◌∙◌, sym, ap, refl, ℕ, suc, zero, ◌+◌, ◌*◌, ◌/◌, ◌%◌, ◌^◌, ◌<◌, inl, inr, List, get_or, replicate, arith}
use Rattle.std.specs.Prelude.{ℤ, pos, ◌*ℤ◌, Bool}
use Rattle.std.proofs.lemmas.Int.{ints}
use Rattle.std.proofs.lemmas.List.{ext_get_or, get_or-replicate, length-replicate}
use Rattle.vc_defs.specs.Walsh.{sum_below, walsh, entry_at, coefficient, transformed}
use Rattle.vc_defs.specs.Quantiser.{dequantised, shift_at}
use Rattle.vc_defs.proofs.ListsByPlace.{entry_of_table, length_of_table}
use Rattle.vc_fwht.proofs.SignedSumsAreBounded.{IsSign}
use Rattle.vc_fwht.proofs.MatrixEntriesAreSigns.{walsh_is_sign, walsh_symmetric}

sum_zero : (n : ℕ) (f : ℕ → ℤ) → ((i : ℕ) → i < n → f i ≡ pos 0) → sum_below n f ≡ pos 0
sum_zero zero f h = refl
sum_zero (suc n) f h =
    let e : sum_below n f ≡ pos 0 = sum_zero n f (λ i p. h i (omega arith)) in
    let e' : f n ≡ pos 0 = h n (omega arith) in
    omega (arith, ints, e, e')

sum_first : (n : ℕ) (f : ℕ → ℤ) → ((i : ℕ) → 0 < i → i < suc n → f i ≡ pos 0) → sum_below (suc n) f ≡ f 0
sum_first zero f h = omega (arith, ints)
sum_first (suc n) f h =
    let e : sum_below (suc n) f ≡ f 0 = sum_first n f (λ i p q. h i p (omega arith)) in
    let e' : f (suc n) ≡ pos 0 = h (suc n) (omega arith) (omega arith) in
    omega (arith, ints, e, e')

zero_between : (w a u : ℤ) → IsSign w → IsSign u → a ≡ pos 0 → w *ℤ a *ℤ u ≡ pos 0
zero_between w a u s t e =
    elim s [
      | inl p ↦ elim t [ inl q ↦ rw (p, q, e) refl | inr q ↦ rw (p, q, e) refl ]
      | inr p ↦ elim t [ inl q ↦ rw (p, q, e) refl | inr q ↦ rw (p, q, e) refl ]
    ]

-- The first column of the matrix has no minus.
first_column : (u : ℕ) → u < 8 → walsh u 0 ≡ pos 1
unfolding walsh
first_column zero h = refl
first_column (suc zero) h = refl
first_column (suc (suc zero)) h = refl
first_column (suc (suc (suc zero))) h = refl
first_column (suc (suc (suc (suc zero)))) h = refl
first_column (suc (suc (suc (suc (suc zero))))) h = refl
first_column (suc (suc (suc (suc (suc (suc zero)))))) h = refl
first_column (suc (suc (suc (suc (suc (suc (suc zero))))))) h = refl
first_column (suc (suc (suc (suc (suc (suc (suc (suc n)))))))) h = absurd (omega arith)

between_ones : (w a u : ℤ) → w ≡ pos 1 → u ≡ pos 1 → w *ℤ a *ℤ u ≡ a
between_ones w a u p q = rw (p, q) (omega (arith, ints))

flat_coefficient : (d : List ℤ) (u v : ℕ) → u < 8 → v < 8 → ((k : ℕ) → 0 < k → k < 64 → get_or d k (pos 0) ≡ pos 0) → coefficient d u v ≡ get_or d 0 (pos 0)
unfolding coefficient
flat_coefficient d u v hu hv flat =
    sum_first 7 (λ i. sum_below 8 (λ j. walsh u i *ℤ entry_at d i j *ℤ walsh j v))
    (λ i p q. sum_zero 8 (λ j. walsh u i *ℤ entry_at d i j *ℤ walsh j v)
    (λ j h. zero_between (walsh u i) (entry_at d i j) (walsh j v) (walsh_is_sign u i hu (omega arith)) (walsh_is_sign j v h hv) (flat (8 * i + j) (omega arith) (omega arith))))
    ∙ sum_first 7 (λ j. walsh u 0 *ℤ entry_at d 0 j *ℤ walsh j v)
    (λ j p q. zero_between (walsh u 0) (entry_at d 0 j) (walsh j v) (walsh_is_sign u 0 hu (omega arith)) (walsh_is_sign j v (omega arith) hv) (flat (8 * 0 + j) (omega arith) (omega arith)))
    ∙ between_ones (walsh u 0) (get_or d 0 (pos 0)) (walsh 0 v) (first_column u hu) (walsh_symmetric 0 v (omega arith) hv ∙ first_column v hv)

zero_times : (a : ℤ) (n : ℕ) → a ≡ pos 0 → a *ℤ pos n ≡ pos 0
zero_times a n e = rw e (omega (arith, ints))

-- The inverse transform of such a block has its first coefficient everywhere.
pub flat_is : (q : List ℤ) (intra : Bool) → ((k : ℕ) → 0 < k → k < 64 → get_or q k (pos 0) ≡ pos 0) → replicate 64 (get_or q 0 (pos 0) *ℤ pos (2 ^ shift_at intra 0)) ≡ transformed (dequantised q intra)
unfolding transformed dequantised
flat_is q intra flat =
    ext_get_or (pos 0) (replicate 64 (get_or q 0 (pos 0) *ℤ pos (2 ^ shift_at intra 0))) (transformed (dequantised q intra))
    (length-replicate 64 (get_or q 0 (pos 0) *ℤ pos (2 ^ shift_at intra 0)) ∙ sym (length_of_table (λ k. coefficient (dequantised q intra) (k / 8) (k % 8)) 64))
    (λ k h.
    let inside : k < 64 = omega (arith, length-replicate 64 (get_or q 0 (pos 0) *ℤ pos (2 ^ shift_at intra 0))) in
    get_or-replicate 64 k (get_or q 0 (pos 0) *ℤ pos (2 ^ shift_at intra 0)) (pos 0) inside
    ∙ sym (entry_of_table (λ m. get_or q m (pos 0) *ℤ pos (2 ^ shift_at intra m)) 64 0 (omega arith))
    ∙ sym (flat_coefficient (dequantised q intra) (k / 8) (k % 8) (omega arith) (omega arith)
    (λ m some small. entry_of_table (λ m. get_or q m (pos 0) *ℤ pos (2 ^ shift_at intra m)) 64 m small ∙ zero_times (get_or q m (pos 0)) (2 ^ shift_at intra m) (flat m some small)))
    ∙ sym (entry_of_table (λ k. coefficient (dequantised q intra) (k / 8) (k % 8)) 64 k inside))

-- all zeros
pub zeros_are : (q : List ℤ) (intra : Bool) → ((k : ℕ) → k < 64 → get_or q k (pos 0) ≡ pos 0) → (k : ℕ) → k < 64 → get_or (transformed (dequantised q intra)) k (pos 0) ≡ pos 0
zeros_are q intra none k h =
    ap (λ y. get_or y k (pos 0)) (sym (flat_is q intra (λ m some small. none m small)))
    ∙ get_or-replicate 64 k (get_or q 0 (pos 0) *ℤ pos (2 ^ shift_at intra 0)) (pos 0) h
    ∙ zero_times (get_or q 0 (pos 0)) (2 ^ shift_at intra 0) (none 0 (omega arith))
