-- Two vectors laid in turn.
use Rattle.std.proofs.Common.{◌≡◌, ◌∙◌, sym, ap, refl, ℕ, suc, zero, ◌+◌, ◌-◌, ◌*◌, ◌<◌, ◌≤◌, ◌/◌, ◌%◌, List, [], ◌∷◌, ◌++◌, length, get_or, map, arith, inl, inr}
use Rattle.std.specs.Prelude.{ℤ, pos, neg_ℤ, ◌≤ℤ◌}
use Rattle.std.specs.Int.{w16}
use Rattle.std.proofs.lemmas.Int.{ints}
use Rattle.std.proofs.lemmas.Bool.{cases_eq, cases_lt}
use Rattle.std.proofs.lemmas.List.{get_or-append_right}
use mir.Val.{to_z, of_z}

pub each_of_four : (P : ℕ → Type 0) → P 0 → P 1 → P 2 → P 3 → (k : ℕ) → k < 4 → P k
each_of_four P p0 p1 p2 p3 zero h = p0
each_of_four P p0 p1 p2 p3 (suc zero) h = p1
each_of_four P p0 p1 p2 p3 (suc (suc zero)) h = p2
each_of_four P p0 p1 p2 p3 (suc (suc (suc zero))) h = p3
each_of_four P p0 p1 p2 p3 (suc (suc (suc (suc n)))) h = absurd (omega arith)

bits_of_lane : (a b : List ℤ) (i : ℕ) → i < length a → get_or (map (of_z w16) a ++ map (of_z w16) b) i 0 ≡ of_z w16 (get_or a i (pos 0))
bits_of_lane [] b i h = absurd (omega arith)
bits_of_lane (x ∷ a) b zero h = refl
bits_of_lane (x ∷ a) b (suc i) h = bits_of_lane a b i (omega arith)

bits_alone : (b : List ℤ) (i : ℕ) → i < length b → get_or (map (of_z w16) b) i 0 ≡ of_z w16 (get_or b i (pos 0))
bits_alone [] i h = absurd (omega arith)
bits_alone (x ∷ b) zero h = refl
bits_alone (x ∷ b) (suc i) h = bits_alone b i (omega arith)

bits_long : (a : List ℤ) → length (map (of_z w16) a) ≡ length a
bits_long [] = refl
bits_long (x ∷ a) = ap suc (bits_long a)

abbrev pub Small : List ℤ → Type 0
Small xs = (k : ℕ) → k < length xs → (neg_ℤ (pos 32760) ≤ℤ get_or xs k (pos 0)) × (get_or xs k (pos 0) ≤ℤ pos 32760)

back : (z : ℤ) → (neg_ℤ (pos 32760) ≤ℤ z) × (z ≤ℤ pos 32760) → to_z w16 (of_z w16 z) ≡ z
back z h = omega (arith, ints)

-- a lane of the first vector, and of the second
pub from_first : (a b : List ℤ) (i : ℕ) → length a ≡ 8 → Small a → i < 8 → to_z w16 (get_or (map (of_z w16) a ++ map (of_z w16) b) i 0) ≡ get_or a i (pos 0)
from_first a b i long s h = ap (to_z w16) (bits_of_lane a b i (omega arith)) ∙ back (get_or a i (pos 0)) (s i (omega arith))

pub from_second : (a b : List ℤ) (i : ℕ) → length a ≡ 8 → length b ≡ 8 → Small b → i < 8 → to_z w16 (get_or (map (of_z w16) a ++ map (of_z w16) b) (8 + i) 0) ≡ get_or b i (pos 0)
from_second a b i la lb s h =
    let e : 8 + i - 8 ≡ i = omega arith in
    ap (to_z w16) (get_or-append_right (map (of_z w16) a) (map (of_z w16) b) 8 (8 + i) 0 (bits_long a ∙ la) (omega arith))
    ∙ ap (λ j. to_z w16 (get_or (map (of_z w16) b) j 0)) e
    ∙ ap (to_z w16) (bits_alone b i (omega arith))
    ∙ back (get_or b i (pos 0)) (s i (omega arith))

-- What is laid in turn from two vectors in range is in range.

pub woven_small : (a b r : List ℤ) (place : ℕ → ℕ) → ((c : ℕ) → c < 4 → place c < 8) → length a ≡ 8 → length b ≡ 8 → length r ≡ 8 → Small a → Small b → ((c : ℕ) → c < 4
    → get_or r (2 * c) (pos 0) ≡ get_or a (place c) (pos 0)) → ((c : ℕ) → c < 4 → get_or r (2 * c + 1) (pos 0) ≡ get_or b (place c) (pos 0)) → Small r
woven_small a b r place inside la lb lr p q even odd k h =
    elim (cases_eq (k % 2) 0) [
      | inl e ↦
          let at : k ≡ 2 * (k / 2) = omega arith in
          rw (ap (λ j. get_or r j (pos 0)) at ∙ even (k / 2) (omega arith)) (p (place (k / 2)) (let w = inside (k / 2) (omega arith) in omega arith))
      | inr ne ↦
          let at : k ≡ 2 * (k / 2) + 1 = omega arith in
          rw (ap (λ j. get_or r j (pos 0)) at ∙ odd (k / 2) (omega arith)) (q (place (k / 2)) (let w = inside (k / 2) (omega arith) in omega arith))
    ]

-- The lanes of what is laid in turn, where the two vectors are the sums and the differences of two rows.
pub turned_sum : (x y : List ℤ) (row c : ℕ) → row < 4 → c < 8 → (s : ℤ) →
    (c < 4 → get_or y (8 * (2 * row) + 2 * c) (pos 0) ≡ s) → (4 ≤ c → get_or y (8 * (2 * row + 1) + 2 * (c - 4)) (pos 0) ≡ s) → get_or y (16 * row + 2 * c) (pos 0) ≡ s
turned_sum x y row c hr hc s low high =
    elim (cases_lt c 4) [
      | inl lt ↦ let e : 16 * row + 2 * c ≡ 8 * (2 * row) + 2 * c = omega arith in ap (λ j. get_or y j (pos 0)) e ∙ low lt
      | inr ge ↦ let e : 16 * row + 2 * c ≡ 8 * (2 * row + 1) + 2 * (c - 4) = omega arith in ap (λ j. get_or y j (pos 0)) e ∙ high ge
    ]

pub turned_difference : (x y : List ℤ) (row c : ℕ) → row < 4 → c < 8 → (s : ℤ) →
    (c < 4 → get_or y (8 * (2 * row) + (2 * c + 1)) (pos 0) ≡ s) → (4 ≤ c → get_or y (8 * (2 * row + 1) + (2 * (c - 4) + 1)) (pos 0) ≡ s) → get_or y (16 * row + 2 * c + 1) (pos 0) ≡ s
turned_difference x y row c hr hc s low high =
    elim (cases_lt c 4) [
      | inl lt ↦ let e : 16 * row + 2 * c + 1 ≡ 8 * (2 * row) + (2 * c + 1) = omega arith in ap (λ j. get_or y j (pos 0)) e ∙ low lt
      | inr ge ↦ let e : 16 * row + 2 * c + 1 ≡ 8 * (2 * row + 1) + (2 * (c - 4) + 1) = omega arith in ap (λ j. get_or y j (pos 0)) e ∙ high ge
    ]
