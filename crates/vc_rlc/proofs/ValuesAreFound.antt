-- Finding the values that are not zero. Eight values are looked at at once, and each that isn't zero adds its number
-- to a list that is in order and leaves none out.
use Rattle.std.proofs.Common.{◌≡◌, ◌≢◌, ◌∙◌, ap, refl, ℕ, suc, zero, ◌+◌, ◌<◌, ◌≤◌, inl, inr, List, length, get_or, set, arith, subst, add-one, get_or-set_same, get_or-set_other}
use Rattle.std.specs.Prelude.{ℤ, pos}
use Rattle.std.proofs.lemmas.Bool.{cases_lt}
use Rattle.vc_rlc.specs.Finding.{behind, AreFound}

pub none_found : (values : List ℤ) (numbers : List ℕ) → AreFound values numbers 0 0
none_found values numbers = record {
  few = omega arith;
  last = omega arith;
  inside = λ i h. absurd (omega arith);
  ordered = λ i h. absurd (omega arith);
  some = λ i h. absurd (omega arith);
  between = λ i k h a b. absurd (omega arith);
  after = λ k a b. absurd (omega arith);
}

pub behind_next : (numbers : List ℕ) (count : ℕ) → behind numbers (count + 1) ≡ get_or numbers count 0 + 1
behind_next numbers count = ap (λ n. behind numbers n) (add-one count)

-- A number that is written behind those that were found changes none of them.
same_number : (numbers : List ℕ) (count v i : ℕ) → i < count → get_or (set numbers count v) i 0 ≡ get_or numbers i 0
same_number numbers count v i h = let ne : i ≢ count = omega arith in get_or-set_other numbers count i v 0 ne

same_behind : (numbers : List ℕ) (count v i : ℕ) → i ≤ count → behind (set numbers count v) i ≡ behind numbers i
same_behind numbers count v zero h = refl
same_behind numbers count v (suc i) h = ap (λ n. n + 1) (same_number numbers count v i (omega arith))

-- The next value is zero.
pub zero_passed : (values : List ℤ) (numbers : List ℕ) (count k v : ℕ) → get_or values k (pos 0) ≡ pos 0 → AreFound values numbers count k → AreFound values (set numbers count v) count (k + 1)
zero_passed values numbers count k v is f = record {
  few = omega (arith, f.few);
  last = rw (same_behind numbers count v count (omega arith)) (omega (arith, f.last));
  inside = λ i h. let p = f.inside i h in rw (same_number numbers count v i h) (omega (arith, p));
  ordered = λ i h. rw (same_number numbers count v i h, same_behind numbers count v i (omega arith)) (f.ordered i h);
  some = λ i h. rw (same_number numbers count v i h) (f.some i h);
  between = λ i j h a b. f.between i j h (rw (← same_behind numbers count v i (omega arith)) a) (rw (← same_number numbers count v i h) b);
  after = λ j a b.
      let a' : behind numbers count ≤ j = rw (← same_behind numbers count v count (omega arith)) a in
      elim (cases_lt j k) [
        | inl lt ↦ f.after j a' lt
        | inr le ↦ let e : j ≡ k = omega arith in ap (λ n. get_or values n (pos 0)) e ∙ is
      ];
}

-- The next value is another one.
pub value_found : (values : List ℤ) (numbers : List ℕ) (count k : ℕ) → count < length numbers → get_or values k (pos 0) ≢ pos 0 → AreFound values numbers count k → AreFound values (set numbers count k) (count + 1) (k + 1)
value_found values numbers count k room is f =
    let new : get_or (set numbers count k) count 0 ≡ k = get_or-set_same numbers count k 0 room in
    record {
      few = omega (arith, f.few);
      last = last new;
      inside = λ i h.
          elim (cases_lt i count) [
            | inl lt ↦ let p = f.inside i lt in rw (same_number numbers count k i lt) (omega (arith, p))
            | inr le ↦ let e : i ≡ count = omega arith in rw (e, new) (omega arith)
          ];
      ordered = λ i h.
          elim (cases_lt i count) [
            | inl lt ↦ rw (same_number numbers count k i lt, same_behind numbers count k i (omega arith)) (f.ordered i lt)
            | inr le ↦ let e : i ≡ count = omega arith in rw (e, new, same_behind numbers count k count (omega arith)) f.last
          ];
      some = λ i h.
          elim (cases_lt i count) [
            | inl lt ↦ rw (same_number numbers count k i lt) (f.some i lt)
            | inr le ↦ let e : i ≡ count = omega arith in rw (e, new) is
          ];
      between = λ i j h a b.
          elim (cases_lt i count) [
            | inl lt ↦ f.between i j lt (rw (← same_behind numbers count k i (omega arith)) a) (rw (← same_number numbers count k i lt) b)
            | inr le ↦
                let e : i ≡ count = omega arith in
                let a' : behind numbers count ≤ j = subst (λ (n : ℕ). behind numbers n ≤ j) e (subst (λ (n : ℕ). n ≤ j) (same_behind numbers count k i (omega arith)) a) in
                let b' : j < k = subst (λ (n : ℕ). j < n) (ap (λ m. get_or (set numbers count k) m 0) e ∙ new) b in
                f.after j a' b'
          ];
      after = λ j a b. absurd (no_room new j a b);
    }
  where
    last : get_or (set numbers count k) count 0 ≡ k → behind (set numbers count k) (count + 1) ≤ k + 1
    last new = omega (arith, new, behind_next (set numbers count k) count)

    no_room : get_or (set numbers count k) count 0 ≡ k → (j : ℕ) → behind (set numbers count k) (count + 1) ≤ j → j < k + 1 → ⊥
    no_room new j a b = omega (arith, new, a, b, behind_next (set numbers count k) count)
