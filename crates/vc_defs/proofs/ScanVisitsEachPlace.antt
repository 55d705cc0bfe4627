-- The scan order goes through each place of a block once, so putting values into it and taking them out of it undo
-- each other. The number of a place in the order is computed for all 64 places, and no two have the same.
use Rattle.std.proofs.Common.{◌≡◌, ◌≢◌, ◌∙◌, sym, ap, refl, ℕ, ◌<◌, ◌≤◌, List, [], ◌∷◌, get_or, set, length, arith, inl, inr, get_or-set_same, get_or-set_other}
use Rattle.std.specs.Prelude.{ℤ, pos, true, nat_eq, nat_lt}
use Rattle.std.proofs.lemmas.List.{ext_get_or, length-set}
use Rattle.std.proofs.lemmas.Bool.{agree_below_at, cases_eq}
use Rattle.std.proofs.lemmas.Bool.Decides.{nat_tests}
use Rattle.vc_defs.specs.declared.TheConstants.{SCAN}
use Rattle.vc_defs.specs.Words.{scan_place, scan_number, place_from, in_scan_order, from_scan_order}
use Rattle.vc_defs.proofs.ListsByPlace.{entry_of_table, length_of_table}
use Rattle.vc_defs.proofs.ShiftTables.{entry_small}

pub scan_place_is : (k : ℕ) → get_or SCAN k 0 ≡ scan_place k
unfolding scan_place
scan_place_is k = refl

pub scan_inside : (k : ℕ) → scan_place k < 64
unfolding scan_place
scan_inside k = let e : get_or SCAN k 0 ≤ 63 = entry_small SCAN 63 k refl in omega arith

-- how many values come before that of a place
order : List ℕ
order =
    0 ∷ 1 ∷ 3 ∷ 6 ∷ 10 ∷ 15 ∷ 21 ∷ 28 ∷ 2 ∷ 4 ∷ 7 ∷ 11 ∷ 16 ∷ 22 ∷ 29 ∷ 36 ∷ 5 ∷ 8 ∷ 12 ∷ 17 ∷ 23 ∷ 30 ∷ 37 ∷ 43 ∷ 9 ∷ 13 ∷ 18 ∷ 24 ∷ 31 ∷ 38 ∷ 44
    ∷ 49 ∷ 14 ∷ 19 ∷ 25 ∷ 32 ∷ 39 ∷ 45 ∷ 50 ∷ 54 ∷ 20 ∷ 26 ∷ 33 ∷ 40 ∷ 46 ∷ 51 ∷ 55 ∷ 58 ∷ 27 ∷ 34 ∷ 41 ∷ 47 ∷ 52 ∷ 56 ∷ 59 ∷ 61 ∷ 35 ∷ 42 ∷ 48 ∷ 53
    ∷ 57 ∷ 60 ∷ 62 ∷ 63 ∷ []

pub length-in_scan_order : (q : List ℤ) → length (in_scan_order q) ≡ 64
unfolding in_scan_order
length-in_scan_order q = length_of_table (λ k. get_or q (scan_place k) (pos 0)) 64

pub in_scan_order_at : (q : List ℤ) (k : ℕ) → k < 64 → get_or (in_scan_order q) k (pos 0) ≡ get_or q (scan_place k) (pos 0)
unfolding in_scan_order
in_scan_order_at q k h = entry_of_table (λ k. get_or q (scan_place k) (pos 0)) 64 k h

order_of_scan : (k : ℕ) → k < 64 → get_or order (scan_place k) 0 ≡ k
unfolding order scan_place
order_of_scan k h =
    let t : nat_eq (get_or order (get_or SCAN k 0) 0) k ≡ true = agree_below_at (λ k. nat_eq (get_or order (get_or SCAN k 0) 0) k) (λ k. true) 64 k refl h in
    grind (arith, nat_tests)

-- Two values have two places.
pub scan_apart : (j k : ℕ) → j < 64 → k < 64 → j ≢ k → scan_place j ≢ scan_place k
scan_apart j k hj hk ne = λ e. ne (sym (order_of_scan j hj) ∙ ap (λ p. get_or order p 0) e ∙ order_of_scan k hk)

-- Each place has a value.
pub place_in_scan : (p : ℕ) → p < 64 → (k : ℕ) × ((k < 64) × (scan_place k ≡ p))
unfolding order scan_place
place_in_scan p h =
    let t : nat_eq (get_or SCAN (get_or order p 0) 0) p ≡ true = agree_below_at (λ p. nat_eq (get_or SCAN (get_or order p 0) 0) p) (λ k. true) 64 p refl h in
    let small : get_or order p 0 ≤ 63 = entry_small order 63 p refl in
    (get_or order p 0, (omega arith, grind (arith, nat_tests)))

-- A value is written at its place.
pub in_scan_order-set : (q : List ℤ) (k : ℕ) (v : ℤ) → length q ≡ 64 → k < 64 → in_scan_order (set q (scan_place k) v) ≡ set (in_scan_order q) k v
in_scan_order-set q k v long hk =
    ext_get_or (pos 0) (in_scan_order (set q (scan_place k) v)) (set (in_scan_order q) k v)
    (length-in_scan_order (set q (scan_place k) v) ∙ sym (length-set (in_scan_order q) k v ∙ length-in_scan_order q))
    (λ j hj.
    let hj' : j < 64 = omega (arith, length-in_scan_order (set q (scan_place k) v)) in
    in_scan_order_at (set q (scan_place k) v) j hj' ∙ at j hj')
  where
    at : (j : ℕ) → j < 64 → get_or (set q (scan_place k) v) (scan_place j) (pos 0) ≡ get_or (set (in_scan_order q) k v) j (pos 0)
    at j hj =
        elim (cases_eq j k) [
          | inl e ↦
              let inside : scan_place k < length q = omega (arith, scan_inside k) in
              let inside' : k < length (in_scan_order q) = omega (arith, length-in_scan_order q) in
              ap (λ i. get_or (set q (scan_place k) v) (scan_place i) (pos 0)) e
              ∙ get_or-set_same q (scan_place k) v (pos 0) inside
              ∙ sym (get_or-set_same (in_scan_order q) k v (pos 0) inside')
              ∙ ap (λ i. get_or (set (in_scan_order q) k v) i (pos 0)) (sym e)
          | inr ne ↦
              get_or-set_other q (scan_place k) (scan_place j) v (pos 0) (scan_apart j k hj hk ne)
              ∙ sym (in_scan_order_at q j hj)
              ∙ sym (get_or-set_other (in_scan_order q) k j v (pos 0) ne)
        ]

scan_number_of_place : (k : ℕ) → k < 64 → scan_number (scan_place k) ≡ k
unfolding scan_number scan_place
scan_number_of_place k h =
    let t : nat_eq (place_from (get_or SCAN k 0) 0 SCAN) k ≡ true = agree_below_at (λ k. nat_eq (place_from (get_or SCAN k 0) 0 SCAN) k) (λ k. true) 64 k refl h in
    grind (arith, nat_tests)

pub scan_place_of_number : (p : ℕ) → p < 64 → scan_place (scan_number p) ≡ p
unfolding scan_number scan_place
scan_place_of_number p h =
    let t : nat_eq (get_or SCAN (place_from p 0 SCAN) 0) p ≡ true = agree_below_at (λ p. nat_eq (get_or SCAN (place_from p 0 SCAN) 0) p) (λ p. true) 64 p refl h in
    grind (arith, nat_tests)

scan_number_inside : (p : ℕ) → p < 64 → scan_number p < 64
unfolding scan_number
scan_number_inside p h =
    let t : nat_lt (place_from p 0 SCAN) 64 ≡ true = agree_below_at (λ p. nat_lt (place_from p 0 SCAN) 64) (λ p. true) 64 p refl h in
    grind (arith, nat_tests)

pub length-from_scan_order : (values : List ℤ) → length (from_scan_order values) ≡ 64
unfolding from_scan_order
length-from_scan_order values = length_of_table (λ p. get_or values (scan_number p) (pos 0)) 64

from_scan_order_at : (values : List ℤ) (p : ℕ) → p < 64 → get_or (from_scan_order values) p (pos 0) ≡ get_or values (scan_number p) (pos 0)
unfolding from_scan_order
from_scan_order_at values p h = entry_of_table (λ p. get_or values (scan_number p) (pos 0)) 64 p h

-- The two orders undo each other.
pub in_from_scan_order : (values : List ℤ) → length values ≡ 64 → in_scan_order (from_scan_order values) ≡ values
in_from_scan_order values long =
    ext_get_or (pos 0) (in_scan_order (from_scan_order values)) values (length-in_scan_order (from_scan_order values) ∙ sym long)
    (λ k h.
    let h' : k < 64 = omega (arith, length-in_scan_order (from_scan_order values)) in
    in_scan_order_at (from_scan_order values) k h' ∙ from_scan_order_at values (scan_place k) (scan_inside k) ∙ ap (λ i. get_or values i (pos 0)) (scan_number_of_place k h'))

pub from_in_scan_order : (q : List ℤ) → length q ≡ 64 → from_scan_order (in_scan_order q) ≡ q
from_in_scan_order q long =
    ext_get_or (pos 0) (from_scan_order (in_scan_order q)) q (length-from_scan_order (in_scan_order q) ∙ sym long)
    (λ p h.
    let h' : p < 64 = omega (arith, length-from_scan_order (in_scan_order q)) in
    from_scan_order_at (in_scan_order q) p h' ∙ in_scan_order_at q (scan_number p) (scan_number_inside p h') ∙ ap (λ i. get_or q i (pos 0)) (scan_place_of_number p h'))
