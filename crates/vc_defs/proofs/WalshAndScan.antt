-- The Walsh matrix is its own inverse up to its size, and the scan order goes along the diagonals. Both are
-- statements about tables of 64 entries, so each entry is computed and compared.
use Rattle.std.proofs.Common.{◌≡◌, refl, subst, ℕ, ◌+◌, ◌*◌, ◌/◌, ◌%◌, ◌<◌, inl, inr, [], ◌∷◌, arith, replicate, map}
use Rattle.std.specs.Prelude.{ℤ, pos, ◌*ℤ◌, ◌⊎◌, Bool, true, false, ◌&&◌, nat_eq, nat_lt, cond}
use Rattle.std.proofs.lemmas.Bool.{and_parts, agree_below_at, cases_lt}
use Rattle.std.proofs.lemmas.Bool.Decides.{nat_tests}
use Rattle.vc_defs.specs.Walsh.{sum_below, walsh}
use Rattle.vc_defs.specs.Quantiser.{shift_at, dequantised}
use Rattle.vc_defs.specs.Words.{scan_place}
use Rattle.vc_defs.specs.Planes.{same_value}
use Rattle.vc_defs.specs.Laws.{sign_changes, WalshIsItsInverse, diagonal_of, ScanGoesByDiagonals}
use Rattle.vc_defs.proofs.CanonPlaneStands.{same_value_is}
use Rattle.vc_defs.proofs.ScanVisitsEachPlace.{scan_inside, scan_place_of_number}

-- the sum of products, and what it should be
product : ℕ → ℕ → ℤ
product u v = sum_below 8 (λ i. walsh u i *ℤ walsh i v)

unit : ℕ → ℕ → ℤ
unit u v = cond (nat_eq u v) (pos 8) (pos 0)

is_right : ℕ → Bool
is_right k =
    same_value (walsh (k / 8) (k % 8)) (walsh (k % 8) (k / 8)) && (same_value (product (k / 8) (k % 8)) (unit (k / 8) (k % 8)) && nat_eq (sign_changes (k / 8) 7) (k / 8))

walsh_at : (k : ℕ) → k < 64 → (walsh (k / 8) (k % 8) ≡ walsh (k % 8) (k / 8)) × (product (k / 8) (k % 8) ≡ unit (k / 8) (k % 8)) × (sign_changes (k / 8) 7 ≡ k / 8)
unfolding is_right product unit walsh
walsh_at k h =
    let t : is_right k ≡ true = agree_below_at is_right (λ k. true) 64 k refl h in
    let a = and_parts (same_value (walsh (k / 8) (k % 8)) (walsh (k % 8) (k / 8))) (same_value (product (k / 8) (k % 8)) (unit (k / 8) (k % 8)) && nat_eq (sign_changes (k / 8) 7) (k / 8)) t in
    let b = and_parts (same_value (product (k / 8) (k % 8)) (unit (k / 8) (k % 8))) (nat_eq (sign_changes (k / 8) 7) (k / 8)) a.1 in
    (same_value_is (walsh (k / 8) (k % 8)) (walsh (k % 8) (k / 8)) a.0, same_value_is (product (k / 8) (k % 8)) (unit (k / 8) (k % 8)) b.0, same_number (sign_changes (k / 8) 7) (k / 8) b.1)
  where
    same_number : (m n : ℕ) → nat_eq m n ≡ true → m ≡ n
    same_number m n e = grind (arith, nat_tests)

pub walsh_is_its_inverse : WalshIsItsInverse
unfolding product unit
walsh_is_its_inverse u v hu hv =
    let row : (8 * u + v) / 8 ≡ u = omega arith in
    let column : (8 * u + v) % 8 ≡ v = omega arith in
    subst (λ (i : ℕ). (walsh i v ≡ walsh v i) × (product i v ≡ unit i v) × (sign_changes i 7 ≡ i)) row
    (subst (λ (j : ℕ). (walsh ((8 * u + v) / 8) j ≡ walsh j ((8 * u + v) / 8)) × (product ((8 * u + v) / 8) j ≡ unit ((8 * u + v) / 8) j) × (sign_changes ((8 * u + v) / 8) 7 ≡ (8 * u + v) / 8)) column (walsh_at (8 * u + v) (omega arith)))

-- the number of a place by its diagonal and then its row
rank : ℕ → ℕ
rank place = 8 * diagonal_of place + place / 8

scan_ascends : (k : ℕ) → k < 63 → rank (scan_place k) < rank (scan_place (k + 1))
unfolding rank scan_place
scan_ascends k h =
    let t : nat_lt (rank (scan_place k)) (rank (scan_place (k + 1))) ≡ true = agree_below_at (λ k. nat_lt (rank (scan_place k)) (rank (scan_place (k + 1)))) (λ k. true) 63 k refl h in
    grind (arith, nat_tests)

pub scan_goes_by_diagonals : ScanGoesByDiagonals
unfolding rank
scan_goes_by_diagonals = (scan_place_of_number, λ k h. by_rank (scan_place k) (scan_place (k + 1)) (scan_inside k) (scan_inside (k + 1)) (scan_ascends k h))
  where
    by_rank : (here next : ℕ) → here < 64 → next < 64 → rank here < rank next → (diagonal_of here < diagonal_of next) ⊎ ((diagonal_of here ≡ diagonal_of next) × (here / 8 < next / 8))
    by_rank here next a b h = elim (cases_lt (diagonal_of here) (diagonal_of next)) [ inl d ↦ inl d | inr d ↦ inr (omega arith, omega arith) ]

-- ones in all places of an I block, and of a P block, shifted to the left
ones_of_intra : dequantised (replicate 64 (pos 1)) true
    ≡ map pos (4 ∷ 4 ∷ 4 ∷ 8 ∷ 8 ∷ 16 ∷ 16 ∷ 32 ∷ 4 ∷ 4 ∷ 8 ∷ 8 ∷ 16 ∷ 16 ∷ 32 ∷ 32 ∷ 4 ∷ 8 ∷ 8 ∷ 16 ∷ 16 ∷ 32 ∷ 32 ∷ 64 ∷ 8 ∷ 8 ∷ 16 ∷ 16 ∷ 32 ∷ 32 ∷ 64 ∷ 64
    ∷ 8 ∷ 16 ∷ 16 ∷ 32 ∷ 32 ∷ 64 ∷ 64 ∷ 128 ∷ 16 ∷ 16 ∷ 32 ∷ 32 ∷ 64 ∷ 64 ∷ 128 ∷ 128 ∷ 16 ∷ 32 ∷ 32 ∷ 64 ∷ 64 ∷ 128 ∷ 128 ∷ 256 ∷ 32 ∷ 32 ∷ 64 ∷ 64 ∷ 128 ∷ 128 ∷ 256 ∷ 256 ∷ [])
unfolding dequantised shift_at
ones_of_intra = refl

ones_of_inter : dequantised (replicate 64 (pos 1)) false
    ≡ map pos (8 ∷ 8 ∷ 8 ∷ 16 ∷ 16 ∷ 32 ∷ 32 ∷ 64 ∷ 8 ∷ 8 ∷ 16 ∷ 16 ∷ 32 ∷ 32 ∷ 64 ∷ 64 ∷ 8 ∷ 16 ∷ 16 ∷ 32 ∷ 32 ∷ 64 ∷ 64 ∷ 128 ∷ 16 ∷ 16 ∷ 32 ∷ 32 ∷ 64 ∷ 64 ∷ 128 ∷ 128
    ∷ 16 ∷ 32 ∷ 32 ∷ 64 ∷ 64 ∷ 128 ∷ 128 ∷ 256 ∷ 32 ∷ 32 ∷ 64 ∷ 64 ∷ 128 ∷ 128 ∷ 256 ∷ 512 ∷ 32 ∷ 64 ∷ 64 ∷ 128 ∷ 128 ∷ 256 ∷ 512 ∷ 1024 ∷ 64 ∷ 64 ∷ 128 ∷ 128 ∷ 256 ∷ 512 ∷ 1024 ∷ 1024 ∷ [])
unfolding dequantised shift_at
ones_of_inter = refl
