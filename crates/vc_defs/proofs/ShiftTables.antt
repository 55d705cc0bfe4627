-- The entries of the tables of shifts are small, and a shift to the left of a number that stays in its range
-- multiplies it. The tables are constants, so the greatest entry bounds each of them.
use Rattle.std.proofs.Common.{◌≡◌, ◌∙◌, ap, ℕ, suc, zero, ◌+◌, ◌*◌, ◌≤◌, ◌/◌, ◌%◌, ◌^◌, List, [], ◌∷◌, get_or, refl, arith}
use Rattle.std.specs.Prelude.{true, false, ℤ, pos, ◌*ℤ◌, nat_le}
use Rattle.std.specs.List.{list_all}
use Rattle.std.specs.Int.{w32, int_wrap}
use Rattle.std.proofs.lemmas.Bool.{and_parts}
use Rattle.std.proofs.lemmas.Int.{to_z-of_z, wrapping_mul_onto, int_wrap_fits}
use Rattle.std.proofs.Math.Facts.{Fits-of_z}
use Rattle.std.proofs.lemmas.Bool.Decides.{nat_tests}
use mir.Val.{to_z, of_z, SFits}
use Rattle.vc_defs.specs.declared.TheConstants.{INTRA_SHIFTS, INTER_SHIFTS}
use Rattle.vc_defs.specs.Quantiser.{shift_at}

-- No entry of a table is above the bound that all its entries keep.
pub entry_small : (xs : List ℕ) (m k : ℕ) → list_all (λ x. nat_le x m) xs ≡ true → get_or xs k 0 ≤ m
entry_small [] m k h = omega arith
entry_small (x ∷ xs) m zero h = let t = and_parts (nat_le x m) (list_all (λ x. nat_le x m) xs) h in grind (arith, nat_tests)
entry_small (x ∷ xs) m (suc k) h = entry_small xs m k (and_parts (nat_le x m) (list_all (λ x. nat_le x m) xs) h).1

pub shift_of_intra : (k : ℕ) → get_or INTRA_SHIFTS (k / 8 + k % 8) 0 ≡ shift_at true k
unfolding shift_at
shift_of_intra k = refl

pub shift_of_inter : (k : ℕ) → get_or INTER_SHIFTS (k / 8 + k % 8) 0 ≡ shift_at false k
unfolding shift_at
shift_of_inter k = refl

pub intra_shift_small : (k : ℕ) → get_or INTRA_SHIFTS k 0 ≤ 10
intra_shift_small k = entry_small INTRA_SHIFTS 10 k refl

pub inter_shift_small : (k : ℕ) → get_or INTER_SHIFTS k 0 ≤ 10
inter_shift_small k = entry_small INTER_SHIFTS 10 k refl

-- A shift to the left of a number that stays in range multiplies it.
pub shifted_left : (x : ℤ) (s : ℕ) → SFits w32 x → SFits w32 (pos (2 ^ s)) → SFits w32 (x *ℤ pos (2 ^ s)) → to_z w32 (of_z w32 x * 2 ^ s % 4294967296) ≡ x *ℤ pos (2 ^ s)
shifted_left x s fits power product =
    wrapping_mul_onto w32 (of_z w32 x) (pos (2 ^ s)) (Fits-of_z fits).fits power
    ∙ ap (λ y. int_wrap w32 (y *ℤ pos (2 ^ s))) (to_z-of_z w32 x fits)
    ∙ int_wrap_fits w32 (x *ℤ pos (2 ^ s)) product
