-- The shifts of the quantiser are small, and a number that passes a test is the number of the test.
use Rattle.std.proofs.Common.{◌≡◌, ap, sym, ℕ, ◌+◌, ◌≤◌, ◌/◌, ◌%◌, arith}
use Rattle.std.specs.Prelude.{true, false, Bool, ℤ, pos, negsuc, nat_eq}
use Rattle.std.proofs.lemmas.Bool.Decides.{nat_tests}
use Rattle.vc_defs.specs.Quantiser.{shift_at}
use Rattle.vc_defs.proofs.ShiftTables.{shift_of_intra, shift_of_inter, intra_shift_small, inter_shift_small}

abbrev pub is_number : ℤ → ℕ → Bool
is_number (pos a) n = nat_eq a n
is_number (negsuc a) n = false

pub number_from_test : (z : ℤ) (n : ℕ) → is_number z n ≡ true → z ≡ pos n
number_from_test (pos a) n h = let e : a ≡ n = grind (arith, nat_tests) in ap pos e
number_from_test (negsuc a) n h = cc

pub shift_small : (intra : Bool) (k : ℕ) → shift_at intra k ≤ 10
shift_small true k = rw (sym (shift_of_intra k)) (intra_shift_small (k / 8 + k % 8))
shift_small false k = rw (sym (shift_of_inter k)) (inter_shift_small (k / 8 + k % 8))
