-- The machine's sum and difference of two numbers in range are the numbers' own. Both lie within half of the range,
-- so that nothing wraps.
use Rattle.std.proofs.Common.{◌≡◌, ℕ, arith}
use Rattle.std.specs.Prelude.{ℤ, pos, neg_ℤ, ◌+ℤ◌, ◌-ℤ◌, ◌≤ℤ◌}
use Rattle.std.specs.Int.{w32}
use Rattle.std.proofs.lemmas.Int.{ints}
use mir.Val.{to_z, of_z}

-- from -n to n
abbrev pub Within : ℕ → ℤ → Type 0
Within n z = (neg_ℤ (pos n) ≤ℤ z) × (z ≤ℤ pos n)

pub added : (a b : ℤ) → Within 500000000 a → Within 500000000 b → to_z w32 (of_z w32 (to_z w32 (of_z w32 a) +ℤ to_z w32 (of_z w32 b))) ≡ a +ℤ b
added a b p q = omega (arith, ints)

pub taken : (a b : ℤ) → Within 500000000 a → Within 500000000 b → to_z w32 (of_z w32 (to_z w32 (of_z w32 a) -ℤ to_z w32 (of_z w32 b))) ≡ a -ℤ b
taken a b p q = omega (arith, ints)
