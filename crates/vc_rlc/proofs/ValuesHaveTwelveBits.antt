-- Blocks whose values have 12 signed bits. A word has a value in its upper 12 bits, and a write of one such value
-- keeps the range of all.
use Rattle.std.proofs.Common.{◌≡◌, arith, ℕ, ◌<◌, List, length, get_or, set, replicate, inl, inr, get_or-set_same, get_or-set_other}
use Rattle.std.specs.Prelude.{ℤ, pos, neg_ℤ, ◌≤ℤ◌}
use Rattle.std.specs.Int.{w32}
use mir.Val.{to_z, of_z}
use Rattle.std.proofs.lemmas.Bool.{cases_eq}
use Rattle.std.proofs.lemmas.Int.{ints}
use Rattle.std.proofs.lemmas.List.{length-set, length-replicate, get_or-replicate}
use Rattle.vc_defs.specs.Quantiser.{AreValues}

abbrev pub IsValue : ℤ → Type 0
IsValue z = (neg_ℤ (pos 2048) ≤ℤ z) × (z ≤ℤ pos 2047)

-- One value more is put.
pub values_set : (q : List ℤ) (i : ℕ) (v : ℤ) → AreValues q → IsValue v → AreValues (set q i v)
values_set q i v h w k hk =
    let inside : k < length q = omega (arith, length-set q i v) in
    elim (cases_eq k i) [
      | inl e ↦
          let here : i < length q = omega arith in
          let is : get_or (set q i v) k (pos 0) ≡ v = rw e (get_or-set_same q i v (pos 0) here) in
          rw is w
      | inr ne ↦ rw (get_or-set_other q i k v (pos 0) ne) (h k inside)
    ]

pub no_values : AreValues (replicate 64 (pos 0))
no_values k hk =
    let inside : k < 64 = omega (arith, length-replicate 64 (pos 0)) in
    rw (get_or-replicate 64 k (pos 0) (pos 0) inside) (omega (arith, ints), omega (arith, ints))

value_back : (z : ℤ) → IsValue z → to_z w32 (of_z w32 z) ≡ z
value_back z h = omega (arith, ints)

-- a value as the machine has it
pub value_held : (z : ℤ) → IsValue z → IsValue (to_z w32 (of_z w32 z))
value_held z h = rw (value_back z h) h
