use Rattle.std.proofs.Common.{◌≡◌, arith, ℕ, ◌<◌, List, length, get_or, set, replicate, inl, inr, get_or-set_same, get_or-set_other}
use Rattle.std.specs.Prelude.{ℤ, pos, negsuc, neg_ℤ, ◌≤ℤ◌}
use Rattle.std.specs.Int.{w32}
use mir.Val.{to_z, of_z}
use Rattle.std.proofs.lemmas.Bool.{cases_eq}
use Rattle.std.proofs.lemmas.Int.{ints}
use Rattle.std.proofs.lemmas.List.{length-set, length-replicate, get_or-replicate}
use Rattle.vc_defs.specs.Quantiser.{AllBetween}
use Rattle.vc_quant.proofs.tests.block.Goals as goal

between_set : (low high : ℤ) (xs : List ℤ) (i : ℕ) (v : ℤ) → AllBetween low high xs → (low ≤ℤ v) × (v ≤ℤ high) → AllBetween low high (set xs i v)
between_set low high xs i v h w k hk =
    let inside : k < length xs = omega (arith, length-set xs i v) in
    elim (cases_eq k i) [
      | inl e ↦
          let here : i < length xs = omega arith in
          let is : get_or (set xs i v) k (pos 0) ≡ v = rw e (get_or-set_same xs i v (pos 0) here) in
          rw is w
      | inr ne ↦ rw (get_or-set_other xs i k v (pos 0) ne) (h k inside)
    ]

zeros : (low high : ℤ) → (low ≤ℤ pos 0) × (pos 0 ≤ℤ high) → AllBetween low high (replicate 64 (pos 0))
zeros low high w k hk =
    let inside : k < 64 = omega (arith, length-replicate 64 (pos 0)) in
    rw (get_or-replicate 64 k (pos 0) (pos 0) inside) w

small_back : (z : ℤ) → (neg_ℤ (pos 2048) ≤ℤ z) × (z ≤ℤ pos 2047) → to_z w32 (of_z w32 z) ≡ z
small_back z h = omega (arith, ints)

as_held : (z : ℤ) → (neg_ℤ (pos 2048) ≤ℤ z) × (z ≤ℤ pos 2047) → (neg_ℤ (pos 2048) ≤ℤ to_z w32 (of_z w32 z)) × (to_z w32 (of_z w32 z) ≤ℤ pos 2047)
as_held z h = rw (small_back z h) h

filled : (low high first last : ℤ) → low ≤ℤ neg_ℤ (pos 2048) → pos 2047 ≤ℤ high → (neg_ℤ (pos 2048) ≤ℤ first) × (first ≤ℤ pos 2047) → (neg_ℤ (pos 2048) ≤ℤ last) × (last ≤ℤ pos 2047) →
    AllBetween low high (set (set (replicate 64 (pos 0)) 0 first) 63 last)
filled low high first last l h a b =
    between_set low high (set (replicate 64 (pos 0)) 0 first) 63 last
    (between_set low high (replicate 64 (pos 0)) 0 first (zeros low high (omega (arith, ints), omega (arith, ints))) (omega (arith, ints), omega (arith, ints)))
    (omega (arith, ints), omega (arith, ints))

pub returns-clause-values : goal.returns-clause-values
returns-clause-values c = filled (negsuc 2047) (pos 2047) (to_z w32 (of_z w32 c.args.first)) (to_z w32 (of_z w32 c.args.last)) (omega (arith, ints)) (omega (arith, ints)) (as_held c.args.first c.requires.first) (as_held c.args.last c.requires.last)

pub returns-clause-intra : goal.returns-clause-intra
returns-clause-intra c = filled (negsuc 8191) (pos 8160) (to_z w32 (of_z w32 c.args.first)) (to_z w32 (of_z w32 c.args.last)) (omega (arith, ints)) (omega (arith, ints)) (as_held c.args.first c.requires.first) (as_held c.args.last c.requires.last)

pub returns-clause-inter : goal.returns-clause-inter
returns-clause-inter c = filled (negsuc 16319) (pos 16320) (to_z w32 (of_z w32 c.args.first)) (to_z w32 (of_z w32 c.args.last)) (omega (arith, ints)) (omega (arith, ints)) (as_held c.args.first c.requires.first) (as_held c.args.last c.requires.last)
