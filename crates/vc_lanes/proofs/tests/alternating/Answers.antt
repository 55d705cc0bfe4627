use Rattle.std.proofs.Common.{◌≡◌, ◌∙◌, arith, ℕ, ◌<◌, List, length, get_or, set, replicate, refl, inl, inr, get_or-set_same, get_or-set_other}
use Rattle.std.specs.Prelude.{ℤ, pos, neg_ℤ, ◌≤ℤ◌}
use Rattle.std.specs.Int.{w32}
use mir.Val.{to_z, of_z}
use Rattle.std.proofs.lemmas.Bool.{cases_eq}
use Rattle.std.proofs.lemmas.Int.{ints}
use Rattle.std.proofs.lemmas.List.{length-set, length-replicate, get_or-replicate}
use Rattle.vc_defs.specs.Quantiser.{AllBetween}
use Rattle.vc_lanes.proofs.tests.alternating.Goals as goal

between_set : (low high : ℤ) (xs : List ℤ) (i : ℕ) (v : ℤ) → AllBetween low high xs → (low ≤ℤ v) × (v ≤ℤ high) → AllBetween low high (set xs i v)
between_set low high xs i v h w k hk =
    let inside : k < length xs = omega (arith, length-set xs i v) in
    elim (cases_eq k i) [
      | inl e ↦
          let here : i < length xs = omega arith in
          let is : get_or (set xs i v) k (pos 0) ≡ v = rw e (get_or-set_same xs i v (pos 0) here) in
          rw is w
      | inr ne ↦ rw (get_or-set_other xs i k v (pos 0) ne) (h k inside)
    ]

zeros : AllBetween (neg_ℤ (pos 255)) (pos 255) (replicate 64 (pos 0))
zeros k hk =
    let inside : k < 64 = omega (arith, length-replicate 64 (pos 0)) in
    rw (get_or-replicate 64 k (pos 0) (pos 0) inside) (omega (arith, ints), omega (arith, ints))

small_back : (z : ℤ) → (neg_ℤ (pos 255) ≤ℤ z) × (z ≤ℤ pos 255) → to_z w32 (of_z w32 z) ≡ z
small_back z h = omega (arith, ints)

as_held : (z : ℤ) → (neg_ℤ (pos 255) ≤ℤ z) × (z ≤ℤ pos 255) → (neg_ℤ (pos 255) ≤ℤ to_z w32 (of_z w32 z)) × (to_z w32 (of_z w32 z) ≤ℤ pos 255)
as_held z h = rw (small_back z h) h

wider : (xs : List ℤ) → AllBetween (neg_ℤ (pos 255)) (pos 255) xs → AllBetween (neg_ℤ (pos 2097152)) (pos 2097152) xs
wider xs h k hk = let w : (neg_ℤ (pos 255) ≤ℤ get_or xs k (pos 0)) × (get_or xs k (pos 0) ≤ℤ pos 255) = h k hk in (omega (arith, ints), omega (arith, ints))

pub loop-k-init : goal.loop-k-init
loop-k-init c = record { long = refl; within = zeros }

pub loop-k-preserved : goal.loop-k-preserved
loop-k-preserved c = record {
  long = length-set c.loop-k.x c.loop-k.k (to_z w32 (of_z w32 c.in_turn.result)) ∙ c.loop-k.invariant.long;
  within = between_set (neg_ℤ (pos 255)) (pos 255) c.loop-k.x c.loop-k.k (to_z w32 (of_z w32 c.in_turn.result)) c.loop-k.invariant.within (as_held c.in_turn.result c.in_turn.ensures);
}

pub returns : goal.returns
returns c = record { samples = c.loop-k.invariant.within; coefficients = wider c.loop-k.x c.loop-k.invariant.within }
