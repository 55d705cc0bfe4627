use Rattle.std.proofs.Common.{◌≡◌, ◌≤◌, ◌<◌, ℕ, get_or}
use Rattle.std.specs.Prelude.{pos, neg_ℤ, ◌≤ℤ◌}
use Rattle.vc_lanes.proofs.ranges.count_large.Given as goal

abbrev pub invariant-loop-k : goal.invariant-loop-k
invariant-loop-k l = record {
  few : l.count ≤ l.k;
  small : l.count ≡ 0 → (j : ℕ) → j < l.k → (neg_ℤ (pos 4095) ≤ℤ get_or l.x j (pos 0)) × (get_or l.x j (pos 0) ≤ℤ pos 4095);
}
