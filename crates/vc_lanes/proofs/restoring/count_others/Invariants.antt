use Rattle.std.proofs.Common.{◌≡◌, ◌≤◌, ◌<◌, ℕ, get_or}
use Rattle.std.specs.Prelude.{pos}
use Rattle.vc_lanes.proofs.restoring.count_others.Given as goal

abbrev pub invariant-loop-k : goal.invariant-loop-k
invariant-loop-k l = record {
  few : l.count ≤ l.k;
  clear : l.count ≡ 0 → (j : ℕ) → 0 < j → j < l.k → get_or l.q j (pos 0) ≡ pos 0;
}
