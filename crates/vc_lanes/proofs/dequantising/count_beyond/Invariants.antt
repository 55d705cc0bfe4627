use Rattle.std.proofs.Common.{◌≡◌, ◌≤◌, ◌<◌, ◌-◌, ◌^◌, ℕ, get_or}
use Rattle.std.specs.Prelude.{pos, unsigned_abs}
use Rattle.vc_defs.specs.Quantiser.{shift_at}
use Rattle.vc_lanes.proofs.dequantising.count_beyond.Given as goal

abbrev pub invariant-loop-k : goal.invariant-loop-k
invariant-loop-k l = record {
  few : l.count ≤ l.k;
  small : l.count ≡ 0 → (j : ℕ) → j < l.k → unsigned_abs (get_or l.q j (pos 0)) ≤ 2 ^ (12 - shift_at l.intra j) - 1;
}
