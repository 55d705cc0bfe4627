use Rattle.std.proofs.Common.{◌≡◌, ◌<◌, ℕ, length, get_or, ◌^◌}
use Rattle.std.specs.Prelude.{pos, neg_ℤ, ◌*ℤ◌, ◌≤ℤ◌}
use Rattle.vc_defs.specs.Quantiser.{shift_at}
use Rattle.vc_defs.proofs.ListsByPlace.{FilledBelow}
use Rattle.vc_lanes.proofs.dequantising.dequantise.Given as goal

abbrev pub invariant-loop-k : goal.invariant-loop-k
invariant-loop-k l = record {
  long : length l.c ≡ 64;
  filled : FilledBelow (λ k. get_or l.q k (pos 0) *ℤ pos (2 ^ shift_at l.intra k)) l.k l.c;
  bounds : (j : ℕ) → j < l.k → (neg_ℤ (pos 4095) ≤ℤ get_or l.c j (pos 0)) × (get_or l.c j (pos 0) ≤ℤ pos 4095);
}
