use Rattle.std.proofs.Common.{◌≡◌, ℕ, ◌<◌, length, get_or}
use Rattle.std.specs.Prelude.{pos, ◌+ℤ◌}
use Rattle.std.specs.Int.{int_shr}
use Rattle.vc_defs.specs.Planes.{base_of, clamped}
use Rattle.vc_lanes.proofs.showing.samples_over.Given as goal

abbrev pub invariant-loop-k : goal.invariant-loop-k
invariant-loop-k l = record {
  long : length l.block ≡ 64;
  filled : (k : ℕ) → k < l.k → get_or l.block k 0 ≡ clamped (int_shr (get_or l.y k (pos 0)) 6 +ℤ base_of l.inter l.old k);
}
