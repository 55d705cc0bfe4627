use Rattle.std.proofs.Common.{◌≡◌, ℕ, ◌<◌, length, get_or}
use Rattle.std.specs.Prelude.{◌-ℤ◌, pos, unsigned_abs}
use Rattle.vc_plane.proofs.choosing.gaps.Given as goal

abbrev pub invariant-loop-k : goal.invariant-loop-k
invariant-loop-k l = record {
  long : length l.gaps ≡ 64;
  filled : (k : ℕ) → k < l.k → get_or l.gaps k 0 ≡ unsigned_abs (pos (get_or l.block k 0) -ℤ pos (get_or l.other k 0));
}
