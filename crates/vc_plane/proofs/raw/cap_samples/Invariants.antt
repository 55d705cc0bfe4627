use Rattle.std.proofs.Common.{◌≡◌, ℕ, ◌<◌, length, get_or}
use Rattle.std.specs.Prelude.{min}
use Rattle.vc_plane.proofs.raw.cap_samples.Given as goal

abbrev pub invariant-loop-k : goal.invariant-loop-k
invariant-loop-k l = record {
  size : length l.reference ≡ length l.plane;
  capped : (j : ℕ) → j < l.k → get_or l.reference j 0 ≡ min (get_or l.plane j 0) 254;
}
