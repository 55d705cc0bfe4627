use Rattle.std.proofs.Common.{◌≡◌, length, get_or}
use Rattle.std.specs.Prelude.{pos}
use Rattle.vc_defs.proofs.ListsByPlace.{FilledBelow}
use Rattle.vc_lanes.proofs.restoring.narrowed.Given as goal

abbrev pub invariant-loop-k : goal.invariant-loop-k
invariant-loop-k l = record {
  long : length l.q ≡ 64;
  filled : FilledBelow (λ k. get_or l.values k (pos 0)) l.k l.q;
}
