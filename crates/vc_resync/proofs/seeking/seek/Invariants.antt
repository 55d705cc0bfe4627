use Rattle.std.proofs.Common.{◌≤◌, ◌-◌, ◌++◌, length, take}
use Rattle.vc_defs.specs.Headers.{magic}
use Rattle.vc_resync.specs.Seeking.{Matches}
use Rattle.vc_resync.proofs.seeking.seek.Given as goal

abbrev pub decreases-loop-at : goal.decreases-loop-at
decreases-loop-at l = length l.bytes - l.at

abbrev pub invariant-loop-at : goal.invariant-loop-at
invariant-loop-at l = record {
  inside : l.at ≤ length l.bytes;
  matches : Matches (take l.matched magic ++ take l.at l.bytes) l.now;
}
