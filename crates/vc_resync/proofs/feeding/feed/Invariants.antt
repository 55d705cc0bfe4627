use Rattle.std.proofs.Common.{◌≡◌, ◌≤◌, ◌-◌, length, drop}
use Rattle.vc_defs.specs.Finds.{fed}
use Rattle.vc_resync.specs.Continuing.{SameAnswer}
use Rattle.vc_resync.proofs.feeding.feed.Given as goal

abbrev pub invariant-loop-taken : goal.invariant-loop-taken
invariant-loop-taken l = record {
  inside : l.taken ≤ length l.piece;
  limit : l.assembly.limit ≡ l.initial.assembly.limit;
  same : SameAnswer l.taken (fed l.initial.assembly.kept l.initial.assembly.limit l.piece l.stamp) (fed l.assembly.kept l.initial.assembly.limit (drop l.taken l.piece) l.stamp);
}

abbrev pub decreases-loop-taken : goal.decreases-loop-taken
decreases-loop-taken l = length l.initial.piece - l.taken
