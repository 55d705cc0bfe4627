use Rattle.std.proofs.Common.{ℕ, List, ◌+◌, ◌-◌, ◌≤◌, ◌++◌, length, take}
use Rattle.vc_coverage.specs.Covering.{HasRead}
use Rattle.vc_coverage.proofs.FeedsReadOn.{Stands, ahead}
use Rattle.vc_coverage.proofs.coverage.feed_all.Given as goal

abbrev pub invariant-loop : goal.invariant-loop
invariant-loop l = record {
  inside : l.taken ≤ length l.piece;
  stands : (bytes : List ℕ) → HasRead (record { assembly = l.initial.assembly; read = l.read; reach = l.initial.reach }) bytes → Stands l.assembly (l.read + l.taken) l.reach (bytes ++ take l.taken l.piece);
}

abbrev pub decreases-loop : goal.decreases-loop
decreases-loop l = ahead l.assembly.kept.tail (length l.piece - l.taken)
