use Rattle.std.proofs.Common.{◌-◌, length}
use Rattle.vc_audit.proofs.LinesAreCutOff.{IsCutSoFar}
use Rattle.vc_audit.proofs.parts.cut.Given as goal

abbrev pub invariant-cutting : goal.invariant-cutting
invariant-cutting l = IsCutSoFar l.input l.at

abbrev pub decreases-cutting : goal.decreases-cutting
decreases-cutting l = length l.input - l.at
