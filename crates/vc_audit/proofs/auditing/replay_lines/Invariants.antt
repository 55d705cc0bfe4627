use Rattle.std.proofs.Common.{◌≤◌, length}
use Rattle.vc_audit.proofs.ScriptsAreReplayed.{Along}
use Rattle.vc_audit.proofs.auditing.replay_lines.Given as goal

abbrev pub invariant-replaying : goal.invariant-replaying
invariant-replaying g l =
    Along l.slots l.script l.rest l.report l.left l.number l.at l.desk.core.steps l.desk
    × (g.E.Engine.run_count l.initial.engine ≤ g.E.Engine.run_count l.engine) × (g.E.Engine.fault_count l.initial.engine ≤ g.E.Engine.fault_count l.engine)

abbrev pub decreases-replaying : goal.decreases-replaying
decreases-replaying g l = length l.rest
