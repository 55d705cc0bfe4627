use Rattle.std.proofs.Common.{vec_len}
use Rattle.vc_crew.proofs.team.+run_team.Given as goal

abbrev pub decreases-run_team : goal.decreases-run_team
decreases-run_team g l = vec_len l.team.handles
