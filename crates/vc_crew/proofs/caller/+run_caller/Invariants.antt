use Rattle.std.proofs.Common.{vec_len}
use Rattle.vc_crew.proofs.caller.+run_caller.Given as goal

abbrev pub decreases-run_caller : goal.decreases-run_caller
decreases-run_caller g l = vec_len l.caller.seated_flows
