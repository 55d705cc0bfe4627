use Rattle.vc_defs.proofs.StateBetweenRuns.{begins_fresh}
use Rattle.vc_defs.proofs.laws.begins_fresh.Goals as goal

pub returns : goal.returns
returns c = begins_fresh
