use Rattle.vc_defs.proofs.StateBetweenRuns.{nothing_waits}
use Rattle.vc_defs.proofs.laws.nothing_waits.Goals as goal

pub returns : goal.returns
returns c = nothing_waits
