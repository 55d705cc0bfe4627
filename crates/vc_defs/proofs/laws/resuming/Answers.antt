use Rattle.vc_defs.proofs.RunsResume.{resuming}
use Rattle.vc_defs.proofs.laws.resuming.Goals as goal

pub returns : goal.returns
returns c = resuming
