use Rattle.vc_defs.proofs.FedInPieces.{feeding}
use Rattle.vc_defs.proofs.laws.feeding.Goals as goal

pub returns : goal.returns
returns c = feeding
