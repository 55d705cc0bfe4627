use Rattle.vc_chain.proofs.PartsOfResults.{parts_go_on}
use Rattle.vc_chain.proofs.laws.parts_go_on.Goals as goal

pub returns : goal.returns
returns c = parts_go_on
