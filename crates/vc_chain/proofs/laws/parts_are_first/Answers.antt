use Rattle.vc_chain.proofs.PartsOfResults.{parts_are_first}
use Rattle.vc_chain.proofs.laws.parts_are_first.Goals as goal

pub returns : goal.returns
returns c = parts_are_first
