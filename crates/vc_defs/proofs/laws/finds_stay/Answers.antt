use Rattle.vc_defs.proofs.FindsInOrder.{finds_stay}
use Rattle.vc_defs.proofs.laws.finds_stay.Goals as goal

pub returns : goal.returns
returns c = finds_stay
