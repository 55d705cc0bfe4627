use Rattle.vc_defs.proofs.ResultsInOrder.{results_stay}
use Rattle.vc_defs.proofs.laws.results_stay.Goals as goal

pub returns : goal.returns
returns c = results_stay
