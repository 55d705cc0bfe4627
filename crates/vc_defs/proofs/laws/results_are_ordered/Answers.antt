use Rattle.vc_defs.proofs.ResultsInOrder.{results_are_ordered}
use Rattle.vc_defs.proofs.laws.results_are_ordered.Goals as goal

pub returns : goal.returns
returns c = results_are_ordered
