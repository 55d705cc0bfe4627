use Rattle.vc_defs.proofs.ResultsInOrder.{results_are_inside}
use Rattle.vc_defs.proofs.laws.results_are_inside.Goals as goal

pub returns : goal.returns
returns c = results_are_inside
