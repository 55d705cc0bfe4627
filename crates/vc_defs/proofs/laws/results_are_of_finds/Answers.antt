use Rattle.vc_defs.proofs.ResultsAreOfFinds.{results_are_of_finds}
use Rattle.vc_defs.proofs.laws.results_are_of_finds.Goals as goal

pub returns : goal.returns
returns c = results_are_of_finds
