use Rattle.vc_laws.proofs.ResultsBeforeChange.{results_before_change}
use Rattle.vc_laws.proofs.laws.results_before_change.Goals as goal

pub returns : goal.returns
returns c = results_before_change
