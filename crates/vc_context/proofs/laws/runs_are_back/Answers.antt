use Rattle.vc_context.proofs.RunsAreResults.{runs_are_back}
use Rattle.vc_context.proofs.laws.runs_are_back.Goals as goal

pub returns : goal.returns
returns c = runs_are_back
