use Rattle.vc_model.proofs.CountersAreSteps.{counters_are_steps}
use Rattle.vc_model.proofs.laws.counters_are_steps.Goals as goal

pub returns : goal.returns
returns c = counters_are_steps
