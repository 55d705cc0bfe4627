use Rattle.vc_model.proofs.CoresStandForDevices.{steps_are_history}
use Rattle.vc_model.proofs.laws.steps_are_history.Goals as goal

pub returns : goal.returns
returns c = steps_are_history
