use Rattle.vc_laws.proofs.DoneInAStep.{all_went_back}
use Rattle.vc_laws.proofs.laws.all_went_back.Goals as goal

pub returns : goal.returns
returns c = all_went_back
