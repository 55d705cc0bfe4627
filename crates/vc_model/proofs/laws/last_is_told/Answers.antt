use Rattle.vc_model.proofs.LastIsTold.{last_is_told}
use Rattle.vc_model.proofs.laws.last_is_told.Goals as goal

pub returns : goal.returns
returns c = last_is_told
