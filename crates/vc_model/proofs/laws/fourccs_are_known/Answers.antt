use Rattle.vc_model.proofs.FourccsAreKnown.{fourccs_known}
use Rattle.vc_model.proofs.laws.fourccs_are_known.Goals as goal

pub returns : goal.returns
returns c = fourccs_known
