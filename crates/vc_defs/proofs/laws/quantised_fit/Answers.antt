use Rattle.vc_defs.proofs.CoefficientsFit.{quantised_fit}
use Rattle.vc_defs.proofs.laws.quantised_fit.Goals as goal

pub returns : goal.returns
returns c = quantised_fit
