use Rattle.vc_defs.proofs.CoefficientsFit.{coefficients_fit}
use Rattle.vc_defs.proofs.laws.coefficients_fit.Goals as goal

pub returns : goal.returns
returns c = coefficients_fit
