use Rattle.vc_defs.proofs.CoefficientsFit.{coded_blocks_fit}
use Rattle.vc_defs.proofs.laws.coded_blocks_fit.Goals as goal

pub returns : goal.returns
returns c = coded_blocks_fit
