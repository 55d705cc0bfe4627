use Rattle.vc_defs.proofs.EncodedFits.{encoded_fits}
use Rattle.vc_defs.proofs.laws.encoded_fits.Goals as goal

pub returns : goal.returns
returns c = encoded_fits
