use Rattle.vc_core.proofs.WrittenHoldsFit.{fits_written}
use Rattle.vc_core.proofs.laws.writing_fits.Goals as goal

pub returns : goal.returns
returns c = fits_written
