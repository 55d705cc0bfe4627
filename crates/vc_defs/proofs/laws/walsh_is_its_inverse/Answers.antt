use Rattle.vc_defs.proofs.WalshAndScan.{walsh_is_its_inverse}
use Rattle.vc_defs.proofs.laws.walsh_is_its_inverse.Goals as goal

pub returns : goal.returns
returns c = walsh_is_its_inverse
