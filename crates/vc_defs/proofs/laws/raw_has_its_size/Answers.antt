use Rattle.vc_defs.proofs.RawBothWays.{raw_has_its_size}
use Rattle.vc_defs.proofs.laws.raw_has_its_size.Goals as goal

pub returns : goal.returns
returns c = raw_has_its_size
