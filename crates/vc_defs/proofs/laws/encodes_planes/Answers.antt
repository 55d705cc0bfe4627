use Rattle.vc_defs.proofs.EncodedFits.{encodes_planes}
use Rattle.vc_defs.proofs.laws.encodes_planes.Goals as goal

pub returns : goal.returns
returns c = encodes_planes
