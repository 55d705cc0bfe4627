use Rattle.vc_lanes.proofs.SmallCoefficients.{limit_is}
use Rattle.vc_lanes.proofs.dequantising.limit.Goals as goal

pub returns : goal.returns
returns c = limit_is c.args.intra c.args.k c.requires
