use Rattle.vc_lanes.proofs.SmallCoefficients.{step_is}
use Rattle.vc_lanes.proofs.dequantising.step.Goals as goal

pub returns : goal.returns
returns c = step_is c.args.intra c.args.k c.requires
