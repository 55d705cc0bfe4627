use Rattle.vc_lanes.proofs.ShortLanesAreExact.{added}
use Rattle.vc_lanes.proofs.short.plus.Goals as goal

pub returns : goal.returns
returns c = added c.args.a c.args.b c.requires.a_bounds c.requires.b_bounds
