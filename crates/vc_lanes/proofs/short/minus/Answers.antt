use Rattle.vc_lanes.proofs.ShortLanesAreExact.{taken}
use Rattle.vc_lanes.proofs.short.minus.Goals as goal

pub returns : goal.returns
returns c = taken c.args.a c.args.b c.requires.a_bounds c.requires.b_bounds
