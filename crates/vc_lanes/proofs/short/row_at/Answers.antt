use Rattle.vc_lanes.proofs.ShortLanesAreExact.{row_read}
use Rattle.vc_lanes.proofs.short.row_at.Goals as goal

pub returns : goal.returns
returns c = row_read c.args.x.now c.args.row c.told-x c.requires.row c.requires.bounds
