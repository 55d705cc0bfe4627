use Rattle.std.proofs.Common.{arith, ◌<◌}
use Rattle.vc_fwht.proofs.ButterfliesAreSums.{each_of_eight}
use Rattle.vc_lanes.specs.Turning.{order}
use Rattle.vc_lanes.proofs.WeavingKeepsLanes.{from_first}
use Rattle.vc_lanes.proofs.SixStagesAreTheTransform.{order_below}
use Rattle.vc_lanes.proofs.short.ordered.Goals as goal

pub returns-clause-order : goal.returns-clause-order
returns-clause-order c =
    each_of_eight _
    (from_first c.args.lanes c.args.lanes 0 c.requires.long c.requires.bounds (omega arith))
    (from_first c.args.lanes c.args.lanes 4 c.requires.long c.requires.bounds (omega arith))
    (from_first c.args.lanes c.args.lanes 6 c.requires.long c.requires.bounds (omega arith))
    (from_first c.args.lanes c.args.lanes 2 c.requires.long c.requires.bounds (omega arith))
    (from_first c.args.lanes c.args.lanes 3 c.requires.long c.requires.bounds (omega arith))
    (from_first c.args.lanes c.args.lanes 7 c.requires.long c.requires.bounds (omega arith))
    (from_first c.args.lanes c.args.lanes 5 c.requires.long c.requires.bounds (omega arith))
    (from_first c.args.lanes c.args.lanes 1 c.requires.long c.requires.bounds (omega arith))

pub returns-clause-range : goal.returns-clause-range
returns-clause-range c k h =
    let w : order k < 8 = order_below k h in
    rw (returns-clause-order c k h) (c.requires.bounds (order k) (omega arith))
