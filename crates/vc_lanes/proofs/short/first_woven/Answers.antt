use Rattle.std.proofs.Common.{arith}
use Rattle.std.specs.Prelude.{pos}
use Rattle.vc_lanes.proofs.WeavingKeepsLanes.{each_of_four, from_first, from_second}
use Rattle.vc_lanes.proofs.short.first_woven.Goals as goal

pub returns-clause-even : goal.returns-clause-even
returns-clause-even c =
    each_of_four _
    (from_first c.args.a c.args.b 0 c.requires.a_long c.requires.a_bounds (omega arith))
    (from_first c.args.a c.args.b 1 c.requires.a_long c.requires.a_bounds (omega arith))
    (from_first c.args.a c.args.b 2 c.requires.a_long c.requires.a_bounds (omega arith))
    (from_first c.args.a c.args.b 3 c.requires.a_long c.requires.a_bounds (omega arith))

pub returns-clause-odd : goal.returns-clause-odd
returns-clause-odd c =
    each_of_four _
    (from_second c.args.a c.args.b 0 c.requires.a_long c.requires.b_long c.requires.b_bounds (omega arith))
    (from_second c.args.a c.args.b 1 c.requires.a_long c.requires.b_long c.requires.b_bounds (omega arith))
    (from_second c.args.a c.args.b 2 c.requires.a_long c.requires.b_long c.requires.b_bounds (omega arith))
    (from_second c.args.a c.args.b 3 c.requires.a_long c.requires.b_long c.requires.b_bounds (omega arith))
