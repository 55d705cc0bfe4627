use Rattle.std.proofs.Common.{◌∙◌, ap, ◌<◌, ◌+◌, ◌*◌, get_or, arith}
use Rattle.std.specs.Prelude.{pos}
use Rattle.vc_lanes.proofs.ShortLanesAreExact.{any_row_read, row_lane, length-row}
use Rattle.vc_lanes.proofs.short.any_row_at.Goals as goal

pub returns-clause-lanes : goal.returns-clause-lanes
returns-clause-lanes c v h = ap (λ t. get_or t v (pos 0)) (any_row_read c.args.x.now c.args.row c.told-x c.requires.row c.requires.bounds) ∙ row_lane c.args.x.now c.args.row v h

pub returns-clause-range : goal.returns-clause-range
returns-clause-range c =
    rw (any_row_read c.args.x.now c.args.row c.told-x c.requires.row c.requires.bounds)
    (λ k hk.
    let hk' : k < 8 = omega (arith, length-row c.args.x.now c.args.row c.told-x c.requires.row) in
    rw (row_lane c.args.x.now c.args.row k hk') (c.requires.bounds (8 * c.args.row + k) (omega arith)))
