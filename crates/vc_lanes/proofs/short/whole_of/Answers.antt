use Rattle.std.proofs.Common.{◌≡◌, ◌∙◌, ◌<◌, ◌*◌, ◌+◌, ◌/◌, ◌%◌, get_or, arith}
use Rattle.std.specs.Prelude.{pos}
use Rattle.vc_lanes.specs.Turning.{order}
use Rattle.vc_lanes.proofs.ColumnsAreButterflies.{entry_is}
use Rattle.vc_lanes.proofs.SixStagesAreTheTransform.{whole, order_below}
use Rattle.vc_lanes.proofs.short.whole_of.Goals as goal

pub in_order-requires : goal.in_order-requires
in_order-requires c = c.half_of.ensures.range 4095 c.requires.small

pub returns-clause-transformed : goal.returns-clause-transformed
returns-clause-transformed c = whole c.args.x.now c.args.half.now c.half_of.result c.in_order.result c.requires.half c.half_of.ensures.turned c.in_order.ensures (omega arith)

pub returns-clause-range : goal.returns-clause-range
returns-clause-range c k h =
    let inside : k < 64 = omega arith in
    let p : order (k / 8) < 8 = order_below (k / 8) (omega arith) in
    let q : order (k % 8) < 8 = order_below (k % 8) (omega arith) in
    let e : get_or c.in_order.result k (pos 0) ≡ get_or c.half_of.result (8 * order (k / 8) + order (k % 8)) (pos 0) = entry_is c.in_order.result k ∙ c.in_order.ensures (k / 8) (k % 8) (omega arith) (omega arith) in
    rw e (c.half_of.ensures.range 4095 c.requires.small (8 * order (k / 8) + order (k % 8)) (omega arith))
