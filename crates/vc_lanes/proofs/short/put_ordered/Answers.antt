use Rattle.std.proofs.Common.{◌∙◌, ap, get_or, arith}
use Rattle.std.specs.Prelude.{pos}
use Rattle.vc_lanes.specs.Turning.{order}
use Rattle.vc_lanes.proofs.ShortLanesAreExact.{lanes_back}
use Rattle.vc_lanes.proofs.SixStagesAreTheTransform.{order_below}
use Rattle.vc_lanes.proofs.short.put_ordered.Goals as goal

pub ordered-requires-clause-bounds : goal.ordered-requires-clause-bounds
ordered-requires-clause-bounds c = rw (lanes_back c.any_row_at.result c.any_row_at.ensures.range) c.any_row_at.ensures.range

pub put_row-requires-clause-bounds : goal.put_row-requires-clause-bounds
put_row-requires-clause-bounds c = rw (lanes_back c.ordered.result c.ordered.ensures.range) c.ordered.ensures.range

pub returns-clause-written : goal.returns-clause-written
returns-clause-written c v h =
    c.put_row.ensures.written v h
    ∙ ap (λ t. get_or t v (pos 0)) (lanes_back c.ordered.result c.ordered.ensures.range)
    ∙ c.ordered.ensures.order v h
    ∙ ap (λ t. get_or t (order v) (pos 0)) (lanes_back c.any_row_at.result c.any_row_at.ensures.range)
    ∙ c.any_row_at.ensures.lanes (order v) (order_below v h)
