use Rattle.std.proofs.Common.{◌≡◌, ◌∙◌, ◌+◌, ◌*◌, arith}
use Rattle.vc_defs.specs.Walsh.{entry_at}
use Rattle.vc_fwht.proofs.ButterfliesAreSums.{each_of_eight}
use Rattle.vc_lanes.specs.Turning.{order}
use Rattle.vc_lanes.proofs.short.in_order.Goals as goal

pub returns : goal.returns
returns c u v hu hv =
    each_of_eight (λ u. entry_at c.put_ordered-8.new.z u v ≡ entry_at c.args.x.now (order u) (order v))
    (c.put_ordered-8.ensures.kept (8 * 0 + v) (omega arith) ∙ c.put_ordered-7.ensures.kept (8 * 0 + v) (omega arith) ∙ c.put_ordered-6.ensures.kept (8 * 0 + v) (omega arith)
    ∙ c.put_ordered-5.ensures.kept (8 * 0 + v) (omega arith) ∙ c.put_ordered-4.ensures.kept (8 * 0 + v) (omega arith) ∙ c.put_ordered-3.ensures.kept (8 * 0 + v) (omega arith)
    ∙ c.put_ordered-2.ensures.kept (8 * 0 + v) (omega arith) ∙ c.put_ordered.ensures.written v hv)
    (c.put_ordered-8.ensures.kept (8 * 1 + v) (omega arith) ∙ c.put_ordered-7.ensures.kept (8 * 1 + v) (omega arith) ∙ c.put_ordered-6.ensures.kept (8 * 1 + v) (omega arith)
    ∙ c.put_ordered-5.ensures.kept (8 * 1 + v) (omega arith) ∙ c.put_ordered-4.ensures.kept (8 * 1 + v) (omega arith) ∙ c.put_ordered-3.ensures.kept (8 * 1 + v) (omega arith)
    ∙ c.put_ordered-2.ensures.written v hv)
    (c.put_ordered-8.ensures.kept (8 * 2 + v) (omega arith) ∙ c.put_ordered-7.ensures.kept (8 * 2 + v) (omega arith) ∙ c.put_ordered-6.ensures.kept (8 * 2 + v) (omega arith)
    ∙ c.put_ordered-5.ensures.kept (8 * 2 + v) (omega arith) ∙ c.put_ordered-4.ensures.kept (8 * 2 + v) (omega arith) ∙ c.put_ordered-3.ensures.written v hv)
    (c.put_ordered-8.ensures.kept (8 * 3 + v) (omega arith) ∙ c.put_ordered-7.ensures.kept (8 * 3 + v) (omega arith) ∙ c.put_ordered-6.ensures.kept (8 * 3 + v) (omega arith) ∙ c.put_ordered-5.ensures.kept (8 * 3 + v) (omega arith) ∙ c.put_ordered-4.ensures.written v hv)
    (c.put_ordered-8.ensures.kept (8 * 4 + v) (omega arith) ∙ c.put_ordered-7.ensures.kept (8 * 4 + v) (omega arith) ∙ c.put_ordered-6.ensures.kept (8 * 4 + v) (omega arith) ∙ c.put_ordered-5.ensures.written v hv)
    (c.put_ordered-8.ensures.kept (8 * 5 + v) (omega arith) ∙ c.put_ordered-7.ensures.kept (8 * 5 + v) (omega arith) ∙ c.put_ordered-6.ensures.written v hv)
    (c.put_ordered-8.ensures.kept (8 * 6 + v) (omega arith) ∙ c.put_ordered-7.ensures.written v hv)
    (c.put_ordered-8.ensures.written v hv)
    u hu
