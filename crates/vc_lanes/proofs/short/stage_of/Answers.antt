use Rattle.std.proofs.Common.{◌≢◌, ◌≡◌, ◌∙◌, ℕ, ◌+◌, ◌*◌, ◌/◌, get_or, arith}
use Rattle.std.specs.Prelude.{pos, ◌+ℤ◌, ◌-ℤ◌}
use Rattle.vc_lanes.proofs.WeavingKeepsLanes.{each_of_four}
use Rattle.vc_lanes.proofs.short.stage_of.Goals as goal

pub returns-clause-sums : goal.returns-clause-sums
returns-clause-sums c r v hr hv =
    each_of_four (λ r. get_or c.butterfly-4.new.y (16 * r + 2 * v) (pos 0) ≡ get_or c.args.x.now (8 * r + v) (pos 0) +ℤ get_or c.args.x.now (8 * (r + 4) + v) (pos 0))
    (c.butterfly-4.ensures.kept (16 * 0 + 2 * v) (omega arith) ∙ c.butterfly-3.ensures.kept (16 * 0 + 2 * v) (omega arith) ∙ c.butterfly-2.ensures.kept (16 * 0 + 2 * v) (omega arith) ∙ c.butterfly.ensures.sums v hv)
    (c.butterfly-4.ensures.kept (16 * 1 + 2 * v) (omega arith) ∙ c.butterfly-3.ensures.kept (16 * 1 + 2 * v) (omega arith) ∙ c.butterfly-2.ensures.sums v hv)
    (c.butterfly-4.ensures.kept (16 * 2 + 2 * v) (omega arith) ∙ c.butterfly-3.ensures.sums v hv)
    (c.butterfly-4.ensures.sums v hv)
    r hr

pub returns-clause-differences : goal.returns-clause-differences
returns-clause-differences c r v hr hv =
    each_of_four (λ r. get_or c.butterfly-4.new.y (16 * r + 2 * v + 1) (pos 0) ≡ get_or c.args.x.now (8 * r + v) (pos 0) -ℤ get_or c.args.x.now (8 * (r + 4) + v) (pos 0))
    (c.butterfly-4.ensures.kept (16 * 0 + 2 * v + 1) (omega arith) ∙ c.butterfly-3.ensures.kept (16 * 0 + 2 * v + 1) (omega arith) ∙ c.butterfly-2.ensures.kept (16 * 0 + 2 * v + 1) (omega arith) ∙ c.butterfly.ensures.differences v hv)
    (c.butterfly-4.ensures.kept (16 * 1 + 2 * v + 1) (omega arith) ∙ c.butterfly-3.ensures.kept (16 * 1 + 2 * v + 1) (omega arith) ∙ c.butterfly-2.ensures.differences v hv)
    (c.butterfly-4.ensures.kept (16 * 2 + 2 * v + 1) (omega arith) ∙ c.butterfly-3.ensures.differences v hv)
    (c.butterfly-4.ensures.differences v hv)
    r hr
