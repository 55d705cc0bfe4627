use Rattle.std.proofs.Common.{◌∙◌, ap, ◌+◌, ◌*◌, inl, inr, get_or, arith}
use Rattle.std.specs.Prelude.{pos}
use Rattle.std.proofs.lemmas.Bool.{cases_lt}
use Rattle.std.proofs.lemmas.Simd.{get_or-put_chunk_at, get_or-put_chunk_below, get_or-put_chunk_above}
use Rattle.vc_lanes.proofs.ShortLanesAreExact.{row_write}
use Rattle.vc_lanes.proofs.short.put_row.Goals as goal

pub returns-clause-written : goal.returns-clause-written
returns-clause-written c v h =
    ap (λ t. get_or t (8 * c.args.row + v) (pos 0)) (row_write c.args.y.now c.args.lanes c.args.row c.told-y c.requires.row c.requires.long c.requires.bounds)
    ∙ get_or-put_chunk_at (8 * c.args.row) c.args.y.now c.args.lanes v (pos 0) (omega arith) (omega arith)

pub returns-clause-kept : goal.returns-clause-kept
returns-clause-kept c k ne =
    ap (λ t. get_or t k (pos 0)) (row_write c.args.y.now c.args.lanes c.args.row c.told-y c.requires.row c.requires.long c.requires.bounds)
    ∙ elim (cases_lt k (8 * c.args.row)) [
      | inl lt ↦ get_or-put_chunk_below (8 * c.args.row) c.args.y.now c.args.lanes k (pos 0) lt
      | inr ge ↦ get_or-put_chunk_above (8 * c.args.row) c.args.y.now c.args.lanes k (pos 0) (omega arith)
    ]
