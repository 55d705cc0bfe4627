use Rattle.std.proofs.Common.{arith}
use Rattle.vc_fwht.proofs.TwoPassesAreTheTransform.{second_allowed, transformed_by_passes, wider}
use Rattle.vc_fwht.proofs.by_sums.Goals as goal

pub columns_plain-requires : goal.columns_plain-requires
columns_plain-requires c = second_allowed 2097152 c.args.x.now c.rows_plain.result c.told-x c.requires c.rows_plain.ensures (omega arith)

pub returns : goal.returns
returns c = transformed_by_passes c.args.x.now c.rows_plain.result c.columns_plain.result c.rows_plain.ensures c.columns_plain.ensures

pub rows_plain-requires : goal.rows_plain-requires
rows_plain-requires c = wider 2097152 16777216 c.args.x.now c.requires (omega arith)
