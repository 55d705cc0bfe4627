use Rattle.std.proofs.Common.{arith}
use Rattle.vc_fwht.proofs.TwoPassesAreTheTransform.{second_allowed, transformed_by_passes}
use Rattle.vc_lanes.proofs.by_lanes.Goals as goal

pub columns_of-requires : goal.columns_of-requires
columns_of-requires c = second_allowed 2097152 c.args.x.now c.rows_of.result c.told-x c.requires c.rows_of.ensures (omega arith)

pub returns : goal.returns
returns c = transformed_by_passes c.args.x.now c.rows_of.result c.columns_of.result c.rows_of.ensures c.columns_of.ensures
