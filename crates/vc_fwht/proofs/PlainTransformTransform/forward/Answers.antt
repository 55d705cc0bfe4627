use Rattle.std.proofs.Common.{arith}
use Rattle.vc_fwht.proofs.TwoPassesAreTheTransform.{wider}
use Rattle.vc_fwht.proofs.PlainTransformTransform.forward.Goals as goal

pub by_sums-requires : goal.by_sums-requires
by_sums-requires c = wider 255 2097152 c.args.x.now c.requires (omega arith)
