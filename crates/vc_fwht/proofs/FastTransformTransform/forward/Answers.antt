use Rattle.std.proofs.Common.{arith}
use Rattle.vc_fwht.proofs.TwoPassesAreTheTransform.{wider}
use Rattle.vc_fwht.proofs.FastTransformTransform.forward.Goals as goal

pub by_butterflies-requires : goal.by_butterflies-requires
by_butterflies-requires c = wider 255 2097152 c.args.x.now c.requires (omega arith)
