use Rattle.std.proofs.Common.{arith}
use Rattle.vc_defs.specs.Quantiser.{dequantised}
use Rattle.vc_defs.proofs.ListsByPlace.{table_is}
use Rattle.vc_lanes.proofs.dequantising.dequantise.Goals as goal

pub returns-clause-dequantised : goal.returns-clause-dequantised
unfolding dequantised
returns-clause-dequantised c = table_is _ 64 _ c.loop-k.invariant.long (λ k h. c.loop-k.invariant.filled k (omega arith))
