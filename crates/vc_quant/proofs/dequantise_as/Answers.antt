use Rattle.std.proofs.Common.{arith}
use Rattle.vc_defs.specs.Quantiser.{dequantised}
use Rattle.vc_defs.proofs.ListsByPlace.{table_is}
use Rattle.vc_quant.proofs.ValuesStayInRange.{dequantised_in_range}
use Rattle.vc_quant.proofs.dequantise_as.Goals as goal

pub returns-clause-dequantised : goal.returns-clause-dequantised
unfolding dequantised
returns-clause-dequantised c = table_is _ 64 _ c.loop-k.invariant.long (λ k h. c.loop-k.invariant.filled k (omega arith))

pub returns-clause-range : goal.returns-clause-range
returns-clause-range c = dequantised_in_range c.loop-k.c c.args.q.now c.args.intra (returns-clause-dequantised c) c.told-q c.requires
