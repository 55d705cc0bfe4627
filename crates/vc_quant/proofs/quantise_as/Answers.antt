use Rattle.std.proofs.Common.{arith}
use Rattle.vc_defs.specs.Quantiser.{quantised}
use Rattle.vc_defs.proofs.ListsByPlace.{table_is}
use Rattle.vc_quant.proofs.ValuesStayInRange.{quantised_in_range}
use Rattle.vc_quant.proofs.quantise_as.Goals as goal

pub returns-clause-quantised : goal.returns-clause-quantised
unfolding quantised
returns-clause-quantised c = table_is _ 64 _ c.loop-k.invariant.long (λ k h. c.loop-k.invariant.filled k (omega arith))

pub returns-clause-range : goal.returns-clause-range
returns-clause-range c = quantised_in_range c.loop-k.q c.args.c.now c.args.intra c.args.qp (returns-clause-quantised c) c.told-c c.requires
