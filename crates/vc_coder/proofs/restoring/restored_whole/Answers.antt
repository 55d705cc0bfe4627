use Rattle.std.proofs.Common.{not}
use Rattle.vc_coder.proofs.RestoredStaysInRange.{restored_in_range, length-dequantised}
use Rattle.vc_coder.proofs.restoring.restored_whole.Goals as goal

pub returns-clause-range : goal.returns-clause-range
returns-clause-range g c =
    restored_in_range c.inverse.result c.dequantise.result c.inverse.ensures (length-dequantised c.dequantise.result c.args.q.now (not c.args.inter) c.dequantise.ensures.dequantised) c.dequantise.ensures.range
