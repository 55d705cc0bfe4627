use Rattle.std.proofs.Common.{◌++◌}
use Rattle.vc_coverage.proofs.coverage.Coverage.read.Goals as goal

pub invariant_of-self : goal.invariant_of-self
invariant_of-self c = record { bytes = c.self.invariant.bytes ++ c.args.piece.now; has_read = c.feed_all.ensures c.self.invariant.bytes c.self.invariant.has_read }
