use Rattle.vc_defs.specs.Quantiser.{AreValues}
use Rattle.vc_rlc.proofs.tests.block.Given as goal

abbrev pub invariant-loop-k : goal.invariant-loop-k
invariant-loop-k l = AreValues l.q
