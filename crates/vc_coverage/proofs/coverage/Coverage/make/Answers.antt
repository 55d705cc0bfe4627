use Rattle.std.proofs.Common.{refl, []}
use Rattle.vc_coverage.proofs.FeedsReadOn.{reads_nothing}
use Rattle.vc_coverage.proofs.coverage.Coverage.make.Goals as goal

pub invariant_of-result : goal.invariant_of-result
invariant_of-result c = record { bytes = []; has_read = reads_nothing c.in_ok-assembly.assembly 0 c.new.result c.in_ok-assembly.ensures refl c.new.ensures }

pub returns-clause-nothing : goal.returns-clause-nothing
returns-clause-nothing c = reads_nothing c.in_ok-assembly.assembly 0 c.new.result c.in_ok-assembly.ensures refl c.new.ensures
