use Rattle.vc_shared.proofs.SeatsDealtOut.{first_stands}
use Rattle.vc_shared.proofs.shared.Shared.make.Goals as goal

pub make-requires-2-clause-value : goal.make-requires-2-clause-value
make-requires-2-clause-value c =
    first_stands c.args.slots c.args.workers c.in_ok-core.core c.in_ok-core.ensures c.requires.workers.1
