use Rattle.vc_laws.proofs.DoneInAStep.{nothing_after_last}
use Rattle.vc_laws.proofs.laws.nothing_after_last.Goals as goal

pub returns : goal.returns
returns c = nothing_after_last
