use Rattle.vc_laws.proofs.MarksInAStep.{aborted_by_off}
use Rattle.vc_laws.proofs.laws.aborted_by_off.Goals as goal

pub returns : goal.returns
returns c = aborted_by_off
