use Rattle.vc_laws.proofs.DoneInAStep.{changes_stop}
use Rattle.vc_laws.proofs.laws.changes_stop.Goals as goal

pub returns : goal.returns
returns c = changes_stop
