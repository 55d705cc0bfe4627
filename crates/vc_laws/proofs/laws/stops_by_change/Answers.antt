use Rattle.vc_laws.proofs.DoneInAStep.{stops_by_a_change}
use Rattle.vc_laws.proofs.laws.stops_by_change.Goals as goal

pub returns : goal.returns
returns c = stops_by_a_change
