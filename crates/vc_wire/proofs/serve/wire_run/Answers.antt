use Rattle.vc_wire.proofs.ServingEnds.{nothing_served}
use Rattle.vc_wire.proofs.serve.wire_run.Goals as goal

pub returns-in-Err-clause-ended : goal.returns-in-Err-clause-ended
returns-in-Err-clause-ended g c = nothing_served _ _ _
