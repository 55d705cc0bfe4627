use Rattle.vc_work.proofs.Streams.{begins_in_step}
use Rattle.vc_work.proofs.laws.begins_in_step.Goals as goal

pub returns : goal.returns
returns c = begins_in_step
