use Rattle.vc_resync.proofs.RunsAreFeeds.{begins_in_step}
use Rattle.vc_resync.proofs.laws.begins_in_step.Goals as goal

pub returns : goal.returns
returns c = begins_in_step
