use Rattle.vc_resync.proofs.RunsAreFeeds.{runs_end}
use Rattle.vc_resync.proofs.laws.runs_end.Goals as goal

pub returns : goal.returns
returns c = runs_end
