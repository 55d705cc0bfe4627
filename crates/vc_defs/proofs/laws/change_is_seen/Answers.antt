use Rattle.vc_defs.proofs.StateBetweenRuns.{change_is_seen}
use Rattle.vc_defs.proofs.laws.change_is_seen.Goals as goal

pub returns : goal.returns
returns c = change_is_seen
