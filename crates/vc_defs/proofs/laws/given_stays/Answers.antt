use Rattle.vc_defs.proofs.StateBetweenRuns.{given_stays}
use Rattle.vc_defs.proofs.laws.given_stays.Goals as goal

pub returns : goal.returns
returns c = given_stays
