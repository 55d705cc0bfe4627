use Rattle.vc_model.proofs.HistoriesGrow.{jobs_are_held}
use Rattle.vc_model.proofs.laws.jobs_are_held.Goals as goal

pub returns : goal.returns
returns c = jobs_are_held
