use Rattle.vc_model.proofs.HistoriesGrow.{answers_are_solo}
use Rattle.vc_model.proofs.laws.answers_are_solo.Goals as goal

pub returns : goal.returns
returns c = answers_are_solo
