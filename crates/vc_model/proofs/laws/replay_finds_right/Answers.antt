use Rattle.vc_model.proofs.LinesArePrinted.{replay_finds_right}
use Rattle.vc_model.proofs.laws.replay_finds_right.Goals as goal

pub returns : goal.returns
returns c = replay_finds_right
