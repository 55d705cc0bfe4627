use Rattle.vc_model.proofs.ReplayFindsFirst.{replay_finds_first}
use Rattle.vc_model.proofs.laws.replay_finds_first.Goals as goal

pub returns : goal.returns
returns c = replay_finds_first
