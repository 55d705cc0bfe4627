use Rattle.vc_laws.proofs.DecoderFollows.{drains_give_all}
use Rattle.vc_laws.proofs.laws.drains_give_all.Goals as goal

pub returns : goal.returns
returns c = drains_give_all
