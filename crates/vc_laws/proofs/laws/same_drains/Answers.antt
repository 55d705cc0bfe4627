use Rattle.vc_laws.proofs.DecoderFollows.{same_drains}
use Rattle.vc_laws.proofs.laws.same_drains.Goals as goal

pub returns : goal.returns
returns c = same_drains
