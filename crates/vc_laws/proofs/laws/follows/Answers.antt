use Rattle.vc_laws.proofs.DecoderFollows.{follows}
use Rattle.vc_laws.proofs.laws.follows.Goals as goal

pub returns : goal.returns
returns c = follows
