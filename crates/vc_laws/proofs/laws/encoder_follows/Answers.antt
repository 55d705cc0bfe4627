use Rattle.vc_laws.proofs.EncoderFollows.{encoder_follows}
use Rattle.vc_laws.proofs.laws.encoder_follows.Goals as goal

pub returns : goal.returns
returns c = encoder_follows
