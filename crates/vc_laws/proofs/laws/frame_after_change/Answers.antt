use Rattle.vc_laws.proofs.DecoderFollows.{frame_after_change}
use Rattle.vc_laws.proofs.laws.frame_after_change.Goals as goal

pub returns : goal.returns
returns c = frame_after_change
