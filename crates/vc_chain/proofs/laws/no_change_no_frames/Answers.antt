use Rattle.vc_chain.proofs.PartsOfResults.{no_change_no_frames}
use Rattle.vc_chain.proofs.laws.no_change_no_frames.Goals as goal

pub returns : goal.returns
returns c = no_change_no_frames
