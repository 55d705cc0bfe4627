use Rattle.vc_frame.proofs.FramesComeBack.{frames_come_back}
use Rattle.vc_frame.proofs.laws.frames_come_back.Goals as goal

pub returns : goal.returns
returns c = frames_come_back
