use Rattle.vc_laws.proofs.RetiredAreFrames.{retired_are_frames}
use Rattle.vc_laws.proofs.laws.retired_are_frames.Goals as goal

pub returns : goal.returns
returns c = retired_are_frames
