use Rattle.vc_stream_laws.proofs.CallsOfAClient.{none_left_tells}
use Rattle.vc_stream_laws.proofs.laws.none_left_tells.Goals as goal

pub returns : goal.returns
returns c = none_left_tells
