use Rattle.vc_stream_laws.proofs.CallsOfAClient.{capture_starts}
use Rattle.vc_stream_laws.proofs.laws.capture_starts.Goals as goal

pub returns : goal.returns
returns c = capture_starts
