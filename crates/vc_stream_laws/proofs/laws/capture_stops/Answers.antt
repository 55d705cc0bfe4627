use Rattle.vc_stream_laws.proofs.CallsOfAClient.{capture_stops}
use Rattle.vc_stream_laws.proofs.laws.capture_stops.Goals as goal

pub returns : goal.returns
returns c = capture_stops
