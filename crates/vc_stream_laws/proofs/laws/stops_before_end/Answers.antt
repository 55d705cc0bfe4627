use Rattle.vc_stream_laws.proofs.CallsOfAClient.{stops_before_end}
use Rattle.vc_stream_laws.proofs.laws.stops_before_end.Goals as goal

pub returns : goal.returns
returns c = stops_before_end
