use Rattle.vc_stream_laws.proofs.CallsOfAClient.{stops_are_told}
use Rattle.vc_stream_laws.proofs.laws.stops_are_told.Goals as goal

pub returns : goal.returns
returns c = stops_are_told
