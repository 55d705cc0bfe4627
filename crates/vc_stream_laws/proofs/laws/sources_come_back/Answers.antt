use Rattle.vc_stream_laws.proofs.CallsOfAClient.{sources_come_back}
use Rattle.vc_stream_laws.proofs.laws.sources_come_back.Goals as goal

pub returns : goal.returns
returns c = sources_come_back
