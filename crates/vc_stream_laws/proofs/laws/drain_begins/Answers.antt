use Rattle.vc_stream_laws.proofs.CallsOfAClient.{drain_begins}
use Rattle.vc_stream_laws.proofs.laws.drain_begins.Goals as goal

pub returns : goal.returns
returns c = drain_begins
