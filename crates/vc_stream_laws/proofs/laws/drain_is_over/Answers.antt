use Rattle.vc_stream_laws.proofs.HandedOutIsAPrefix.{drain_is_over}
use Rattle.vc_stream_laws.proofs.laws.drain_is_over.Goals as goal

pub returns : goal.returns
returns c = drain_is_over
