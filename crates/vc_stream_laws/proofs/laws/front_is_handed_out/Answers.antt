use Rattle.vc_stream_laws.proofs.HandedOutIsAPrefix.{front_is_handed_out}
use Rattle.vc_stream_laws.proofs.laws.front_is_handed_out.Goals as goal

pub returns : goal.returns
returns c = front_is_handed_out
