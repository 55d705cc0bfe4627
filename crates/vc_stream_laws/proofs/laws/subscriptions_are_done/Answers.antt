use Rattle.vc_stream_laws.proofs.OpeningBeginsAStream.{subscriptions_are_done}
use Rattle.vc_stream_laws.proofs.laws.subscriptions_are_done.Goals as goal

pub returns : goal.returns
returns c = subscriptions_are_done
