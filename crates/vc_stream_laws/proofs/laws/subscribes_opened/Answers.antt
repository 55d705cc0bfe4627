use Rattle.vc_stream_laws.proofs.OpeningBeginsAStream.{subscribes_opened}
use Rattle.vc_stream_laws.proofs.laws.subscribes_opened.Goals as goal

pub returns : goal.returns
returns c = subscribes_opened
