use Rattle.vc_stream_laws.proofs.OpeningBeginsAStream.{opens}
use Rattle.vc_stream_laws.proofs.laws.opens.Goals as goal

pub returns : goal.returns
returns c = opens
