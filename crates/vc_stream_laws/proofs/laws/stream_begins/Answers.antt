use Rattle.vc_stream_laws.proofs.OpeningBeginsAStream.{stream_begins}
use Rattle.vc_stream_laws.proofs.laws.stream_begins.Goals as goal

pub returns : goal.returns
returns c = stream_begins
