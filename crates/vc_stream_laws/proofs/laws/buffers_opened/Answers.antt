use Rattle.vc_stream_laws.proofs.OpeningBeginsAStream.{buffers_opened}
use Rattle.vc_stream_laws.proofs.laws.buffers_opened.Goals as goal

pub returns : goal.returns
returns c = buffers_opened
