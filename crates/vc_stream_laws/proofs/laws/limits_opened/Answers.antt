use Rattle.vc_stream_laws.proofs.OpeningBeginsAStream.{limits_opened}
use Rattle.vc_stream_laws.proofs.laws.limits_opened.Goals as goal

pub returns : goal.returns
returns c = limits_opened
