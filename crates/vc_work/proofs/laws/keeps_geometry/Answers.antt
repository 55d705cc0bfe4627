use Rattle.vc_work.proofs.Streams.{keeps_geometry}
use Rattle.vc_work.proofs.laws.keeps_geometry.Goals as goal

pub returns : goal.returns
returns c = keeps_geometry
