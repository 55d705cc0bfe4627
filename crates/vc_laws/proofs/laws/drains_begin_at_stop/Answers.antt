use Rattle.vc_laws.proofs.MarksInAStep.{drains_begin}
use Rattle.vc_laws.proofs.laws.drains_begin_at_stop.Goals as goal

pub returns : goal.returns
returns c = drains_begin
