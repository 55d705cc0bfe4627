use Rattle.vc_laws.proofs.MarksInAStep.{marks_stay}
use Rattle.vc_laws.proofs.laws.marks_stay.Goals as goal

pub returns : goal.returns
returns c = marks_stay
