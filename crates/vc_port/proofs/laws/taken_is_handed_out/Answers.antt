use Rattle.vc_port.proofs.TakenIsHandedOut.{taken_is_handed_out}
use Rattle.vc_port.proofs.laws.taken_is_handed_out.Goals as goal

pub returns : goal.returns
returns c = taken_is_handed_out
