use Rattle.vc_port.proofs.CallsHandOut.{calls_hand_out}
use Rattle.vc_port.proofs.laws.calls_hand_out.Goals as goal

pub returns : goal.returns
returns c = calls_hand_out
