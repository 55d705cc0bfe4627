use Rattle.vc_port.proofs.HeldIsThere.{held_is_there}
use Rattle.vc_port.proofs.laws.held_is_there.Goals as goal

pub returns : goal.returns
returns c = held_is_there
