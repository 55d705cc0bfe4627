use Rattle.vc_port.proofs.CallsAreHonest.{calls_are_honest}
use Rattle.vc_port.proofs.laws.calls_are_honest.Goals as goal

pub returns : goal.returns
returns c = calls_are_honest
