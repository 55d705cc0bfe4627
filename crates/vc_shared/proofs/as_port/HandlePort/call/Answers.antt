use Rattle.vc_shared.proofs.PortsRemember.{answered_grows}
use Rattle.vc_shared.proofs.as_port.HandlePort.call.Goals as goal

pub returns-clause-answered : goal.returns-clause-answered
returns-clause-answered g c = answered_grows _ _ _ _ _ _ c.call.ensures.solo
