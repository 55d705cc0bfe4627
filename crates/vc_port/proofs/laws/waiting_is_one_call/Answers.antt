use Rattle.vc_port.proofs.WaitingIsOneCall.{waited_is_call}
use Rattle.vc_port.proofs.laws.waiting_is_one_call.Goals as goal

pub returns : goal.returns
returns g c = λ p q request told w.
    let port = g.P.Port in
    let law = g.met.P.PayloadPort in
    waited_is_call port.calls port.pauses g.P.PayloadPort.events g.P.PayloadPort.hold law.calls_are law.pauses_are p q request told w
