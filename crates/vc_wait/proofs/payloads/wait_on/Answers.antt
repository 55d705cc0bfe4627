use Rattle.vc_port.proofs.WaitingIsOneCall.{waited_is_call}
use Rattle.vc_wait.proofs.payloads.wait_on.Goals as goal

pub returns-clause-does : goal.returns-clause-does
returns-clause-does g c =
    let port = g.P.Port in
    let law = g.met.P.PayloadPort in
    waited_is_call port.calls port.pauses g.P.PayloadPort.events g.P.PayloadPort.hold law.calls_are law.pauses_are _ _ _ _ c.answer_wait.ensures.waited

pub returns-clause-fit : goal.returns-clause-fit
returns-clause-fit g c = g.met.P.PayloadPort.fits _ c.answer_wait.ensures.ready
