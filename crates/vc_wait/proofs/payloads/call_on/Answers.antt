use Rattle.vc_wait.proofs.payloads.call_on.Goals as goal

pub returns-clause-does : goal.returns-clause-does
returns-clause-does g c =
    g.met.P.PayloadPort.calls_are _ _ _ _ c.call.ensures.calls

pub returns-clause-fit : goal.returns-clause-fit
returns-clause-fit g c = g.met.P.PayloadPort.fits _ c.call.ensures.ready
