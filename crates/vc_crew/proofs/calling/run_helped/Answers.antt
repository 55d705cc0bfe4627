use Rattle.vc_crew.proofs.HelpComesBack.{helped, help_there}
use Rattle.vc_crew.proofs.calling.run_helped.Goals as goal

pub run-end-requires-clause-ready : goal.run-end-requires-clause-ready
run-end-requires-clause-ready g c =
    (c.port_of-helping.ensures.ready, help_there _ _ _ _ _ c.port_of-helping.ensures.help c.requires.help (λ w q. q.1))

pub returns-clause-helped : goal.returns-clause-helped
returns-clause-helped g c =
    helped _ _ _ _ _ _ c.args.help c.port_of-helping.result.help c.run-end.new.port.help c.worker_of-help.result c.port_of-helping.ensures.help
    c.run-end.ensures.follows.1 c.run-end.ensures.ready.1 c.worker_of-help.ensures
    (λ w h p q i. record { follows = p.0; gained = p.1; ready = i; idle = q })
