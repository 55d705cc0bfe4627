use Rattle.vc_flow.specs.Calls.{KeepsHanded}
use Rattle.vc_flow.specs.Faults.{GoesOn}
use Rattle.vc_encode_flow.specs.Flows.{HasBadSource}
use Rattle.vc_chain.proofs.collecting.take_fault.Given as goal

abbrev pub invariant-loop : goal.invariant-loop
invariant-loop g l =
    g.P.Port.ready l.port
    × g.P.Port.follows l.initial.port l.port
    × HasBadSource (g.P.PayloadPort.events l.port)
    × GoesOn (g.P.PayloadPort.events l.initial.port) (g.P.PayloadPort.events l.port)
    × KeepsHanded (g.P.PayloadPort.events l.initial.port) (g.P.PayloadPort.events l.port)
