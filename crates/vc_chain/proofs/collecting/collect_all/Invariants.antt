use Rattle.std.proofs.Common.{ℕ, List, Option, ◌≡◌}
use Rattle.vc_model.specs.Solo.{SoloEvent}
use Rattle.vc_encode_flow.specs.Flows.{FlowSoFar, HasFlow}
use Rattle.vc_encode_flow.specs.Steps.{IsAt, HasTaken}
use Rattle.vc_chain.proofs.collecting.collect_all.Given as goal

abbrev pub invariant-loop-frame : goal.invariant-loop-frame
invariant-loop-frame g l =
    g.P.Port.ready l.port
    × g.P.Port.follows l.initial.port l.port
    × ((start : List SoloEvent) (f : FlowSoFar) (first : Option (List ℕ)) → IsAt start f first (g.K.Sink.written l.initial.sink) (g.P.PayloadPort.events l.initial.port) → HasTaken start f l._frame first (g.K.Sink.written l.sink) (g.P.PayloadPort.events l.port))
    × (g.K.Sink.faults l.sink ≡ g.K.Sink.faults l.initial.sink)
    × HasFlow (g.P.PayloadPort.events l.port)
