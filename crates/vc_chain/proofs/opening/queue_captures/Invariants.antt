use Rattle.std.proofs.Common.{ℕ, List}
use Rattle.vc_model.specs.Solo.{SoloEvent}
use Rattle.vc_encode_flow.specs.Flows.{FlowSoFar, IsFlow}
use Rattle.vc_flow.specs.Calls.{HandedFirst}
use Rattle.vc_chain.proofs.opening.queue_captures.Given as goal

abbrev pub invariant-loop-index : goal.invariant-loop-index
invariant-loop-index g l =
    g.P.Port.ready l.port
    × g.P.Port.follows l.initial.port l.port
    × ((start : List SoloEvent) (f : FlowSoFar) → IsFlow start f (g.P.PayloadPort.events l.initial.port) → IsFlow start f (g.P.PayloadPort.events l.port))
    × ((start : List SoloEvent) (bytes : List ℕ) → HandedFirst start bytes (g.P.PayloadPort.events l.initial.port) → HandedFirst start bytes (g.P.PayloadPort.events l.port))
