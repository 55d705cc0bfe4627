-- No call was answered so far: the port waited.
use Rattle.std.proofs.Common.{◌≡◌}
use Rattle.vc_port.specs.Ports.{HasWaited}
use Rattle.vc_wait.proofs.waits.answer_wait.Given as goal

abbrev pub invariant-loop : goal.invariant-loop
invariant-loop g l =
    g.P.Port.ready l.port
    × (g.P.Port.answered l.port ≡ g.P.Port.answered l.initial.port)
    × g.P.Port.follows l.initial.port l.port
    × HasWaited g.P.Port.calls g.P.Port.pauses l.call l.initial.port l.port
