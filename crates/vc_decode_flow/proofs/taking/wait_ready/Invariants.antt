use Rattle.std.proofs.Common.{◌≡◌, List}
use Rattle.vc_model.specs.Solo.{SoloEvent}
use Rattle.vc_port.specs.Payloads.{bytes_out}
use Rattle.vc_stream_laws.specs.Streams.{StreamSoFar, IsStream}
use Rattle.vc_decode_flow.proofs.taking.wait_ready.Given as goal

abbrev pub invariant-loop : goal.invariant-loop
invariant-loop g l =
    g.P.Port.ready l.port
    × g.P.Port.follows l.initial.port l.port
    × ((start : List SoloEvent) (f : StreamSoFar) → IsStream start f (g.P.PayloadPort.events l.initial.port) → IsStream start f (g.P.PayloadPort.events l.port))
    × (bytes_out (g.P.PayloadPort.events l.port) ≡ bytes_out (g.P.PayloadPort.events l.initial.port))
