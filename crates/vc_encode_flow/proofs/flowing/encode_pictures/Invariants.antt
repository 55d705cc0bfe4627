use Rattle.std.proofs.Common.{ℕ, List, Option, ◌≡◌, ◌<◌, ◌≤◌, ◌^◌, length}
use Rattle.vc_model.specs.Solo.{SoloEvent}
use Rattle.vc_encode_flow.specs.Flows.{FlowSoFar, HasBegun, HasFlow}
use Rattle.vc_encode_flow.specs.Steps.{IsAt}
use Rattle.vc_encode_flow.proofs.BetweenPictures.{IsGoing, HasRead}
use Rattle.vc_encode_flow.proofs.flowing.encode_pictures.Given as goal

abbrev pub invariant-loop-number : goal.invariant-loop-number
invariant-loop-number g l =
    g.P.Port.ready l.port
    × g.P.Port.follows l.initial.port l.port
    × (length l.picture ≡ length l.initial.picture)
    × (g.K.Sink.faults l.sink ≡ g.K.Sink.faults l.initial.sink)
    × (g.S.Source.faults l.source ≡ g.S.Source.faults l.initial.source)
    × HasRead l.total (g.S.Source.left l.initial.source) (g.S.Source.left l.source)
    × ((start : List SoloEvent) (f : FlowSoFar) (first : Option (List ℕ)) → HasBegun f → IsAt start f first (g.K.Sink.written l.initial.sink)
    (g.P.PayloadPort.events l.initial.port) → IsGoing start f (length l.initial.picture) l.number first (g.K.Sink.written l.sink)
    (g.S.Source.left l.initial.source) (g.S.Source.left l.source) (g.P.PayloadPort.events l.port))
    × HasFlow (g.P.PayloadPort.events l.port)
    × (l.total < 2 ^ 40)
    × (l.number ≤ l.total)
