use Rattle.std.proofs.Common.{◌-◌}
use Rattle.vc_wire.specs.Ends.{most_input, outside}
use Rattle.vc_wire.proofs.ServingGoesOn.{IsReading}
use Rattle.vc_wire.proofs.serve.serve_all.Given as goal

abbrev pub invariant-reading : goal.invariant-reading
invariant-reading g l =
    IsReading l.slots l.total l.server (g.S.Source.left l.initial.source) (g.S.Source.left l.source)
    (outside g.K.Sink.written g.E.Engine.run_count g.E.Engine.fault_count l.initial.sink l.initial.engine)
    (outside g.K.Sink.written g.E.Engine.run_count g.E.Engine.fault_count l.sink l.engine) (g.S.Source.faults l.initial.source)
    (g.S.Source.faults l.source) (g.K.Sink.faults l.initial.sink) (g.K.Sink.faults l.sink)

abbrev pub decreases-reading : goal.decreases-reading
decreases-reading g l = most_input - l.total
