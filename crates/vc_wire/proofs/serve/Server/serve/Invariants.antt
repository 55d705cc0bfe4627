use Rattle.std.proofs.Common.{ℕ, ◌≤◌, List, length}
use Rattle.vc_wire.specs.Ends.{Outside, outside}
use Rattle.vc_wire.specs.Serving.{IsServing, IsServingNow}
use Rattle.vc_wire.proofs.serve.Server.serve.Given as goal

abbrev pub invariant-serving : goal.invariant-serving
invariant-serving g l =
    IsServingNow l.rest l.self (outside g.K.Sink.written g.E.Engine.run_count g.E.Engine.fault_count l.sink l.engine)
    × ((n : ℕ) (all : List ℕ) (before : Outside)
    → IsServing n all l.piece l.initial.self before (outside g.K.Sink.written g.E.Engine.run_count g.E.Engine.fault_count l.initial.sink l.initial.engine)
    → IsServing n all l.rest l.self before (outside g.K.Sink.written g.E.Engine.run_count g.E.Engine.fault_count l.sink l.engine))
    × (g.K.Sink.faults l.initial.sink ≤ g.K.Sink.faults l.sink)
    × (g.E.Engine.run_count l.initial.engine ≤ g.E.Engine.run_count l.engine)
    × (g.E.Engine.fault_count l.initial.engine ≤ g.E.Engine.fault_count l.engine)

abbrev pub decreases-serving : goal.decreases-serving
decreases-serving g l = length l.rest
