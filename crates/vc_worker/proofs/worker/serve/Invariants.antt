-- Every job that was claimed so far was finished.
use Rattle.std.proofs.Common.{◌≡◌, None}
use Rattle.vc_worker.specs.Turns.{Gained}
use Rattle.vc_worker.proofs.worker.serve.Given as goal

abbrev pub invariant-loop : goal.invariant-loop
invariant-loop g l =
    (g.T.Station.job l.station ≡ None)
    × g.T.Station.follows l.initial.station l.station
    × Gained (g.T.Station.worked l.initial.station) (g.T.Station.worked l.station)
    (g.E.Engine.run_count l.initial.engine)
    (g.E.Engine.run_count l.engine)
    (g.E.Engine.fault_count l.initial.engine)
    (g.E.Engine.fault_count l.engine)
