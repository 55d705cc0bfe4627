use Rattle.std.proofs.Common.{length}
use Rattle.vc_top.proofs.LinesCarriedOut.{SoFar}
use Rattle.vc_top.proofs.script.do_lines.Given as goal

abbrev pub invariant-carrying : goal.invariant-carrying
invariant-carrying g l =
    SoFar l.slots l.script l.rest l.number l.faulted l.desk (g.K.Sink.written l.initial.sink) (g.K.Sink.written l.sink)
    (g.E.Engine.run_count l.initial.engine) (g.E.Engine.run_count l.engine) (g.E.Engine.fault_count l.initial.engine)
    (g.E.Engine.fault_count l.engine) (g.K.Sink.faults l.initial.sink) (g.K.Sink.faults l.sink)

abbrev pub decreases-carrying : goal.decreases-carrying
decreases-carrying g l = length l.rest
