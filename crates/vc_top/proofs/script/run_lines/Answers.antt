use Rattle.std.specs.Str.Lines.{lines}
use Rattle.vc_top.proofs.LinesCarriedOut.{none_written}
use Rattle.vc_top.proofs.script.run_lines.Goals as goal

pub returns-in-Err-clause-end : goal.returns-in-Err-clause-end
returns-in-Err-clause-end g c =
    none_written c.args.slots (lines c.args.script.now) (g.K.Sink.written c.args.sink.now) (record { runs = g.E.Engine.run_count c.args.engine.now; faults = g.E.Engine.fault_count c.args.engine.now })
