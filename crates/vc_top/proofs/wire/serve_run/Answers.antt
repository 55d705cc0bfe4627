use Rattle.std.proofs.Common.{List, [], ◌∷◌, sym, subst}
use Rattle.vc_crew.specs.Counts.{EngineCounts, count_of}
use Rattle.vc_top.specs.declared.status.Status.{Status}
use Rattle.vc_top.specs.Commands.{WireDoes}
use Rattle.vc_top.specs.Runs.{seen}
use Rattle.vc_top.proofs.WiresEnd.{wire_does, read_status, write_status}
use Rattle.vc_top.proofs.wire.serve_run.Goals as goal

pub returns-clause-does : goal.returns-clause-does
returns-clause-does g c =
    let before : EngineCounts = count_of g.E.Engine.run_count g.E.Engine.fault_count c.args.engine.now in
    let now : EngineCounts = count_of g.E.Engine.run_count g.E.Engine.fault_count c.wire_run.new.engine in
    let had = g.S.Source.left c.args.source.now in
    let left = g.S.Source.left c.wire_run.new.source in
    let old = g.K.Sink.written c.args.sink.now in
    let new = g.K.Sink.written c.wire_run.new.sink in
    let end = c.wire_run.result in
    let r0 = g.S.Source.faults c.args.source.now in
    let r1 = g.S.Source.faults c.wire_run.new.source in
    let s0 = g.K.Sink.faults c.args.sink.now in
    let s1 = g.K.Sink.faults c.wire_run.new.sink in
    subst (λ (s : Status). WireDoes c.args.slots (record { before = seen had r0 old s0 (before ∷ []); after = seen left r1 new s1 (now ∷ []); status = s })) (sym c.wire_status.ensures)
    (wire_does c.args.slots had left old new r0 r1 s0 s1 before now end c.wire_run.ensures.ended (λ e. c.wire_run.ensures.read (read_status end e)) (λ e. c.wire_run.ensures.write (write_status end e)))
