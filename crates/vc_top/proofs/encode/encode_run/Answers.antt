use Rattle.std.proofs.Common.{ap, rules}
use Rattle.vc_crew.specs.Counts.{counts_of}
use Rattle.vc_top.specs.Commands.{EncodeDoes}
use Rattle.vc_top.specs.declared.flows.EncodeFlow.{EncodeFlow}
use Rattle.vc_top.specs.declared.status.Status.TheVariants.{NoMemory}
use Rattle.vc_top.specs.Flows.{status_of_flow}
use Rattle.vc_top.specs.Runs.{seen}
use Rattle.vc_top.proofs.FlowEnds.{for_equals}
use Rattle.vc_top.proofs.EncodingEnds.{encode_does, encode_refused}
use Rattle.vc_top.proofs.encode.encode_run.Goals as goal

pub returns-in-Ok-clause-does : goal.returns-in-Ok-clause-does
returns-in-Ok-clause-does g c =
    let ran = rw c.in-Ok.is at c.run_beside.ensures.ran in
    let old = c.args in
    let engines = counts_of g.E.Engine.run_count g.E.Engine.fault_count old.engines.now.items in
    let engines' = counts_of g.E.Engine.run_count g.E.Engine.fault_count c.run_beside.new.engines.items in
    let before = seen (g.S.Source.left old.source.now) (g.S.Source.faults old.source.now) (g.K.Sink.written old.sink.now) (g.K.Sink.faults old.sink.now) engines in
    let does = encode_does old.options.now c.in-Ok.end _ _ _ _ _ _ _ _ ran.events engines engines' ran.did.0 ran.ran ran.failed in
    rw c.flow_status.ensures
    (for_equals (λ (x : g.row.S.Denot) (y : g.row.K.Denot).
    EncodeDoes old.options.now
    (record { before = before; after = seen (g.S.Source.left x) (g.S.Source.faults x) (g.K.Sink.written y) (g.K.Sink.faults y) engines'; status = status_of_flow c.in-Ok.end }))
    c.run_beside.result.flow.source.now _ c.run_beside.result.flow.sink.now _ (search rules) (search rules) does)

pub returns-in-Err-clause-does : goal.returns-in-Err-clause-does
returns-in-Err-clause-does g c =
    let refused = rw c.in-Err.is at c.run_beside.ensures.refused in
    let old = c.args in
    let engines = counts_of g.E.Engine.run_count g.E.Engine.fault_count old.engines.now.items in
    let engines' = counts_of g.E.Engine.run_count g.E.Engine.fault_count c.run_beside.new.engines.items in
    let before = seen (g.S.Source.left old.source.now) (g.S.Source.faults old.source.now) (g.K.Sink.written old.sink.now) (g.K.Sink.faults old.sink.now) engines in
    let same = ap (λ (f : EncodeFlow g.row.S.Denot g.row.K.Denot). g.K.Sink.written f.sink.now) refused.0 in
    for_equals (λ (x : g.row.S.Denot) (y : g.row.K.Denot).
    EncodeDoes old.options.now (record { before = before; after = seen (g.S.Source.left x) (g.S.Source.faults x) (g.K.Sink.written y) (g.K.Sink.faults y) engines'; status = NoMemory }))
    c.run_beside.result.flow.source.now _ c.run_beside.result.flow.sink.now _ (search rules) (search rules)
    (encode_refused old.options.now _ _ _ _ _ _ _ _ engines engines' same)
