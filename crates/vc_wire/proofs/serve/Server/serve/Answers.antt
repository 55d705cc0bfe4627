use Rattle.std.proofs.Common.{sym, subst, arith}
use Rattle.vc_wire.specs.Ends.{outside}
use Rattle.vc_wire.specs.Serving.{IsServing, IsServingNow}
use Rattle.vc_wire.proofs.ServingEnds.{all_behind}
use Rattle.vc_wire.proofs.serve.Server.serve.Goals as goal

pub step-requires-clause-serving : goal.step-requires-clause-serving
step-requires-clause-serving g c =
    let s = c.serving.invariant.0 in (s.0, s.1, s.2, outside g.K.Sink.written g.E.Engine.run_count g.E.Engine.fault_count c.serving.sink c.serving.engine, s.3)

pub serving-preserved : goal.serving-preserved
serving-preserved g c =
    let i = c.serving.invariant in
    let s = i.0 in
    let now = outside g.K.Sink.written g.E.Engine.run_count g.E.Engine.fault_count c.step.new.sink c.step.new.engine in
    let same = sym (all_behind c.in-Ok.count c.serving.rest.now) in (
      subst (λ xs. IsServingNow xs c.step.new.self now) same (s.0, s.1, s.2, c.in-Ok.ensures.served s.0 s.1 s.2 s.3),
      λ n all before b. subst (λ xs. IsServing n all xs c.step.new.self before now) same (c.in-Ok.ensures.served n all before (i.1 n all before b)),
      omega (arith, i.2, c.in-Ok.ensures.sink_later),
      omega (arith, i.3, c.in-Ok.ensures.runs_stay),
      omega (arith, i.4, c.in-Ok.ensures.faults_stay),
    )

pub returns-in-Err-clause-stopped : goal.returns-in-Err-clause-stopped
returns-in-Err-clause-stopped g c = λ n all before b. c.in-Err.ensures.stopped n all before (c.serving.invariant.1 n all before b)
