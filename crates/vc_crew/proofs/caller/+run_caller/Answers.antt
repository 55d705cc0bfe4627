use Rattle.std.proofs.Common.{sym, subst}
use Rattle.vc_worker.specs.Both.{Both, both_on}
use Rattle.vc_crew.specs.declared.calling.SeatedFlow.{SeatedFlow}
use Rattle.vc_crew.specs.declared.calling.Done.{Done}
use Rattle.vc_crew.specs.declared.worker.Worker.{Worker}
use Rattle.vc_crew.specs.Workers.{HasWorked}
use Rattle.vc_crew.specs.Flowing.{MayFlow, HasFlowed}
use Rattle.vc_crew.specs.Sites.{device_of}
use Rattle.vc_crew.proofs.OneMoreWorker.{worked_on}
use Rattle.vc_crew.proofs.PairedLists.{all_last, paired_more}
use Rattle.vc_crew.proofs.caller.+run_caller.Goals as goal

pub run_caller-called-requires-clause-may : goal.run_caller-called-requires-clause-may
run_caller-called-requires-clause-may g t c κs within =
    (all_last (λ (x : SeatedFlow g.row.F.Denot g.row.F-End.Denot). MayFlow g.F.Flow.may (device_of c.args.site.now) x.handle x.flow)
    c.pop.new.self.items c.in-Some.seated c.args.caller.seated_flows.items c.requires.may c.in-Some.ensures.items).0

pub returns-clause-flowed : goal.returns-clause-flowed
returns-clause-flowed g t c =
    paired_more
    (λ (x : SeatedFlow g.row.F.Denot g.row.F-End.Denot) (d : Done g.row.F.Denot g.row.F-End.Denot). HasFlowed g.F.Flow.does x.flow d.flow d.end x.handle d.handle)
    c.pop.new.self.items c.run_caller-called.result.done.items c.in-Some.seated c.run_helped-helped.result.done c.args.caller.seated_flows.items
    c.with_done.result.done.items c.run_caller-called.ensures.flowed c.run_helped-helped.ensures.flowed c.in-Some.ensures.items
    c.with_done.ensures.done

pub returns-clause-helped : goal.returns-clause-helped
returns-clause-helped g t c =
    let R : Worker g.row.E.Denot → Worker g.row.E.Denot → Type 0 = λ x y. HasWorked x.seat y.seat (g.E.Engine.run_count x.engine) (g.E.Engine.run_count y.engine) (g.E.Engine.fault_count x.engine) (g.E.Engine.fault_count y.engine) in
    subst (λ o. Both R c.args.caller.help o) (sym c.with_done.ensures.help)
    (both_on R (λ x y z a b. worked_on x.seat y.seat z.seat _ _ _ _ _ _ a b) c.args.caller.help c.run_helped-helped.result.help
    c.run_caller-called.result.help c.run_helped-helped.ensures.helped c.run_caller-called.ensures.helped)
