use Rattle.std.proofs.Common.{rules, ◌≡◌, ℕ, length, vec_len, vec_items, ap, ◌∙◌, arith}
use Rattle.vc_shared.specs.Handles.{DeviceId}
use Rattle.vc_shared.specs.Workers.{WorkerState, new_worker}
use Rattle.vc_crew.specs.declared.calling.SeatedFlow.{SeatedFlow}
use Rattle.vc_crew.specs.declared.worker.Worker.{Worker}
use Rattle.vc_crew.specs.Workers.{HasWorked}
use Rattle.vc_crew.specs.Flowing.{MayFlow}
use Rattle.vc_crew.specs.Sites.{device_of}
use Rattle.vc_crew.proofs.OneMoreWorker.{spare_back, worker_back, worked_on, idle_seat, moved}
use Rattle.vc_crew.proofs.StartedFlows.{neither}
use Rattle.vc_crew.proofs.PairedLists.{all_same}
use Rattle.vc_crew.proofs.HelpComesBack.{is_there, if_some, came_back}
use Rattle.vc_crew.proofs.crew.+run_crew.Goals as goal

pub returns-then-is_spare-clause-worked : goal.returns-then-is_spare-clause-worked
returns-then-is_spare-clause-worked g t c =
    spare_back g.E.Engine.run_count g.E.Engine.fault_count (device_of c.args.site.now) c.run_crew-run.result.crew.jobs.items
    c.with_engine.result.crew.jobs.items c.pop.new.self.items c.run_crew-run.result.crew.engines.items c.args.crew.engines.items
    c.with_engine.result.crew.engines.items c.in-Some.engine c.run_crew-run.ensures.worked c.with_engine.ensures.seats c.in-Some.ensures.items
    c.with_engine.ensures.engines

pub start-requires-clause-own : goal.start-requires-clause-own
start-requires-clause-own g t c κs within =
    ap (λ (w : WorkerState). w.device.lock) (c.in-Some-last_seat.ensures.seat (device_of c.args.site.now) c.requires.new)

pub start-requires-clause-idle : goal.start-requires-clause-idle
start-requires-clause-idle g t c κs within =
    idle_seat c.in-Some-last_seat.seat (device_of c.args.site.now) (vec_len c.last_seat.new.jobs) (c.in-Some-last_seat.ensures.seat (device_of c.args.site.now) c.requires.new)

pub run_crew-run-requires-in-Ok-clause-new : goal.run_crew-run-requires-in-Ok-clause-new
run_crew-run-requires-in-Ok-clause-new g t c κs within =
    c.in-Some-last_seat.ensures.others (device_of c.args.site.now) c.requires.new

pub run_crew-run-requires-in-Err-clause-new : goal.run_crew-run-requires-in-Err-clause-new
run_crew-run-requires-in-Err-clause-new g t c κs within =
    c.in-Some-last_seat.ensures.others (device_of c.args.site.now) c.requires.new

pub run_crew-run-requires-in-Err-2-clause-new : goal.run_crew-run-requires-in-Err-2-clause-new
run_crew-run-requires-in-Err-2-clause-new g t c κs within =
    c.in-Some-last_seat.ensures.others (device_of c.args.site.now) c.requires.new

pub run_crew-run-requires-in-Err-2-clause-help : goal.run_crew-run-requires-in-Err-2-clause-help
run_crew-run-requires-in-Err-2-clause-help g t c κs within =
    let seat = c.in-Some-last_seat.ensures.seat (device_of c.args.site.now) c.requires.new in
    let worked = c.in-Err.ensures.refused in
    is_there _ _ c.in-Err.idle c.with_help-caller.ensures.help (ap (λ (d : DeviceId). d.lock) worked.follows.device ∙ ap (λ (w : WorkerState). w.device.lock) seat, worked.idle)

pub returns-in-Ok-clause-worked : goal.returns-in-Ok-clause-worked
returns-in-Ok-clause-worked g t c =
    let run = c.run_crew-run-in-Ok in
    let rest = run.result.crew.jobs in
    let seat = c.in-Some-last_seat.ensures.seat (device_of c.args.site.now) c.requires.new in
    let number : vec_len c.last_seat.new.jobs ≡ length rest.items = omega (arith, run.ensures.jobs, rest.ok.0) in
    let fresh : c.in-Some-last_seat.seat ≡ new_worker (device_of c.args.site.now) (length rest.items) = seat ∙ ap (λ (n : ℕ). new_worker (device_of c.args.site.now) n) number in
    let worked =
    moved _ c.in-Some-last_seat.seat c.join.result.seat _ (g.E.Engine.run_count c.in-Some.engine) (g.E.Engine.run_count c.join.result.engine) _
    (g.E.Engine.fault_count c.in-Some.engine) (g.E.Engine.fault_count c.join.result.engine) c.join.ensures c.in-Ok.ensures.seat c.in-Ok.ensures.runs
    c.in-Ok.ensures.faults in
    worker_back g.E.Engine.run_count g.E.Engine.fault_count (device_of c.args.site.now) rest.items c.with_worker.result.crew.jobs.items
    c.pop.new.self.items run.result.crew.engines.items c.args.crew.engines.items c.with_worker.result.crew.engines.items c.in-Some-last_seat.seat
    c.join.result.seat c.in-Some.engine c.join.result.engine run.ensures.worked
    (omega (arith, run.ensures.jobs, rest.ok.0, c.pop.new.self.ok.0, c.in-Some.ensures.len, c.in-Some-last_seat.ensures.some, c.requires.engines))
    fresh worked c.with_worker.ensures.jobs c.in-Some.ensures.items c.with_worker.ensures.engines

pub returns-in-Err-clause-worked : goal.returns-in-Err-clause-worked
returns-in-Err-clause-worked g t c =
    let run = c.run_crew-run-in-Err in
    let rest = run.result.crew.jobs in
    let seat = c.in-Some-last_seat.ensures.seat (device_of c.args.site.now) c.requires.new in
    let number : vec_len c.last_seat.new.jobs ≡ length rest.items = omega (arith, run.ensures.jobs, rest.ok.0) in
    let fresh : c.in-Some-last_seat.seat ≡ new_worker (device_of c.args.site.now) (length rest.items) = seat ∙ ap (λ (n : ℕ). new_worker (device_of c.args.site.now) n) number in
    worker_back g.E.Engine.run_count g.E.Engine.fault_count (device_of c.args.site.now) rest.items c.with_worker-in-Err.result.crew.jobs.items
    c.pop.new.self.items run.result.crew.engines.items c.args.crew.engines.items c.with_worker-in-Err.result.crew.engines.items
    c.in-Some-last_seat.seat c.in-Err.idle.seat c.in-Some.engine c.in-Err.idle.engine run.ensures.worked
    (omega (arith, run.ensures.jobs, rest.ok.0, c.pop.new.self.ok.0, c.in-Some.ensures.len, c.in-Some-last_seat.ensures.some, c.requires.engines))
    fresh c.in-Err.ensures.refused c.with_worker-in-Err.ensures.jobs c.in-Some.ensures.items c.with_worker-in-Err.ensures.engines

pub returns-in-Err-2-clause-worked : goal.returns-in-Err-2-clause-worked
returns-in-Err-2-clause-worked g t c =
    let run = c.run_crew-run-in-Err-2 in
    let rest = run.result.crew.jobs in
    let device = device_of c.args.site.now in
    let seat = c.in-Some-last_seat.ensures.seat device c.requires.new in
    let number : vec_len c.last_seat.new.jobs ≡ length rest.items = omega (arith, run.ensures.jobs, rest.ok.0) in
    let fresh : c.in-Some-last_seat.seat ≡ new_worker device (length rest.items) = seat ∙ ap (λ (n : ℕ). new_worker device n) number in
    let back = came_back _ _ _ c.in-Err.idle run.ensures.helped c.with_help-caller.ensures.help in
    let put = if_some _ _ back.now back.is c.with_help.ensures.workers in
    let worked =
    worked_on c.in-Some-last_seat.seat c.in-Err.idle.seat back.now.seat (g.E.Engine.run_count c.in-Some.engine)
    (g.E.Engine.run_count c.in-Err.idle.engine) (g.E.Engine.run_count back.now.engine) (g.E.Engine.fault_count c.in-Some.engine)
    (g.E.Engine.fault_count c.in-Err.idle.engine) (g.E.Engine.fault_count back.now.engine) c.in-Err.ensures.refused back.related in
    worker_back g.E.Engine.run_count g.E.Engine.fault_count device rest.items c.with_help.result.crew.jobs.items c.pop.new.self.items
    run.result.crew.engines.items c.args.crew.engines.items c.with_help.result.crew.engines.items c.in-Some-last_seat.seat back.now.seat
    c.in-Some.engine back.now.engine run.ensures.worked
    (omega (arith, run.ensures.jobs, rest.ok.0, c.pop.new.self.ok.0, c.in-Some.ensures.len, c.in-Some-last_seat.ensures.some, c.requires.engines))
    fresh worked put.0 c.in-Some.ensures.items put.1

pub returns-in-Err-2-clause-jobs : goal.returns-in-Err-2-clause-jobs
returns-in-Err-2-clause-jobs g t c =
    let run = c.run_crew-run-in-Err-2 in
    let back = came_back _ _ _ c.in-Err.idle run.ensures.helped c.with_help-caller.ensures.help in
    let more = if_some _ _ back.now back.is c.with_help.ensures.one_more in
    omega (arith, more.0, run.ensures.jobs, c.in-Some-last_seat.ensures.some)

pub returns-in-Err-2-clause-engines : goal.returns-in-Err-2-clause-engines
returns-in-Err-2-clause-engines g t c =
    let run = c.run_crew-run-in-Err-2 in
    let back = came_back _ _ _ c.in-Err.idle run.ensures.helped c.with_help-caller.ensures.help in
    let more = if_some _ _ back.now back.is c.with_help.ensures.one_more in
    omega (arith, more.1, run.ensures.engines, c.in-Some.ensures.len)

pub run_crew-run-requires-in-Err-2-clause-may : goal.run_crew-run-requires-in-Err-2-clause-may
run_crew-run-requires-in-Err-2-clause-may g t c κs within =
    all_same (λ (x : SeatedFlow g.row.F.Denot g.row.F-End.Denot). MayFlow g.F.Flow.may (device_of c.args.site.now) x.handle x.flow)
    c.args.caller.seated_flows.items c.with_help-caller.result.seated_flows.items c.requires.may
    (ap vec_items c.with_help-caller.ensures.seated_flows)

pub returns-in-Err-2-clause-helped : goal.returns-in-Err-2-clause-helped
returns-in-Err-2-clause-helped g t c =
    let R : Worker g.row.E.Denot → Worker g.row.E.Denot → Type 0 = λ x y. HasWorked x.seat y.seat (g.E.Engine.run_count x.engine) (g.E.Engine.run_count y.engine) (g.E.Engine.fault_count x.engine) (g.E.Engine.fault_count y.engine) in
    neither R c.args.caller.help c.with_help.result.called.help (search rules) (search rules)
