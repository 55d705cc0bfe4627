use Rattle.std.proofs.Common.{refl, sym, ap, ◌∙◌, subst}
use Rattle.vc_base.specs.Device.{finish}
use Rattle.vc_core.specs.Jobs.{is_fault}
use Rattle.vc_shared.specs.Histories.{StandsForLog}
use Rattle.vc_shared.specs.Following.{WorkerFollows}
use Rattle.vc_shared.specs.Handles.{seat_of}
use Rattle.vc_shared.proofs.KnowledgeGrows.{adds_grow}
use Rattle.vc_shared.specs.Workers.{WorkerState, worker_at, IsWorkerSeat}
use Rattle.vc_shared.specs.Claims.{IsOfItsJob, FinishesJob}
use Rattle.vc_shared.proofs.SeatsAfterTurns.{in_turn, ended, ended_is, seen_after}
use Rattle.vc_shared.proofs.CallsByHandle.{few_steps}
use Rattle.vc_shared.proofs.ClaimsByWorker.{is_of_worker, finish_made}
use Rattle.vc_shared.proofs.job_seat.JobSeat.finish.Goals as goal

pub finish-requires-clause-job : goal.finish-requires-clause-job
finish-requires-clause-job g c =
    let e = c.enter-core.ensures in
    let s = c.self.inside in
    let t = in_turn _ _ s.seat c.enter-core.new.seat c.enter-core.result e.turn e.seen e.own e.core in
    is_of_worker s.seat s.sizes s.worker s.over c.enter-core.new.seat.seen c.enter-core.result c.args.finished c.self.invariant t (subst (λ (v : WorkerState). IsOfItsJob v c.args.finished) (sym c.self.view_is) c.requires.job)

pub finish-requires-clause-counts : goal.finish-requires-clause-counts
finish-requires-clause-counts g c =
    let e = c.enter-core.ensures in
    let t = in_turn _ _ c.self.inside.seat c.enter-core.new.seat c.enter-core.result e.turn e.seen e.own e.core in
    few_steps c.self.inside.seat _ _ c.enter-core.new.seat.seen c.enter-core.result t e.limit

pub put-requires-clause-value : goal.put-requires-clause-value
put-requires-clause-value g c =
    let e = c.enter-core.ensures in
    let s = c.self.inside in
    let r = c.finish.ensures in
    let t = in_turn _ _ s.seat c.enter-core.new.seat c.enter-core.result e.turn e.seen e.own e.core in
    let made = finish_made s.seat s.sizes s.worker c.enter-core.new.seat.ticket s.over c.enter-core.new.seat.seen c.enter-core.result c.finish.new.self c.args.finished c.self.invariant t
    (subst (λ (v : WorkerState). IsOfItsJob v c.args.finished) (sym c.self.view_is) c.requires.job) r.step r.size r.crew in
    subst (StandsForLog s.sizes.slots s.sizes.workers c.finish.new.self) (sym (seen_after s.seat c.enter-core.new.seat c.note_finish.new.seat _
    (finish s.worker c.is_fault-fault.result) (finish s.worker (is_fault c.args.finished)) e.turn c.self.invariant.rest.numbered c.note_finish.ensures.noted
    (ap (finish s.worker) c.is_fault-fault.ensures))) made.put

pub invariant_of-self : goal.invariant_of-self
invariant_of-self g c =
    let e = c.enter-core.ensures in
    let s = c.self.inside in
    let r = c.finish.ensures in
    let t = in_turn _ _ s.seat c.enter-core.new.seat c.enter-core.result e.turn e.seen e.own e.core in
    let made = finish_made s.seat s.sizes s.worker c.enter-core.new.seat.ticket s.over c.enter-core.new.seat.seen c.enter-core.result c.finish.new.self c.args.finished c.self.invariant t
    (subst (λ (v : WorkerState). IsOfItsJob v c.args.finished) (sym c.self.view_is) c.requires.job) r.step r.size r.crew in
    let is = ended_is s.seat c.enter-core.new.seat c.note_finish.new.seat c.put.new.seat (finish s.worker c.is_fault-fault.result) e.turn c.note_finish.ensures.noted c.put.ensures in
    subst (λ q. IsWorkerSeat q s.sizes s.worker) (sym (is ∙ ap (λ b. ended s.seat c.enter-core.new.seat.seen c.enter-core.new.seat.ticket (finish s.worker b)) c.is_fault-fault.ensures)) made.seat

pub returns-clause-finished : goal.returns-clause-finished
returns-clause-finished g c =
    let e = c.enter-core.ensures in
    let s = c.self.inside in
    let r = c.finish.ensures in
    let t = in_turn _ _ s.seat c.enter-core.new.seat c.enter-core.result e.turn e.seen e.own e.core in
    let made = finish_made s.seat s.sizes s.worker c.enter-core.new.seat.ticket s.over c.enter-core.new.seat.seen c.enter-core.result c.finish.new.self c.args.finished c.self.invariant t
    (subst (λ (v : WorkerState). IsOfItsJob v c.args.finished) (sym c.self.view_is) c.requires.job) r.step r.size r.crew in
    let is = ended_is s.seat c.enter-core.new.seat c.note_finish.new.seat c.put.new.seat (finish s.worker c.is_fault-fault.result) e.turn c.note_finish.ensures.noted c.put.ensures in
    let here = sym (is ∙ ap (λ b. ended s.seat c.enter-core.new.seat.seen c.enter-core.new.seat.ticket (finish s.worker b)) c.is_fault-fault.ensures) in
    subst (λ (v : WorkerState). FinishesJob v (worker_at c.put.new.seat s.sizes s.worker s.over) (is_fault c.args.finished)) c.self.view_is (subst (λ q. FinishesJob (worker_at s.seat s.sizes s.worker s.over) (worker_at q s.sizes s.worker s.over) (is_fault c.args.finished)) here made.finishes)

pub returns-clause-follows : goal.returns-clause-follows
returns-clause-follows g c =
    let e = c.enter-core.ensures in
    let s = c.self.inside in
    let r = c.finish.ensures in
    let t = in_turn _ _ s.seat c.enter-core.new.seat c.enter-core.result e.turn e.seen e.own e.core in
    let made = finish_made s.seat s.sizes s.worker c.enter-core.new.seat.ticket s.over c.enter-core.new.seat.seen c.enter-core.result c.finish.new.self c.args.finished c.self.invariant t
    (subst (λ (v : WorkerState). IsOfItsJob v c.args.finished) (sym c.self.view_is) c.requires.job) r.step r.size r.crew in
    let is = ended_is s.seat c.enter-core.new.seat c.note_finish.new.seat c.put.new.seat (finish s.worker c.is_fault-fault.result) e.turn c.note_finish.ensures.noted c.put.ensures in
    let here = sym (is ∙ ap (λ b. ended s.seat c.enter-core.new.seat.seen c.enter-core.new.seat.ticket (finish s.worker b)) c.is_fault-fault.ensures) in
    let grows = adds_grow (seat_of s.seat) _ (finish s.worker (is_fault c.args.finished)) made.finishes.finished.adds in
    subst (λ (v : WorkerState). WorkerFollows v (worker_at c.put.new.seat s.sizes s.worker s.over)) c.self.view_is (subst (λ q. WorkerFollows (worker_at s.seat s.sizes s.worker s.over) (worker_at q s.sizes s.worker s.over)) here (record { device = refl; worker = refl; knows = grows }))
