use Rattle.std.proofs.Common.{◌≡◌, false, None, refl, sym, subst}
use Rattle.vc_base.specs.Device.{claim}
use Rattle.vc_port.specs.declared.station.Claimed.{Claimed}
use Rattle.vc_shared.specs.Histories.{StandsForLog}
use Rattle.vc_shared.specs.Following.{WorkerFollows}
use Rattle.vc_shared.specs.Handles.{seat_of}
use Rattle.vc_shared.proofs.KnowledgeGrows.{adds_grow}
use Rattle.vc_shared.specs.Workers.{WorkerState, worker_at, slot_had, IsWorkerSeat}
use Rattle.vc_shared.specs.Claims.{IsClaim, ClaimsJob, ClaimsNone}
use Rattle.vc_shared.proofs.SeatsAfterTurns.{in_turn, ended_is, looked_is, seen_after}
use Rattle.vc_shared.proofs.CallsByHandle.{few_steps}
use Rattle.vc_shared.proofs.ClaimsByWorker.{free_in_core, claim_made, claim_empty, nothing_is}
use Rattle.vc_shared.proofs.job_seat.JobSeat.claim.Goals as goal

pub claim-requires-clause-free : goal.claim-requires-clause-free
claim-requires-clause-free g c =
    let e = c.enter-core.ensures in
    let s = c.self.inside in
    let t = in_turn _ _ s.seat c.enter-core.new.seat c.enter-core.result e.turn e.seen e.own e.core in
    free_in_core s.seat s.sizes s.worker c.enter-core.new.seat.seen c.enter-core.result c.self.invariant (subst (λ (v : WorkerState). slot_had v ≡ None) (sym c.self.view_is) c.requires.free) t

pub claim-requires-clause-counts : goal.claim-requires-clause-counts
claim-requires-clause-counts g c =
    let e = c.enter-core.ensures in
    let t = in_turn _ _ c.self.inside.seat c.enter-core.new.seat c.enter-core.result e.turn e.seen e.own e.core in
    few_steps c.self.inside.seat _ _ c.enter-core.new.seat.seen c.enter-core.result t e.limit

pub put-requires-clause-value : goal.put-requires-clause-value
put-requires-clause-value g c =
    let e = c.enter-core.ensures in
    let s = c.self.inside in
    let r = c.claim.ensures in
    let t = in_turn _ _ s.seat c.enter-core.new.seat c.enter-core.result e.turn e.seen e.own e.core in
    let idle = subst (λ (v : WorkerState). slot_had v ≡ None) (sym c.self.view_is) c.requires.free in
    let made = claim_made s.seat s.sizes s.worker c.enter-core.new.seat.ticket c.enter-core.new.seat.seen c.enter-core.result c.claim.new.self c.in-Some.job s.over s.over c.self.invariant idle t r.step c.in-Some.ensures.job r.size r.crew in
    subst (StandsForLog s.sizes.slots s.sizes.workers c.claim.new.self) (sym (seen_after s.seat c.enter-core.new.seat c.note_claim.new.seat _ (claim s.worker) (claim s.worker) e.turn c.self.invariant.rest.numbered c.note_claim.ensures.noted refl)) made.put

pub invariant_of-self : goal.invariant_of-self
invariant_of-self g c =
    let e = c.enter-core.ensures in
    let s = c.self.inside in
    let r = c.claim.ensures in
    let t = in_turn _ _ s.seat c.enter-core.new.seat c.enter-core.result e.turn e.seen e.own e.core in
    let idle = subst (λ (v : WorkerState). slot_had v ≡ None) (sym c.self.view_is) c.requires.free in
    let made = claim_made s.seat s.sizes s.worker c.enter-core.new.seat.ticket c.enter-core.new.seat.seen c.enter-core.result c.claim.new.self c.in-Some.job s.over s.over c.self.invariant idle t r.step c.in-Some.ensures.job r.size r.crew in
    subst (λ q. IsWorkerSeat q s.sizes s.worker) (sym (ended_is s.seat c.enter-core.new.seat c.note_claim.new.seat c.put.new.seat (claim s.worker) e.turn c.note_claim.ensures.noted c.put.ensures)) made.seat

pub returns-in-Some-clause-claimed : goal.returns-in-Some-clause-claimed
returns-in-Some-clause-claimed g c =
    let e = c.enter-core.ensures in
    let s = c.self.inside in
    let r = c.claim.ensures in
    let t = in_turn _ _ s.seat c.enter-core.new.seat c.enter-core.result e.turn e.seen e.own e.core in
    let idle = subst (λ (v : WorkerState). slot_had v ≡ None) (sym c.self.view_is) c.requires.free in
    let made = claim_made s.seat s.sizes s.worker c.enter-core.new.seat.ticket c.enter-core.new.seat.seen c.enter-core.result c.claim.new.self c.in-Some.job s.over false c.self.invariant idle t r.step c.in-Some.ensures.job r.size r.crew in
    subst (λ (v : WorkerState). ClaimsJob v (worker_at c.put.new.seat s.sizes s.worker false) c.in-Some.job) c.self.view_is (subst
    (λ q. ClaimsJob (worker_at s.seat s.sizes s.worker s.over) (worker_at q s.sizes s.worker false) c.in-Some.job)
    (sym (ended_is s.seat c.enter-core.new.seat c.note_claim.new.seat c.put.new.seat (claim s.worker) e.turn c.note_claim.ensures.noted c.put.ensures)) made.claims)

pub returns-in-None-clause-claimed : goal.returns-in-None-clause-claimed
returns-in-None-clause-claimed g c =
    let e = c.enter-core.ensures in
    let s = c.self.inside in
    let r = c.claim.ensures in
    let shut = c.is_shut-shut.result in
    let t = in_turn _ _ s.seat c.enter-core.new.seat c.enter-core.result e.turn e.seen e.own e.core in
    let idle = subst (λ (v : WorkerState). slot_had v ≡ None) (sym c.self.view_is) c.requires.free in
    let empty = claim_empty s.seat s.sizes s.worker c.enter-core.new.seat.ticket c.enter-core.new.seat.seen c.enter-core.result c.claim.new.self s.over shut shut c.self.invariant idle t r.step c.in-None.ensures.job (sym c.is_shut-shut.ensures) in
    let now = worker_at c.put-in-None.new.seat s.sizes s.worker shut in
    let finds = subst (λ q. ClaimsNone (worker_at s.seat s.sizes s.worker s.over) (worker_at q s.sizes s.worker shut) shut) (sym (looked_is s.seat c.enter-core.new.seat c.put-in-None.new.seat e.turn c.put-in-None.ensures)) empty.finds in
    subst (λ (x : Claimed). IsClaim c.args.self.now now x) (sym c.nothing.ensures) (nothing_is c.args.self.now now shut (subst (λ (v : WorkerState). ClaimsNone v now shut) c.self.view_is finds))

pub returns-in-Some-clause-follows : goal.returns-in-Some-clause-follows
returns-in-Some-clause-follows g c =
    let e = c.enter-core.ensures in
    let s = c.self.inside in
    let r = c.claim.ensures in
    let t = in_turn _ _ s.seat c.enter-core.new.seat c.enter-core.result e.turn e.seen e.own e.core in
    let idle = subst (λ (v : WorkerState). slot_had v ≡ None) (sym c.self.view_is) c.requires.free in
    let made = claim_made s.seat s.sizes s.worker c.enter-core.new.seat.ticket c.enter-core.new.seat.seen c.enter-core.result c.claim.new.self c.in-Some.job s.over false c.self.invariant idle t r.step c.in-Some.ensures.job r.size r.crew in
    let grows = adds_grow (seat_of s.seat) _ (claim s.worker) made.claims.claimed.adds in
    subst (λ (v : WorkerState). WorkerFollows v (worker_at c.put.new.seat s.sizes s.worker false)) c.self.view_is (subst
    (λ q. WorkerFollows (worker_at s.seat s.sizes s.worker s.over) (worker_at q s.sizes s.worker false))
    (sym (ended_is s.seat c.enter-core.new.seat c.note_claim.new.seat c.put.new.seat (claim s.worker) e.turn c.note_claim.ensures.noted c.put.ensures))
    (record { device = refl; worker = refl; knows = grows }))
