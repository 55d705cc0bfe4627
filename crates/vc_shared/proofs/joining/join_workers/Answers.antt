use Rattle.std.proofs.Common.{sym, ap, ◌∙◌, subst, arith, length}
use Rattle.std.specs.Vec.Iter.{into_iter_items}
use Rattle.vc_turn.specs.Place.{Place}
use Rattle.vc_shared.proofs.SeatsJoined.{AreJoiningToo, next_joining_too, next_lock_too, all_joined_too}
use Rattle.vc_shared.proofs.joining.join_workers.Goals as goal

pub join-requires-clause-own : goal.join-requires-clause-own
join-requires-clause-own c =
    let i = c.loop-worker.invariant in
    let at = c.into_turn_seat.ensures in
    (i.0.held, at.lock ∙ next_lock_too c.args.turn.now c.args.first.now c.loop-worker.first c.args.workers.items _ _ c.in-Some.worker c.requires.own i.0 c.in-Some.ensures.steps.0)

pub loop-worker-preserved : goal.loop-worker-preserved
loop-worker-preserved c =
    let i = c.loop-worker.invariant in
    let s = c.in-Some.ensures.steps in (
      subst (λ (p : Place). AreJoiningToo c.args.turn.now c.args.first.now p c.args.workers.items (into_iter_items c.next.new.self)) (sym c.join.ensures)
          (next_joining_too c.args.turn.now c.args.first.now c.args.workers.items _ _ c.in-Some.worker c.loop-worker.first c.into_turn_seat.result i.0 s.0 c.into_turn_seat.ensures),
      omega (arith, i.1, s.1, ap length s.0),
    )

pub returns-clause-joined : goal.returns-clause-joined
returns-clause-joined c =
    let i = c.loop-worker.invariant in
    let s = c.in-None.ensures.steps in
    all_joined_too c.args.turn.now c.args.first.now c.args.workers.items _ c.loop-worker.first i.0 (omega (arith, i.1, s.0))
