use Rattle.std.proofs.Common.{◌≡◌, sym, ap, ◌∙◌, subst, arith, length}
use Rattle.std.specs.Vec.Iter.{into_iter_items, into_iter_len}
use Rattle.vc_turn.specs.Place.{Place}
use Rattle.vc_shared.proofs.SeatsJoined.{AreJoining, first_joining, next_joining, next_lock, all_joined}
use Rattle.vc_shared.proofs.joining.join_handles.Goals as goal

pub loop-handle-init : goal.loop-handle-init
loop-handle-init c =
    let lock = c.args.turn.now in
    let all = c.args.handles.items in
    let r = c.into_iter-seats.ensures in
    let s = c.in-Some.ensures.cases in
    let gives = c.into_iter-handle-iterator.ensures.into_iter_gives in
    let whole = sym r.rest ∙ s.0 in
    let one = first_joining lock all (into_iter_items c.next.new.self) c.in-Some.first c.into_turn_seat-first.result c.requires.own whole c.into_turn_seat-first.ensures in
    let n : into_iter_len c.next.new.self ≡ length (into_iter_items c.next.new.self) = omega (arith, s.1, r.len, ap length whole, c.args.handles.ok) in
    (subst (λ x. AreJoining lock c.into_turn_seat-first.result all (into_iter_items x)) (sym gives) one, subst (λ x. into_iter_len x ≡ length (into_iter_items x)) (sym gives) n)

pub join-requires-clause-own : goal.join-requires-clause-own
join-requires-clause-own c =
    let i = c.loop-handle.invariant in
    let at = c.into_turn_seat.ensures in
    (i.0.held, at.lock ∙ next_lock c.args.turn.now c.args.handles.items _ _ c.in-Some-handle.handle c.loop-handle.first c.requires.own i.0 c.in-Some-handle.ensures.steps.0)

pub loop-handle-preserved : goal.loop-handle-preserved
loop-handle-preserved c =
    let i = c.loop-handle.invariant in
    let s = c.in-Some-handle.ensures.steps in (
      subst (λ (p : Place). AreJoining c.args.turn.now p c.args.handles.items (into_iter_items c.next-in-loop-handle.new.self)) (sym c.join.ensures)
          (next_joining c.args.turn.now c.args.handles.items _ _ c.in-Some-handle.handle c.loop-handle.first c.into_turn_seat.result i.0 s.0 c.into_turn_seat.ensures),
      omega (arith, i.1, s.1, ap length s.0),
    )

pub returns-clause-joined : goal.returns-clause-joined
returns-clause-joined c =
    let i = c.loop-handle.invariant in
    let s = c.in-None.ensures.steps in
    all_joined c.args.turn.now c.args.handles.items _ c.loop-handle.first i.0 (omega (arith, i.1, s.0))
