use Rattle.std.proofs.Common.{◌≡◌, sym, ap, ◌∙◌, subst, arith, length, ◌∷◌, [], length-append}
use Rattle.std.specs.Vec.Iter.{into_iter_items}
use Rattle.vc_turn.specs.Place.{Place}
use Rattle.vc_shared.specs.Handles.{device_at, new_handle}
use Rattle.vc_shared.specs.Workers.{new_worker}
use Rattle.vc_shared.proofs.SeatsDealtOut.{Dealt, next_is, slot_dealt, worker_dealt}
use Rattle.vc_shared.proofs.shared.deal.Goals as goal

pub loop-seat-preserved-then-number-sizes : goal.loop-seat-preserved-then-number-sizes
loop-seat-preserved-then-number-sizes c =
    let i = c.loop-seat.invariant in
    let lock = c.args.turn.now in
    let sizes = c.args.sizes in
    let handles = c.loop-seat.handles.items in
    let s = c.in-Some.ensures.steps in
    let p = c.in-Some.seat in
    let n : c.len-number.result ≡ length handles = c.len-number.ensures ∙ i.2 in
    let at : p.turn ≡ lock = ap (λ (x : Place). x.turn) (next_is lock sizes _ _ p _ _ i.0 s.0) in
    let is : c.new.result ≡ new_handle (device_at lock sizes.slots sizes.workers) (length handles) = c.new.ensures ∙ (λ t. new_handle (device_at (at t) sizes.slots sizes.workers) (n t)) in
    let q = c.push_reserved.ensures in (
      subst (λ l. Dealt lock sizes (into_iter_items c.next.new.self) l c.loop-seat.jobs.items) (sym q.items) (slot_dealt lock sizes _ _ p handles _ c.new.result i.0 s.0 (omega (arith, n, c.if-number-sizes.true)) is),
      omega (arith, i.1, s.1, ap length s.0),
      omega (arith, q.len, i.2, ap length q.items, length-append handles (c.new.result ∷ [])),
      i.3,
      q.capacity ∙ i.4,
      i.5,
    )

pub loop-seat-preserved : goal.loop-seat-preserved
loop-seat-preserved c =
    let i = c.loop-seat.invariant in
    let lock = c.args.turn.now in
    let sizes = c.args.sizes in
    let handles = c.loop-seat.handles.items in
    let jobs = c.loop-seat.jobs.items in
    let s = c.in-Some.ensures.steps in
    let p = c.in-Some.seat in
    let n : c.len-number.result ≡ length handles = c.len-number.ensures ∙ i.2 in
    let m : c.len-worker.result ≡ length jobs = c.len-worker.ensures ∙ i.3 in
    let at : p.turn ≡ lock = ap (λ (x : Place). x.turn) (next_is lock sizes _ _ p _ _ i.0 s.0) in
    let is : c.new-else-number-sizes.result ≡ new_worker (device_at lock sizes.slots sizes.workers) (length jobs) = c.new-else-number-sizes.ensures ∙ (λ t. new_worker (device_at (at t) sizes.slots sizes.workers) (m t)) in
    let q = c.push_reserved-else-number-sizes.ensures in (
      subst (λ l. Dealt lock sizes (into_iter_items c.next.new.self) handles l) (sym q.items) (worker_dealt lock sizes _ _ p handles jobs c.new-else-number-sizes.result i.0 s.0 (omega (arith, n, c.if-number-sizes.false)) is),
      omega (arith, i.1, s.1, ap length s.0),
      i.2,
      omega (arith, q.len, i.3, ap length q.items, length-append jobs (c.new-else-number-sizes.result ∷ [])),
      i.4,
      q.capacity ∙ i.5,
    )
