use Rattle.std.proofs.Common.{◌≡◌, length, vec_len, vec_capacity}
use Rattle.std.specs.Vec.Iter.{into_iter_items, into_iter_len}
use Rattle.vc_shared.proofs.SeatsDealtOut.{Dealt}
use Rattle.vc_shared.proofs.shared.deal.Given as goal

abbrev pub invariant-loop-seat : goal.invariant-loop-seat
invariant-loop-seat l =
    Dealt l.turn l.sizes (into_iter_items l.seat-iterator) l.handles.items l.jobs.items
    × (into_iter_len l.seat-iterator ≡ length (into_iter_items l.seat-iterator))
    × (vec_len l.handles ≡ length l.handles.items)
    × (vec_len l.jobs ≡ length l.jobs.items)
    × (vec_capacity l.handles ≡ l.sizes.slots)
    × (vec_capacity l.jobs ≡ l.sizes.workers)
