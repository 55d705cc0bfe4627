use Rattle.std.proofs.Common.{◌≡◌, length}
use Rattle.std.specs.Vec.Iter.{into_iter_items, into_iter_len}
use Rattle.vc_shared.proofs.SeatsJoined.{AreJoining}
use Rattle.vc_shared.proofs.joining.join_handles.Given as goal

abbrev pub invariant-loop-handle : goal.invariant-loop-handle
invariant-loop-handle l =
    AreJoining l.turn l.first l.fn.handles.items (into_iter_items l.handle-iterator)
    × (into_iter_len l.handle-iterator ≡ length (into_iter_items l.handle-iterator))
