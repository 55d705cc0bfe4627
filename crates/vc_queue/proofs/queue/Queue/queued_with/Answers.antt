use Rattle.vc_queue.proofs.LendingAndTaking.{front_room}
use Rattle.vc_queue.proofs.queue.Queue.queued_with.Goals as goal

pub get-cell-requires : goal.get-cell-requires
get-cell-requires c =
    front_room c.self.inside.links c.self.inside.cells.cells c.self.inside.cells.payloads c.self.inside.count 2 c.in-Some.index c.self.invariant c.in-Some.ensures.front
