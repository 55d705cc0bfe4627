use Rattle.vc_queue.specs.Releasing.{IsReleased}
use Rattle.vc_queue.proofs.queue.streaming.release.Given as goal

abbrev pub invariant-loop-slot : goal.invariant-loop-slot
invariant-loop-slot l = IsReleased l.side l.slot l.fn.cells.cells l.fn.cells.payloads l.fn.hold l.cells.cells l.cells.payloads l.hold
