use Rattle.vc_queue.proofs.NewBuffers.{Handing}
use Rattle.vc_queue.proofs.queue.growing.hand_over.Given as goal

abbrev pub invariant-loop-i : goal.invariant-loop-i
invariant-loop-i l = Handing l.side l.first l.fn.payloads l.fn.hold l.i l.payloads l.hold
