use Rattle.vc_queue.proofs.NewBuffers.{Linking}
use Rattle.vc_queue.proofs.queue.growing.link_new.Given as goal

abbrev pub invariant-loop-i : goal.invariant-loop-i
invariant-loop-i l = Linking l.first l.fn.links l.i l.links
