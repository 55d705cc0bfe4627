use Rattle.vc_queue.specs.Growing.{HasNew}
use Rattle.vc_queue.proofs.queue.growing.new_payloads.Given as goal

abbrev pub invariant-loop-i : goal.invariant-loop-i
invariant-loop-i l = HasNew 0 l.i l.size l.payloads
