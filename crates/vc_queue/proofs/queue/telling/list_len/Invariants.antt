use Rattle.std.proofs.Common.{◌-◌, length}
use Rattle.vc_links.specs.Lists.{list_at}
use Rattle.vc_queue.proofs.ToldByCells.{Walk}
use Rattle.vc_queue.proofs.queue.telling.list_len.Given as goal

abbrev pub invariant-loop-place : goal.invariant-loop-place
invariant-loop-place l = Walk (list_at l.fn.links l.list) l.number l.place

abbrev pub decreases-loop-place : goal.decreases-loop-place
decreases-loop-place l = length (list_at l.fn.links l.list) - l.number
