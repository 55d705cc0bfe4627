use Rattle.vc_queue.proofs.CarryingCells.{Carrying}
use Rattle.vc_queue.proofs.cells.Cells.grow.Given as goal

abbrev pub invariant-loop-slot : goal.invariant-loop-slot
invariant-loop-slot l = Carrying l.first l.number l.size l.fn.self l.slot l.self l.more
