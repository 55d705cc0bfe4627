use Rattle.std.proofs.Common.{◌≡◌, take, true}
use Rattle.std.specs.List.{list_all}
use Rattle.vc_queue.specs.Releasing.{is_fine}
use Rattle.vc_queue.proofs.queue.lengths.none_short.Given as goal

abbrev pub invariant-loop-slot : goal.invariant-loop-slot
invariant-loop-slot l = list_all (λ c. is_fine c.place c.size l.least) (take l.slot l.cells.cells) ≡ true
