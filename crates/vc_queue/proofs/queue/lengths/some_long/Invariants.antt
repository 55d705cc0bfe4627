use Rattle.std.proofs.Common.{◌≡◌, take, false}
use Rattle.std.specs.Prelude.{nat_le}
use Rattle.std.specs.List.{list_any}
use Rattle.vc_queue.proofs.queue.lengths.some_long.Given as goal

abbrev pub invariant-loop-slot : goal.invariant-loop-slot
invariant-loop-slot l = list_any (λ c. nat_le l.least c.size) (take l.slot l.cells.cells) ≡ false
