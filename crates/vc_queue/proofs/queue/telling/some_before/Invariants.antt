use Rattle.std.proofs.Common.{◌≡◌, take, false}
use Rattle.std.specs.List.{list_any}
use Rattle.vc_queue.specs.Releasing.{is_before}
use Rattle.vc_queue.proofs.queue.telling.some_before.Given as goal

abbrev pub invariant-loop-slot : goal.invariant-loop-slot
invariant-loop-slot l = list_any (λ c. is_before c.place c.ordinal l.mark) (take l.slot l.cells.cells) ≡ false
