use Rattle.std.proofs.Common.{◌≡◌}
use Rattle.std.specs.Prelude.{◌*ℤ◌}
use Rattle.vc_defs.specs.Walsh.{sum_below, walsh, entry_at}
use Rattle.vc_fwht.proofs.row_sum.Given as goal

abbrev pub invariant-loop-j : goal.invariant-loop-j
invariant-loop-j l = l.sum ≡ sum_below l.j (λ j. entry_at l.x l.row j *ℤ walsh j l.v)
