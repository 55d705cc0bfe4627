use Rattle.std.proofs.Common.{◌≡◌}
use Rattle.std.specs.Prelude.{◌*ℤ◌}
use Rattle.vc_defs.specs.Walsh.{sum_below, walsh, entry_at}
use Rattle.vc_fwht.proofs.column_sum.Given as goal

abbrev pub invariant-loop-i : goal.invariant-loop-i
invariant-loop-i l = l.sum ≡ sum_below l.i (λ i. entry_at l.x i l.column *ℤ walsh i l.u)
