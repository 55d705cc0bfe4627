use Rattle.std.proofs.Common.{◌≡◌, ◌<◌, ◌+◌, ◌*◌, ℕ, length, get_or}
use Rattle.vc_frame.proofs.order.gather.Given as goal

abbrev pub invariant-loop-k : goal.invariant-loop-k
invariant-loop-k l = record {
  size : length l.to ≡ length l.fn.to;
  end : l.k-end ≡ length l.fn.to;
  taken : (j : ℕ) → j < l.k → get_or l.to j 0 ≡ get_or l.from (l.first + l.step * j) 0;
}
