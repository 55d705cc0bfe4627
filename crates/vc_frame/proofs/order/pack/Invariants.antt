use Rattle.std.proofs.Common.{◌≡◌, ◌<◌, ◌*◌, ◌∷◌, [], ℕ, length, get_or}
use Rattle.vc_defs.specs.Raw.{packed_sample}
use Rattle.vc_frame.proofs.order.pack.Given as goal

abbrev pub invariant-loop-k : goal.invariant-loop-k
invariant-loop-k l = record {
  size : length l.to ≡ length l.fn.to;
  end : l.k-end ≡ length l.first;
  put : (j : ℕ) → j < 4 * l.k → get_or l.to j 0 ≡ packed_sample (l.luma ∷ l.first ∷ l.second ∷ []) j;
}
