use Rattle.std.proofs.Common.{◌≡◌, ◌<◌, ◌+◌, ◌*◌, ◌/◌, ◌%◌, ◌∷◌, [], ℕ, List, length, get_or}
use Rattle.vc_defs.specs.Raw.{sample_at}
use Rattle.vc_frame.proofs.order.put_in_turns.Given as goal

abbrev pub invariant-loop-k : goal.invariant-loop-k
invariant-loop-k l = record {
  size : length l.to ≡ length l.fn.to;
  end : l.k-end ≡ length l.first;
  put : (luma : List ℕ) (j : ℕ) → j < 2 * l.k → get_or l.to j 0 ≡ sample_at (luma ∷ l.first ∷ l.second ∷ []) (1 + j % 2) (j / 2);
}
