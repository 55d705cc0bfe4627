use Rattle.std.proofs.Common.{◌≡◌, ℕ, ◌<◌, length, get_or}
use Rattle.std.specs.Prelude.{pos, neg_ℤ, ◌-ℤ◌, ◌≤ℤ◌}
use Rattle.vc_defs.specs.Planes.{base_of}
use Rattle.vc_defs.proofs.ListsByPlace.{FilledBelow}
use Rattle.vc_coder.proofs.coding.differences_of.Given as goal

abbrev pub invariant-loop-k : goal.invariant-loop-k
invariant-loop-k l = record {
  long : length l.x ≡ 64;
  filled : FilledBelow (λ k. pos (get_or l.block k 0) -ℤ base_of l.inter l.old k) l.k l.x;
  bounds : (j : ℕ) → j < l.k → (neg_ℤ (pos 255) ≤ℤ get_or l.x j (pos 0)) × (get_or l.x j (pos 0) ≤ℤ pos 255);
}
