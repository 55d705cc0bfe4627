use Rattle.std.proofs.Common.{◌≡◌, ℕ, ◌<◌, ◌+◌, ◌*◌, ◌/◌, ◌%◌, length, get_or}
use Rattle.vc_defs.specs.Planes.{padded_sample}
use Rattle.vc_block.proofs.copy_inner_block.Given as goal

abbrev pub invariant-loop-row : goal.invariant-loop-row
invariant-loop-row l = record {
  long : length l.block ≡ 64;
  filled : (k : ℕ) → k < 8 * l.row → get_or l.block k 0 ≡ padded_sample l.plane l.width l.height (l.left + k % 8) (l.top + k / 8);
}
