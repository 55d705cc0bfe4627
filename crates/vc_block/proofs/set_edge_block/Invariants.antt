use Rattle.std.proofs.Common.{◌≡◌, ◌≢◌, ℕ, ◌<◌, ◌*◌, length, get_or}
use Rattle.vc_block.specs.Places.{block_number, place_in_block}
use Rattle.vc_block.proofs.set_edge_block.Given as goal

abbrev pub invariant-loop-k : goal.invariant-loop-k
invariant-loop-k l = record {
  size : length l.plane ≡ l.width * l.height;
  written : (j : ℕ) → j < l.width * l.height → block_number l.width j ≡ l.spot.number → place_in_block l.width j < l.k → get_or l.plane j 0 ≡ get_or l.block (place_in_block l.width j) 0;
  kept : (j : ℕ) → block_number l.width j ≢ l.spot.number → get_or l.plane j 0 ≡ get_or l.initial.plane j 0;
}
