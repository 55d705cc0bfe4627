use Rattle.std.proofs.Common.{◌≡◌, ◌*◌, length}
use Rattle.std.specs.Prelude.{false}
use Rattle.vc_coder.specs.Blocks.{block_with}
use Rattle.vc_plane.specs.Samples.{AreShown}
use Rattle.vc_plane.proofs.blocks.show_intra_blocks.Given as goal

abbrev pub invariant-loop-number : goal.invariant-loop-number
invariant-loop-number g l = record {
  size : length l.reference ≡ l.shape.width * l.shape.height;
  shown : AreShown l.initial.reference l.reference l.shape.width l.shape.height l.from l.number (block_with false l.q);
}
