use Rattle.std.proofs.Common.{◌≡◌, ◌*◌, length}
use Rattle.vc_defs.specs.Planes.{coded_blocks, block_count}
use Rattle.vc_plane.proofs.BlocksAreCodedInTurn.{AreCoded}
use Rattle.vc_plane.proofs.writing.write_coded.Given as goal

abbrev pub invariant-loop-number : goal.invariant-loop-number
invariant-loop-number g l = record {
  size : length l.reference ≡ l.shape.width * l.shape.height;
  end : l.number-end ≡ block_count l.shape.width l.shape.height;
  coded : AreCoded (coded_blocks l.shape.inter l.shape.qp l.plane l.fn.reference l.shape.width l.shape.height) l.fn.reference l.reference l.shape.width l.shape.height l.number l.fn.out l.out l.pending;
}
