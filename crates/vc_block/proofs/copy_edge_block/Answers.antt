use Rattle.std.proofs.Common.{arith, ◌+◌, ◌/◌, ◌%◌}
use Rattle.vc_defs.specs.Planes.{padded_sample}
use Rattle.vc_block.specs.Places.{block_from}
use Rattle.vc_block.proofs.BlockIsTaken.{samples_are}
use Rattle.vc_block.proofs.copy_edge_block.Goals as goal

pub returns : goal.returns
unfolding block_from
returns c =
    samples_are (λ k. padded_sample c.args.plane.now c.args.width c.args.height (c.args.left + k % 8) (c.args.top + k / 8)) 64 c.loop-k.block c.loop-k.invariant.long
    (λ k h. c.loop-k.invariant.filled k (omega arith))
