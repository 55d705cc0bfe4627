use Rattle.std.proofs.Common.{arith, ◌∙◌, ◌+◌, ◌/◌, ◌%◌}
use Rattle.vc_defs.specs.Planes.{padded_sample}
use Rattle.vc_block.specs.Places.{block_from}
use Rattle.vc_block.proofs.BlockIsTaken.{samples_are, row_taken}
use Rattle.vc_block.proofs.copy_inner_block.Goals as goal

pub loop-row-preserved : goal.loop-row-preserved
loop-row-preserved c = record {
  long = c.copy_row.auto.to ∙ c.loop-row.invariant.long;
  filled = row_taken c.args.plane.now c.loop-row.block c.copy_row.new.to c.args.width c.args.height c.args.left c.args.top c.loop-row.row c.requires.inside.0 c.requires.inside.1 c.loop-row-test.true
      c.copy_row.ensures.copied c.copy_row.ensures.before c.loop-row.invariant.filled;
}

pub returns : goal.returns
unfolding block_from
returns c =
    samples_are (λ k. padded_sample c.args.plane.now c.args.width c.args.height (c.args.left + k % 8) (c.args.top + k / 8)) 64 c.loop-row.block c.loop-row.invariant.long
    (λ k h. c.loop-row.invariant.filled k (omega arith))
