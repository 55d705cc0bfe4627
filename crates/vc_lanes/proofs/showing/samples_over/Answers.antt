use Rattle.std.proofs.Common.{arith, get_or}
use Rattle.std.specs.Prelude.{pos, ◌+ℤ◌}
use Rattle.std.specs.Int.{int_shr}
use Rattle.vc_defs.specs.Planes.{base_of, clamped}
use Rattle.vc_block.proofs.BlockIsTaken.{samples_are}
use Rattle.vc_coder.specs.Blocks.{samples_from}
use Rattle.vc_lanes.proofs.showing.samples_over.Goals as goal

pub returns : goal.returns
unfolding samples_from
returns c = samples_are (λ k. clamped (int_shr (get_or c.args.y.now k (pos 0)) 6 +ℤ base_of c.args.inter c.args.old.now k)) 64 c.loop-k.block c.loop-k.invariant.long (λ k h. c.loop-k.invariant.filled k (omega arith))
