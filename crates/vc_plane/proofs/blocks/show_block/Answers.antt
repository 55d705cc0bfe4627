use Rattle.std.proofs.Common.{refl, sym, subst, ◌+◌}
use Rattle.std.specs.Prelude.{Bool}
use Rattle.vc_coder.specs.Blocks.{block_with}
use Rattle.vc_plane.specs.Samples.{AreShown}
use Rattle.vc_plane.proofs.ZeroBlocksChangeNothing.{unchanged_shown}
use Rattle.vc_plane.proofs.blocks.show_block.Goals as goal

pub returns-else-not-is_zero : goal.returns-else-not-is_zero
returns-else-not-is_zero g c =
    subst (λ (b : Bool). AreShown c.args.reference.now c.args.reference.now c.args.shape.now.width c.args.shape.now.height c.args.spot.now.number (c.args.spot.now.number + 1) (block_with b c.args.q.now)) (sym c.if-not-inter.false)
    (unchanged_shown c.args.reference.now c.args.shape.now.width c.args.shape.now.height c.args.spot.now.number (c.args.spot.now.number + 1) c.args.q.now c.requires.some.0 c.type_inv.reference (c.if-not-is_zero.ensures refl))
