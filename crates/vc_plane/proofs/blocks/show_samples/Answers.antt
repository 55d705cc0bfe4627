use Rattle.std.proofs.Common.{◌∙◌, ap, arith}
use Rattle.vc_defs.specs.Planes.{samples_of}
use Rattle.vc_coder.specs.Blocks.{block_with}
use Rattle.vc_plane.proofs.BlocksAreShownInTurn.{none_shown, one_more_shown}
use Rattle.vc_plane.proofs.blocks.show_samples.Goals as goal

pub returns : goal.returns
returns g c =
    one_more_shown c.args.reference.now c.args.reference.now c.set_block.new.plane c.args.shape.now.width c.args.shape.now.height c.args.spot.now.number c.args.spot.now.number (block_with c.args.inter c.args.q.now) c.samples-block.result
    c.requires.some.0 c.requires.some.1 c.requires.spot.inside (omega arith) (none_shown c.args.reference.now c.args.shape.now.width c.args.shape.now.height c.args.spot.now.number (block_with c.args.inter c.args.q.now))
    (c.samples-block.ensures ∙ ap (λ r. samples_of (block_with c.args.inter c.args.q.now) r) c.requires.replaced) c.set_block.ensures
