use Rattle.std.proofs.Common.{◌≡◌, ◌∙◌, subst, ℕ, arith, replicate}
use Rattle.vc_defs.specs.Planes.{block_of}
use Rattle.std.specs.Prelude.{false}
use Rattle.vc_block.specs.Places.{IsBlockPlaced}
use Rattle.vc_coder.specs.Blocks.{block_with}
use Rattle.vc_plane.specs.Samples.{AreShown}
use Rattle.vc_plane.proofs.BlocksAreShownInTurn.{intra_samples, none_shown, one_more_shown}
use Rattle.vc_plane.proofs.blocks.show_intra_blocks.Goals as goal

pub loop-number-init : goal.loop-number-init
loop-number-init g c = record { size = c.requires.size; shown = none_shown c.args.reference.now c.args.shape.now.width c.args.shape.now.height c.args.from (block_with false c.args.q.now) }

pub loop-number-preserved : goal.loop-number-preserved
loop-number-preserved g c = record {
  size = c.set_block.ensures.size;
  shown = one_more_shown c.args.reference.now c.loop-number.reference c.set_block.new.plane c.args.shape.now.width c.args.shape.now.height c.args.from c.loop-number.number (block_with false c.args.q.now) c.samples-block.result
      c.requires.some.0 c.requires.some.1 (omega arith) (omega arith) c.loop-number.invariant.shown
      (c.samples-block.ensures ∙ intra_samples c.args.q.now (replicate 64 0) (block_of c.loop-number.reference c.args.shape.now.width c.args.shape.now.height c.loop-number.number))
      (subst (λ (n : ℕ). IsBlockPlaced c.loop-number.reference c.set_block.new.plane c.args.shape.now.width c.args.shape.now.height n c.samples-block.result) c.spot_of-spot.ensures.number c.set_block.ensures);
}

pub returns : goal.returns
returns g c =
    let e : c.loop-number.number ≡ c.args.to = omega arith in
    subst (λ (n : ℕ). AreShown c.args.reference.now c.loop-number.reference c.args.shape.now.width c.args.shape.now.height c.args.from n (block_with false c.args.q.now)) e c.loop-number.invariant.shown
