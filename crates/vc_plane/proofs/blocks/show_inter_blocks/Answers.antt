use Rattle.std.proofs.Common.{◌≡◌, ◌∙◌, ap, subst, ℕ, arith}
use Rattle.std.specs.Prelude.{true}
use Rattle.vc_defs.specs.Planes.{block_of, samples_of}
use Rattle.vc_block.specs.Places.{IsBlockPlaced}
use Rattle.vc_coder.specs.Blocks.{block_with}
use Rattle.vc_plane.specs.Samples.{AreShown}
use Rattle.vc_plane.proofs.BlocksAreShownInTurn.{none_shown, one_more_shown}
use Rattle.vc_plane.proofs.blocks.show_inter_blocks.Goals as goal

pub loop-number-init : goal.loop-number-init
loop-number-init g c = record { size = c.requires.size; shown = none_shown c.args.reference.now c.args.shape.now.width c.args.shape.now.height c.args.from (block_with true c.args.q.now) }

pub loop-number-preserved : goal.loop-number-preserved
loop-number-preserved g c = record {
  size = c.set_block.ensures.size;
  shown = one_more_shown c.args.reference.now c.loop-number.reference c.set_block.new.plane c.args.shape.now.width c.args.shape.now.height c.args.from c.loop-number.number (block_with true c.args.q.now) c.samples-block.result
      c.requires.some.0 c.requires.some.1 (omega arith) (omega arith) c.loop-number.invariant.shown
      (c.samples-block.ensures ∙ ap (λ r. samples_of (block_with true c.args.q.now) r) (c.copy_block.ensures ∙ ap (λ n. block_of c.loop-number.reference c.args.shape.now.width c.args.shape.now.height n) c.spot_of-spot.ensures.number))
      (subst (λ (n : ℕ). IsBlockPlaced c.loop-number.reference c.set_block.new.plane c.args.shape.now.width c.args.shape.now.height n c.samples-block.result) c.spot_of-spot.ensures.number c.set_block.ensures);
}

pub returns : goal.returns
returns g c =
    let e : c.loop-number.number ≡ c.args.to = omega arith in
    subst (λ (n : ℕ). AreShown c.args.reference.now c.loop-number.reference c.args.shape.now.width c.args.shape.now.height c.args.from n (block_with true c.args.q.now)) e c.loop-number.invariant.shown
