use Rattle.std.proofs.Common.{◌≡◌, ◌∙◌, ap, ◌+◌, ◌*◌, ◌/◌, ◌%◌, ◌≤◌, arith}
use Rattle.vc_defs.specs.Planes.{blocks_across}
use Rattle.vc_block.proofs.BlockIsPlaced.{row_written, row_kept}
use Rattle.vc_block.proofs.set_inner_block.Goals as goal

pub loop-row-preserved : goal.loop-row-preserved
loop-row-preserved c =
    let left : c.args.spot.now.left ≡ 8 * (c.args.spot.now.number % blocks_across c.args.width) = c.requires.spot.left in
    let top : c.args.spot.now.top ≡ 8 * (c.args.spot.now.number / blocks_across c.args.width) = c.requires.spot.top in
    let wide : 8 * (c.args.spot.now.number % blocks_across c.args.width) + 8 ≤ c.args.width = omega (arith, left, c.requires.inside) in
    let at : (c.args.spot.now.top + c.loop-row.row) * c.args.width + c.args.spot.now.left ≡ (8 * (c.args.spot.now.number / blocks_across c.args.width) + c.loop-row.row) * c.args.width + 8 * (c.args.spot.now.number % blocks_across c.args.width) =
    ap (λ t. (t + c.loop-row.row) * c.args.width + c.args.spot.now.left) top ∙ ap (λ l. (8 * (c.args.spot.now.number / blocks_across c.args.width) + c.loop-row.row) * c.args.width + l) left in
    record {
      size = c.copy_row.auto.to ∙ c.loop-row.invariant.size;
      written = row_written c.loop-row.plane c.copy_row.new.to c.args.block.now c.args.width c.args.height c.args.spot.now.number c.loop-row.row ((c.args.spot.now.top + c.loop-row.row) * c.args.width + c.args.spot.now.left)
          c.requires.some.0 wide c.loop-row-test.true at c.copy_row.ensures.copied c.copy_row.ensures.before c.copy_row.ensures.behind c.loop-row.invariant.written;
      kept = row_kept c.loop-row.plane c.copy_row.new.to c.args.plane.now c.args.width c.args.spot.now.number c.loop-row.row ((c.args.spot.now.top + c.loop-row.row) * c.args.width + c.args.spot.now.left)
          wide c.loop-row-test.true at c.copy_row.ensures.before c.copy_row.ensures.behind c.loop-row.invariant.kept;
    }

pub returns : goal.returns
returns c = record {
  size = c.loop-row.invariant.size;
  written = λ j h b. c.loop-row.invariant.written j h b (omega arith);
  kept = c.loop-row.invariant.kept;
}
