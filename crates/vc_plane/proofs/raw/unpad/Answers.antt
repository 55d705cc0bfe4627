use Rattle.std.proofs.Common.{◌≡◌, ◌∙◌, subst, ℕ, ◌<◌, ◌+◌, ◌*◌, ◌/◌, ◌%◌, get_or, arith}
use Rattle.vc_defs.specs.Planes.{padded}
use Rattle.vc_plane.proofs.RawPlanesBothWays.{row_more, unpadded_is}
use Rattle.vc_plane.proofs.raw.unpad.Goals as goal

pub loop-row-preserved : goal.loop-row-preserved
loop-row-preserved c =
    let e : 8 * c.div_ceil-padded.result ≡ padded c.args.shape.now.width = omega arith in
    record {
      size = c.copy_row.auto.plane ∙ c.loop-row.invariant.size;
      copied = row_more c.args.bytes.now c.loop-row.plane c.copy_row.new.plane c.args.shape.now.width (padded c.args.shape.now.width) c.loop-row.row c.requires.some.0
          (subst (λ (p : ℕ). (k : ℕ) → k < c.args.shape.now.width → get_or c.copy_row.new.plane (c.loop-row.row * c.args.shape.now.width + k) 0 ≡ get_or c.args.bytes.now (c.loop-row.row * p + k) 0) e c.copy_row.ensures.copied)
          c.copy_row.ensures.kept c.loop-row.invariant.copied;
    }

pub returns : goal.returns
returns c =
    let e : c.loop-row.row ≡ c.args.shape.now.height = omega arith in
    unpadded_is c.args.bytes.now c.loop-row.plane c.args.shape.now.width c.args.shape.now.height c.loop-row.invariant.size
    (subst (λ (r : ℕ). (j : ℕ) → j < r * c.args.shape.now.width → get_or c.loop-row.plane j 0 ≡ get_or c.args.bytes.now (j / c.args.shape.now.width * padded c.args.shape.now.width + j % c.args.shape.now.width) 0) e c.loop-row.invariant.copied)
