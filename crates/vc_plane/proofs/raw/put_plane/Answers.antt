use Rattle.std.proofs.Common.{◌≡◌, ◌∙◌, subst, ℕ, ◌<◌, ◌≤◌, ◌+◌, ◌*◌, ◌/◌, ◌%◌, get_or, arith}
use Rattle.vc_defs.specs.Planes.{padded, padded_sample, raw_sample}
use Rattle.vc_plane.proofs.RawPlanesBothWays.{row_inside, row_filled, raw_plane_is}
use Rattle.vc_plane.proofs.raw.put_plane.Goals as goal

pub put_row-requires-clause-room : goal.put_row-requires-clause-room
put_row-requires-clause-room c =
    let e : 8 * c.div_ceil-row-end.result ≡ padded c.args.shape.now.height = omega arith in
    let inside : c.loop-row.row * padded c.args.shape.now.width + padded c.args.shape.now.width ≤ padded c.args.shape.now.width * padded c.args.shape.now.height =
    row_inside c.loop-row.row (padded c.args.shape.now.width) (padded c.args.shape.now.height) (omega arith) in
    omega (arith, inside, c.loop-row.invariant.size)

pub loop-row-preserved : goal.loop-row-preserved
loop-row-preserved c = record {
  size = c.put_row.auto.out ∙ c.loop-row.invariant.size;
  written = row_filled (λ r k. raw_sample (padded_sample c.args.plane.now c.args.shape.now.width c.args.shape.now.height k r)) c.loop-row.out c.put_row.new.out (padded c.args.shape.now.width) c.loop-row.row
      c.put_row.ensures.written c.put_row.ensures.kept c.loop-row.invariant.written;
}

pub returns : goal.returns
returns c =
    let e : c.loop-row.row ≡ padded c.args.shape.now.height = omega arith in
    raw_plane_is c.args.plane.now c.loop-row.out c.args.shape.now.width c.args.shape.now.height c.loop-row.invariant.size
    (subst (λ (r : ℕ). (j : ℕ) → j < r * padded c.args.shape.now.width → get_or c.loop-row.out j 0 ≡ raw_sample (padded_sample c.args.plane.now c.args.shape.now.width c.args.shape.now.height (j % padded c.args.shape.now.width) (j / padded c.args.shape.now.width))) e c.loop-row.invariant.written)
