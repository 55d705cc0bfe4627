use Rattle.std.proofs.Common.{◌∙◌, arith}
use Rattle.vc_raw.proofs.RowsAreTheGenerators.{rows_more}
use Rattle.vc_raw.proofs.fill_rows.Goals as goal

pub loop-y-preserved : goal.loop-y-preserved
loop-y-preserved c = record {
  written = rows_more c.args.row c.args.across c.loop-y.y c.args.at c.args.picture c.args.number c.loop-y.out c.fill_row.new.out (omega arith) c.loop-y.invariant.written c.fill_row.ensures.kept c.fill_row.ensures.written;
  kept = λ j h. c.fill_row.ensures.kept j (omega arith) ∙ c.loop-y.invariant.kept j h;
}
