use Rattle.std.proofs.Common.{arith}
use Rattle.vc_raw.proofs.RowsAreTheGenerators.{grey_is}
use Rattle.vc_raw.proofs.fill_grey.Goals as goal

pub returns : goal.returns
returns c = grey_is c.fill_rows.new.out c.args.width c.args.height c.args.picture c.args.number (omega arith) c.fill_rows.ensures.written
