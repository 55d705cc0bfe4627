use Rattle.std.proofs.Common.{arith}
use Rattle.vc_raw.proofs.RowsAreTheGenerators.{yuyv_is}
use Rattle.vc_raw.proofs.fill_packed.Goals as goal

pub returns : goal.returns
returns c = yuyv_is c.fill_rows.new.out c.args.width c.args.height c.args.picture c.args.number c.requires.even (omega arith) (omega arith) c.fill_rows.ensures.written
