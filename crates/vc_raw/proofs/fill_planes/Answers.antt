use Rattle.std.proofs.Common.{arith, ◌/◌}
use Rattle.vc_raw.proofs.RowsAreTheGenerators.{half_by_half, yu12_is}
use Rattle.vc_raw.proofs.fill_planes.Goals as goal

pub fill_rows-requires-2-clause-inside : goal.fill_rows-requires-2-clause-inside
fill_rows-requires-2-clause-inside c =
    omega (arith, half_by_half c.args.width c.args.height (c.args.width / 2) (c.args.height / 2) c.requires.even.0 c.requires.even.1)

pub fill_rows-requires-3-clause-inside : goal.fill_rows-requires-3-clause-inside
fill_rows-requires-3-clause-inside c =
    omega (arith, half_by_half c.args.width c.args.height (c.args.width / 2) (c.args.height / 2) c.requires.even.0 c.requires.even.1)

pub returns : goal.returns
returns c =
    yu12_is c.fill_rows.new.out c.fill_rows-2.new.out c.fill_rows-3.new.out c.args.width c.args.height c.args.picture c.args.number
    (omega (arith, half_by_half c.args.width c.args.height (c.args.width / 2) (c.args.height / 2) c.requires.even.0 c.requires.even.1))
    c.fill_rows.ensures.written c.fill_rows-2.ensures.written c.fill_rows-2.ensures.kept c.fill_rows-3.ensures.written c.fill_rows-3.ensures.kept
