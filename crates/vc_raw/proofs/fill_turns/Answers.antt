use Rattle.std.proofs.Common.{arith, ◌/◌}
use Rattle.vc_raw.proofs.RowsAreTheGenerators.{half_by_half, twice_half, nv12_is}
use Rattle.vc_raw.proofs.fill_turns.Goals as goal

pub fill_rows-requires-2-clause-inside : goal.fill_rows-requires-2-clause-inside
fill_rows-requires-2-clause-inside c =
    omega (arith, half_by_half c.args.width c.args.height (c.args.width / 2) (c.args.height / 2) c.requires.even.0 c.requires.even.1, twice_half c.args.width (c.args.height / 2) (c.args.width / 2) c.requires.even.0)

pub returns : goal.returns
returns c =
    nv12_is c.fill_rows.new.out c.fill_rows-2.new.out c.args.width c.args.height c.args.picture c.args.number c.requires.even.0 (omega arith)
    (omega (arith, half_by_half c.args.width c.args.height (c.args.width / 2) (c.args.height / 2) c.requires.even.0 c.requires.even.1))
    c.fill_rows.ensures.written c.fill_rows-2.ensures.written c.fill_rows-2.ensures.kept
