use Rattle.vc_defs.proofs.RawBothWays.{raw_both_ways}
use Rattle.vc_defs.proofs.laws.raw_both_ways.Goals as goal

pub returns : goal.returns
returns c = raw_both_ways
