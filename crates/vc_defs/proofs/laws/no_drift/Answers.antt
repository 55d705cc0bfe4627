use Rattle.vc_defs.proofs.NoDrift.{no_drift}
use Rattle.vc_defs.proofs.laws.no_drift.Goals as goal

pub returns : goal.returns
returns c = no_drift
