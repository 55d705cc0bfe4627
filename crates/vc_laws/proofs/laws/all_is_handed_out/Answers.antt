use Rattle.vc_laws.proofs.AllIsHandedOut.{all_is_handed_out}
use Rattle.vc_laws.proofs.laws.all_is_handed_out.Goals as goal

pub returns : goal.returns
returns c = all_is_handed_out
