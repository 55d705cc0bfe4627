use Rattle.vc_script.proofs.OneLine.{want_told}
use Rattle.vc_script.proofs.laws.want_is_told.Goals as goal

pub returns : goal.returns
returns c = want_told
