use Rattle.vc_defs.proofs.SpellingsArePrefixFree.{spelled_fit}
use Rattle.vc_defs.proofs.laws.spelled_fit.Goals as goal

pub returns : goal.returns
returns c = spelled_fit
