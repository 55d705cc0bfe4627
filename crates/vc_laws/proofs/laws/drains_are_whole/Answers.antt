use Rattle.vc_laws.proofs.DrainsAreWhole.{drains_are_whole}
use Rattle.vc_laws.proofs.laws.drains_are_whole.Goals as goal

pub returns : goal.returns
returns c = drains_are_whole
