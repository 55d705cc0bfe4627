use Rattle.vc_top.proofs.ShareLaws.{share_lines_are_defined}
use Rattle.vc_top.proofs.laws.share_lines_are_defined.Goals as goal

pub returns : goal.returns
returns c = share_lines_are_defined
