use Rattle.vc_script.proofs.OneLine.{claim_is_line}
use Rattle.vc_script.proofs.laws.claims_are_lines.Goals as goal

pub returns : goal.returns
returns c = claim_is_line
