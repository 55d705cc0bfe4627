use Rattle.vc_script.proofs.OneLine.{finish_is_line}
use Rattle.vc_script.proofs.laws.finishes_are_lines.Goals as goal

pub returns : goal.returns
returns c = finish_is_line
