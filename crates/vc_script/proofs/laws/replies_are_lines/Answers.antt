use Rattle.vc_script.proofs.OneLine.{reply_is_line}
use Rattle.vc_script.proofs.laws.replies_are_lines.Goals as goal

pub returns : goal.returns
returns c = reply_is_line
