use Rattle.vc_top.proofs.ScriptLaws.{finish_lines_are_counted}
use Rattle.vc_top.proofs.laws.finish_lines_are_counted.Goals as goal

pub returns : goal.returns
returns c = finish_lines_are_counted
