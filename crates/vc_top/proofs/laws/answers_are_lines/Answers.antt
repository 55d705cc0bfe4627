use Rattle.vc_desk.proofs.AnswersAreLines.{line_texts}
use Rattle.vc_top.proofs.laws.answers_are_lines.Goals as goal

pub returns : goal.returns
returns c = line_texts
