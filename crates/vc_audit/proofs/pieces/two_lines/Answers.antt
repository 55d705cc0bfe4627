use Rattle.std.proofs.Common.{◌∙◌, ap}
use Rattle.vc_model.specs.Script.{first_lines}
use Rattle.vc_audit.proofs.PiecesOfReports.{two_taken}
use Rattle.vc_audit.proofs.pieces.two_lines.Goals as goal

pub returns : goal.returns
returns c =
    two_taken c.args.report.now c.first_line-first.result.now c.first_line-second.result.now c.first_line-first.ensures.first
    (c.first_line-second.ensures.first ∙ ap (λ x. first_lines x 1) c.rest_of.ensures)
