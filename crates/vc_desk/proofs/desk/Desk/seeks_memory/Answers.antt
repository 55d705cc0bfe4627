use Rattle.std.proofs.Common.{sym, ◌∙◌}
use Rattle.vc_desk.proofs.SkippedCalls.{is_alike}
use Rattle.vc_desk.proofs.desk.Desk.seeks_memory.Goals as goal

pub returns-clause-alike : goal.returns-clause-alike
returns-clause-alike c = λ n history bytes at e.
    is_alike n history c.args.self.now.core c.args.slot c.args.call.now bytes at.stands (sym c.passes_to_memory.ensures ∙ e)
