use Rattle.std.proofs.Common.{sym, ◌∙◌}
use Rattle.vc_copy.proofs.CopierAnswers.{set_gives}
use Rattle.vc_copy.proofs.Copier.set_format.Goals as goal

pub returns-clause-answers : goal.returns-clause-answers
returns-clause-answers c =
    rw c.data_format.ensures
    (set_gives c.self.inside.size c.size_for-size.result c.self.inside.out c.self.inside.cap c.self.inside.running c.args.self.now c.args.side
    c.args.want.now c.self.view_is (sym c.has_buffers.ensures ∙ c.if-has_buffers.false) c.size_for-size.ensures)
