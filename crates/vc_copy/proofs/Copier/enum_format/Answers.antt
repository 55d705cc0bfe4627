use Rattle.vc_copy.proofs.CopierAnswers.{not_listed, is_listed}
use Rattle.vc_copy.proofs.Copier.enum_format.Goals as goal

pub returns-then-index-gt0 : goal.returns-then-index-gt0
returns-then-index-gt0 c =
    not_listed c.self.inside.size c.self.inside.out c.self.inside.cap c.self.inside.running c.args.self.now c.args.side c.args.index c.self.view_is c.if-index-gt0.true

pub returns : goal.returns
returns c =
    rw c.data_format-format.ensures (is_listed c.self.inside.size c.self.inside.out c.self.inside.cap c.self.inside.running c.args.self.now c.args.side c.args.index c.self.view_is c.if-index-gt0.false)
