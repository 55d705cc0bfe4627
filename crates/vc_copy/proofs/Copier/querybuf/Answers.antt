use Rattle.vc_copy.proofs.CopierAnswers.{query_out, query_cap}
use Rattle.vc_copy.proofs.Copier.querybuf.Goals as goal

pub returns-in-Out : goal.returns-in-Out
returns-in-Out c =
    query_out c.self.inside.size c.self.inside.out c.self.inside.cap c.self.inside.running c.args.self.now c.args.side c.self.view_is c.args.index c.querybuf.result _ c.in-Out.is c.querybuf.ensures c.told_or_refused.ensures

pub returns-in-Cap : goal.returns-in-Cap
returns-in-Cap c =
    query_cap c.self.inside.size c.self.inside.out c.self.inside.cap c.self.inside.running c.args.self.now c.args.side c.self.view_is c.args.index
    c.querybuf-in-Cap.result _ c.in-Cap.is c.querybuf-in-Cap.ensures c.told_or_refused-in-Cap.ensures
