use Rattle.vc_dec.proofs.AnswersByKind.{ready_then, ready_else}
use Rattle.vc_dec.proofs.Decoder.ready.Goals as goal

pub returns-then-may_run : goal.returns-then-may_run
returns-then-may_run c =
    ready_then c.self.inside c.args.self.now c.self.view_is c.may_run.result c.is_job_due.result c.phase.result c.may_run.ensures c.phase.ensures c.if-may_run.true c.is_job_due.ensures

pub returns-else-may_run : goal.returns-else-may_run
returns-else-may_run c =
    ready_else c.self.inside c.args.self.now c.self.view_is c.may_run.result c.phase.result c.may_run.ensures c.phase.ensures c.if-may_run.false
