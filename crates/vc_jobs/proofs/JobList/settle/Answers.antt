use Rattle.std.proofs.Common.{sym, ◌∙◌}
use Rattle.vc_jobs.proofs.Holding.{not_due}
use Rattle.vc_jobs.proofs.JobList.settle.Goals as goal

pub returns-else-waits-clause-settled : goal.returns-else-waits-clause-settled
returns-else-waits-clause-settled c =
    not_due _ _ _ c.if-is_due.false (sym c.contains-waits.ensures.waits ∙ c.if-waits.false)
