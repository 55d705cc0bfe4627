use Rattle.std.proofs.Common.{◌≡◌, None, replicate}
use Rattle.vc_desk.proofs.desk.no_jobs.Given as goal

abbrev pub invariant-loop-job : goal.invariant-loop-job
invariant-loop-job l = l.jobs.items ≡ replicate l._job None
