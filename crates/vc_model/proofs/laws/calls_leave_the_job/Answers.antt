use Rattle.vc_model.proofs.CallsLeaveTheJob.{answers_without_job, claimable_without_job}
use Rattle.vc_model.proofs.laws.calls_leave_the_job.Goals as goal

pub returns-clause-answers : goal.returns-clause-answers
returns-clause-answers c = answers_without_job

pub returns-clause-claimable : goal.returns-clause-claimable
returns-clause-claimable c = claimable_without_job
