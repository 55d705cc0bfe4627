use Rattle.vc_context.proofs.RunsAreResults.{runs_are_back}
use Rattle.vc_core.proofs.job.Job.run.Goals as goal

pub returns-clause-done : goal.returns-clause-done
returns-clause-done g c k j h =
    record { slot = h.slot; is_back = runs_are_back j c.work.inside.work c.run-outcome.new.work c.run-outcome.result (rw c.work.view_is h.work) c.work.invariant c.run-outcome.ensures.lengths c.run-outcome.ensures.outcome }
