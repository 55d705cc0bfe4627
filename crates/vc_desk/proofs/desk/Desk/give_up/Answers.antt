use Rattle.std.proofs.Common.{true, refl, sym, ap, ◌∙◌}
use Rattle.vc_desk.proofs.JobsAreSteps.{idle_done, finish_of_worker, ended_done, moved_desk}
use Rattle.vc_desk.proofs.desk.Desk.give_up.Goals as goal

pub returns-in_default-clause-done : goal.returns-in_default-clause-done
returns-in_default-clause-done c = λ n history at.
    idle_done n history c.args.worker c.args.self.now.core c.args.self.now.holds.items c.args.self.now.jobs.items c.take_job.new.self
    c.take_job.ensures.core (ap (λ h. h.items) c.take_job.ensures.holds) c.take_job.ensures.jobs at c.requires.worker
    (sym c.take_job.ensures.job ∙ c.in_default.is)

pub finish-requires-clause-job : goal.finish-requires-clause-job
finish-requires-clause-job c =
    finish_of_worker c.requires.desk.0 c.requires.desk.1 c.args.worker c.take_job.new.self.core c.take_job.new.self.holds.items
    c.args.self.now.jobs.items c.in-Some.job c.give_up-finished.result
    (moved_desk c.requires.desk.0 c.requires.desk.1 c.args.self.now.core c.take_job.new.self.core c.args.self.now.holds.items
    c.take_job.new.self.holds.items c.args.self.now.jobs.items c.take_job.ensures.core (ap (λ h. h.items) c.take_job.ensures.holds) c.requires.desk.2)
    c.requires.worker (sym c.take_job.ensures.job ∙ c.in-Some.is) true c.give_up-finished.ensures

pub returns-clause-done : goal.returns-clause-done
returns-clause-done c = λ n history at.
    let moved =
    moved_desk n history c.args.self.now.core c.take_job.new.self.core c.args.self.now.holds.items c.take_job.new.self.holds.items
    c.args.self.now.jobs.items c.take_job.ensures.core (ap (λ h. h.items) c.take_job.ensures.holds) at in (
      ended_done n history c.args.worker c.slot-slot.result c.word-word.result.now c.take_job.new.self.core c.finish.new.self
          c.take_job.new.self.holds.items c.args.self.now.jobs.items c.in-Some.job c.give_up-finished.result _ refl refl c.take_job.ensures.jobs moved
          c.requires.worker (sym c.take_job.ensures.job ∙ c.in-Some.is) true c.give_up-finished.ensures c.slot-slot.ensures c.word-word.ensures
          c.finish.ensures.step c.finish.ensures.size c.finish.ensures.holds c.finish.ensures.crew,
      refl,
    )
