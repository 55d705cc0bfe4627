use Rattle.std.proofs.Common.{refl, sym, ap, ◌∙◌, subst}
use Rattle.vc_core.specs.Jobs.{Tells, is_fault}
use Rattle.vc_desk.specs.declared.desk.Desk.{Desk}
use Rattle.vc_desk.specs.Workers.{HasEnded}
use Rattle.vc_desk.proofs.JobsAreSteps.{idle_done, finish_of_worker, ended_done, moved_desk}
use Rattle.vc_desk.proofs.desk.Desk.finish.Goals as goal

pub returns-in_default-clause-done : goal.returns-in_default-clause-done
returns-in_default-clause-done g c = λ n history at. (
  idle_done n history c.args.worker c.args.self.now.core c.args.self.now.holds.items c.args.self.now.jobs.items c.take_job.new.self
      c.take_job.ensures.core (ap (λ h. h.items) c.take_job.ensures.holds) c.take_job.ensures.jobs at c.requires.worker
      (sym c.take_job.ensures.job ∙ c.in_default.is),
  refl,
  refl,
)

pub finish-requires-clause-job : goal.finish-requires-clause-job
finish-requires-clause-job g c =
    finish_of_worker c.requires.desk.0 c.requires.desk.1 c.args.worker c.take_job.new.self.core c.take_job.new.self.holds.items
    c.args.self.now.jobs.items c.in-Some.job c.run-finished.result
    (moved_desk c.requires.desk.0 c.requires.desk.1 c.args.self.now.core c.take_job.new.self.core c.args.self.now.holds.items
    c.take_job.new.self.holds.items c.args.self.now.jobs.items c.take_job.ensures.core (ap (λ h. h.items) c.take_job.ensures.holds) c.requires.desk.2)
    c.requires.worker (sym c.take_job.ensures.job ∙ c.in-Some.is) (is_fault c.run-finished.result) c.run-finished.ensures.done

pub returns-clause-done : goal.returns-clause-done
returns-clause-done g c = λ n history at.
    let moved =
    moved_desk n history c.args.self.now.core c.take_job.new.self.core c.args.self.now.holds.items c.take_job.new.self.holds.items
    c.args.self.now.jobs.items c.take_job.ensures.core (ap (λ h. h.items) c.take_job.ensures.holds) at in
    let desk : Desk = record { core = c.finish.new.self; holds = c.take_job.new.self.holds; jobs = c.take_job.new.self.jobs } in
    let done =
    ended_done n history c.args.worker c.slot-slot.result c.word-word.result.now c.take_job.new.self.core c.finish.new.self
    c.take_job.new.self.holds.items c.args.self.now.jobs.items c.in-Some.job c.run-finished.result desk refl refl c.take_job.ensures.jobs moved
    c.requires.worker (sym c.take_job.ensures.job ∙ c.in-Some.is) (is_fault c.run-finished.result) c.run-finished.ensures.done c.slot-slot.ensures
    c.word-word.ensures c.finish.ensures.step c.finish.ensures.size c.finish.ensures.holds c.finish.ensures.crew in (
      subst (λ b. HasEnded n history c.args.worker c.slot-slot.result c.word-word.result.now b desk) (sym c.is_fault-fault.ensures) done,
      subst (λ b.
          Tells b (g.E.Engine.run_count c.args.engine.now) (g.E.Engine.run_count c.run-finished.new.engine) (g.E.Engine.fault_count c.args.engine.now)
          (g.E.Engine.fault_count c.run-finished.new.engine)) (sym c.is_fault-fault.ensures) c.run-finished.ensures.counts,
    )
