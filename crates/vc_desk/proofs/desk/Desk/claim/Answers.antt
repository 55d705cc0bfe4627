use Rattle.std.proofs.Common.{refl, sym, ◌∙◌}
use Rattle.vc_desk.proofs.JobsAreSteps.{busy_done, free_worker, empty_done, took_done}
use Rattle.vc_desk.proofs.desk.Desk.claim.Goals as goal

pub returns-then-is_busy-clause-done : goal.returns-then-is_busy-clause-done
returns-then-is_busy-clause-done c = λ n history at.
    busy_done n history c.args.worker c.args.self.now at c.requires.worker (sym c.is_busy.ensures ∙ c.if-is_busy.true)

pub claim-requires-clause-free : goal.claim-requires-clause-free
claim-requires-clause-free c =
    free_worker c.requires.desk.0 c.requires.desk.1 c.args.self.now.core c.args.self.now.holds.items c.args.self.now.jobs.items c.args.worker c.requires.desk.2 c.requires.worker (sym c.is_busy.ensures ∙ c.if-is_busy.false)

pub returns-in-None-clause-done : goal.returns-in-None-clause-done
returns-in-None-clause-done c = λ n history at.
    empty_done n history c.args.worker c.args.self.now.core c.claim.new.self c.args.self.now.holds.items c.args.self.now.jobs.items _ refl refl refl
    at c.requires.worker (sym c.is_busy.ensures ∙ c.if-is_busy.false) c.in-None.ensures.job c.claim.ensures.step

pub returns-in-Some-clause-done : goal.returns-in-Some-clause-done
returns-in-Some-clause-done c = λ n history at.
    took_done n history c.args.worker c.slot-slot.result c.args.self.now.core c.claim.new.self c.args.self.now.holds.items c.args.self.now.jobs.items
    c.in-Some.job _ refl refl refl at c.requires.worker (sym c.is_busy.ensures ∙ c.if-is_busy.false) c.in-Some.ensures.job c.claim.ensures.step
    c.claim.ensures.size c.claim.ensures.holds c.claim.ensures.crew c.slot-slot.ensures
