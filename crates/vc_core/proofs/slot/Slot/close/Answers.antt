use Rattle.std.proofs.Common.{sym, ap, ◌∙◌, Some}
use Rattle.vc_core.proofs.SlotsAnswer.{close_closed, close_blocked, close_done, closed_there, nothing_held}
use Rattle.vc_core.proofs.slot.Slot.close.Goals as goal

pub returns-in_default-clause-answers : goal.returns-in_default-clause-answers
returns-in_default-clause-answers c =
    close_closed c.args.self.now (closed_there c.args.self.now (sym c.in_default.is ∙ c.running.ensures))

pub returns-then-running-clause-answers : goal.returns-then-running-clause-answers
returns-then-running-clause-answers c =
    close_blocked c.args.self.now (ap Some (sym c.if-running.true) ∙ (sym c.in-Some.is ∙ c.running.ensures))

pub returns-clause-answers : goal.returns-clause-answers
returns-clause-answers c =
    rw (c.new.ensures) (close_done c.args.self.now (ap Some (sym c.if-running.false) ∙ (sym c.in-Some.is ∙ c.running.ensures)))

pub returns-clause-fit : goal.returns-clause-fit
returns-clause-fit c = rw (c.new.ensures, c.new-2.ensures.places) nothing_held
