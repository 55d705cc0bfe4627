use Rattle.std.proofs.Common.{replicate, sym, subst, []}
use Rattle.vc_model.specs.Core.{new_core}
use Rattle.vc_context.specs.Payloads.{empty_hold}
use Rattle.vc_desk.specs.Desks.{IsAt}
use Rattle.vc_desk.proofs.StepsKeepDesks.{first_desk}
use Rattle.vc_desk.proofs.desk.Desk.make.Goals as goal

pub returns-clause-desk : goal.returns-clause-desk
returns-clause-desk c =
    subst (λ k. IsAt c.args.slots [] k c.in_ok-holds.holds.items c.in_ok-jobs.jobs.items) (sym c.in_ok-core.ensures)
    (subst (λ h. IsAt c.args.slots [] (new_core c.args.slots 16) h c.in_ok-jobs.jobs.items) (sym c.in_ok-holds.ensures)
    (subst (IsAt c.args.slots [] (new_core c.args.slots 16) (replicate c.args.slots empty_hold)) (sym c.in_ok-jobs.ensures) (first_desk c.args.slots c.requires.1)))
