use Rattle.std.proofs.Common.{sym, ◌∙◌}
use Rattle.vc_core.proofs.BeforeMemory.{opened_before, closed_before}
use Rattle.vc_core.proofs.slot.closed_refusal.Goals as goal

pub returns-in-Some : goal.returns-in-Some
returns-in-Some c =
    opened_before c.args.call.now c.in-Some.field-0 (sym c.opened_kind.ensures ∙ c.in-Some.is)

pub returns-in-None : goal.returns-in-None
returns-in-None c =
    closed_before c.args.call.now (sym c.opened_kind.ensures ∙ c.in-None.is)
