use Rattle.vc_core.proofs.SlotsAnswer.{not_claimable}
use Rattle.vc_core.proofs.slot.Slot.is_claimable.Goals as goal

pub returns-in-Closed : goal.returns-in-Closed
returns-in-Closed c =
    not_claimable c.self.inside.content c.args.self.now c.self.view_is c.in-Closed.is
