use Rattle.std.proofs.Common.{◌∙◌}
use Rattle.vc_lanes.proofs.ShownIsRestored.{shown_is}
use Rattle.vc_lanes.proofs.showing.shown.Goals as goal

pub returns-in-Some : goal.returns-in-Some
returns-in-Some c = c.samples_over.ensures ∙ shown_is c.in-Some.y c.args.values.now c.args.inter c.args.old.now c.in-Some.ensures.is
