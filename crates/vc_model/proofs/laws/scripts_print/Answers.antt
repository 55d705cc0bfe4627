use Rattle.vc_model.proofs.LinesArePrinted.{lines_are_printed}
use Rattle.vc_model.proofs.ScriptsAreHonest.{scripts_are_honest}
use Rattle.vc_model.proofs.EachSlotPrintsItsOwn.{slots_print_their_own, same_events_same_lines, finishes_are_printed}
use Rattle.vc_model.proofs.laws.scripts_print.Goals as goal

pub returns-clause-own : goal.returns-clause-own
returns-clause-own c = slots_print_their_own

pub returns-clause-same : goal.returns-clause-same
returns-clause-same c = same_events_same_lines

pub returns-clause-honest : goal.returns-clause-honest
returns-clause-honest c = scripts_are_honest

pub returns-clause-finishes : goal.returns-clause-finishes
returns-clause-finishes c = finishes_are_printed

pub returns-clause-lines : goal.returns-clause-lines
returns-clause-lines c = lines_are_printed
