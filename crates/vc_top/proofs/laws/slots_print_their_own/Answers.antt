use Rattle.vc_top.proofs.ScriptLaws.{own_lines, same_lines}
use Rattle.vc_top.proofs.laws.slots_print_their_own.Goals as goal

pub returns-clause-own : goal.returns-clause-own
returns-clause-own c = own_lines

pub returns-clause-same : goal.returns-clause-same
returns-clause-same c = same_lines
