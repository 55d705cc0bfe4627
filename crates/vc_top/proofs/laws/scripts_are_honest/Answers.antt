use Rattle.vc_top.proofs.ScriptLaws.{lines_ask, script_is_honest}
use Rattle.vc_top.proofs.laws.scripts_are_honest.Goals as goal

pub returns-clause-asked : goal.returns-clause-asked
returns-clause-asked c = lines_ask

pub returns-clause-honest : goal.returns-clause-honest
returns-clause-honest c = script_is_honest
