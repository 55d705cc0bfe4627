use Rattle.vc_top.proofs.ScriptLaws.{texts_are_one}
use Rattle.vc_top.proofs.laws.texts_are_one.Goals as goal

pub returns : goal.returns
returns c = texts_are_one
