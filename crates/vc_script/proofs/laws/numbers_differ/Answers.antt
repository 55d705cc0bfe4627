use Rattle.vc_script.proofs.OneLine.{numbers_differ}
use Rattle.vc_script.proofs.laws.numbers_differ.Goals as goal

pub returns : goal.returns
returns c = numbers_differ
