use Rattle.vc_laws.proofs.DecoderFollows.{retired_are_results}
use Rattle.vc_laws.proofs.laws.retired_are_results.Goals as goal

pub returns : goal.returns
returns c = retired_are_results
