use Rattle.vc_chain.proofs.PartsOfResults.{chained_is_of_results}
use Rattle.vc_chain.proofs.laws.chained_is_of_results.Goals as goal

pub returns : goal.returns
returns c = chained_is_of_results
