use Rattle.vc_chain.proofs.SegmentsAddUp.{recoding_begins}
use Rattle.vc_chain.proofs.laws.recoding_begins.Goals as goal

pub returns : goal.returns
returns c = recoding_begins
