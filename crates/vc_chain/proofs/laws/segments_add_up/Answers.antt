use Rattle.vc_chain.proofs.SegmentsAddUp.{segments_add_up}
use Rattle.vc_chain.proofs.laws.segments_add_up.Goals as goal

pub returns : goal.returns
returns c = segments_add_up
