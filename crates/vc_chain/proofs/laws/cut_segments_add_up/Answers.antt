use Rattle.vc_chain.proofs.SegmentsAddUp.{cut_segments_add_up}
use Rattle.vc_chain.proofs.laws.cut_segments_add_up.Goals as goal

pub returns : goal.returns
returns c = cut_segments_add_up
