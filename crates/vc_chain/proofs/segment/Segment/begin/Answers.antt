use Rattle.vc_chain.proofs.SegmentsGoOn.{begun}
use Rattle.vc_chain.proofs.segment.Segment.begin.Goals as goal

pub returns-clause-begun : goal.returns-clause-begun
returns-clause-begun g c = λ written. begun _ _ _ _ written c.in_ok-open_encoder.ensures.flow
