use Rattle.vc_flow.proofs.CallsHandOut.{hands_first}
use Rattle.vc_flow.proofs.Results.{on_ok}
use Rattle.vc_encode_flow.proofs.OpeningCallsOnAPort.{buffers_requested}
use Rattle.vc_chain.proofs.opening.request_buffers.Goals as goal

pub returns-clause-flow : goal.returns-clause-flow
returns-clause-flow g c = λ start f b w. on_ok _ (λ d. buffers_requested start f _ _ _ _ _ _ _ b d.1 w) c.request_buffers.ensures.does

pub returns-clause-hands : goal.returns-clause-hands
returns-clause-hands g c = λ start bytes h. hands_first start bytes _ _ _ _ _ _ c.request_buffers.ensures.made.1 h
