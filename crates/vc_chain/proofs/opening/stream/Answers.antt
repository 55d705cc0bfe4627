use Rattle.vc_flow.proofs.CallsHandOut.{hands_first}
use Rattle.vc_flow.proofs.Results.{on_ok}
use Rattle.vc_encode_flow.proofs.OpeningCallsOnAPort.{streamed}
use Rattle.vc_chain.proofs.opening.stream.Goals as goal

pub returns-clause-flow : goal.returns-clause-flow
returns-clause-flow g c = λ start f w. on_ok _ (λ d. streamed start f _ _ _ _ _ d w) c.call_done.ensures.does

pub returns-clause-hands : goal.returns-clause-hands
returns-clause-hands g c = λ start bytes h. hands_first start bytes _ _ _ _ _ _ c.call_done.ensures.made.1 h
