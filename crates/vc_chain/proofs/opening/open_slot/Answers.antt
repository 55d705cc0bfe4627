use Rattle.std.proofs.Common.{refl}
use Rattle.vc_flow.proofs.CallsHandOut.{hands_first}
use Rattle.vc_base.specs.declared.Kind.TheVariants.{Enc}
use Rattle.vc_flow.proofs.CallsAreGranted.{open_granted}
use Rattle.vc_flow.proofs.Results.{on_ok}
use Rattle.vc_encode_flow.proofs.OpeningCallsOnAPort.{opened}
use Rattle.vc_chain.proofs.opening.open_slot.Goals as goal

pub call_granted-requires-clause-granted : goal.call_granted-requires-clause-granted
call_granted-requires-clause-granted g c = open_granted Enc _ _ c.requires.closed

pub returns-clause-flow : goal.returns-clause-flow
returns-clause-flow g c = on_ok _ (λ d. opened _ _ _ _ _ c.requires.closed refl d) c.call_granted.ensures.does

pub returns-clause-hands : goal.returns-clause-hands
returns-clause-hands g c = λ start bytes h. hands_first start bytes _ _ _ _ _ _ c.call_granted.ensures.made.1 h
