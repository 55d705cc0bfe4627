use Rattle.vc_flow.proofs.CallsHandOut.{hands_first}
use Rattle.vc_flow.proofs.Results.{on_ok}
use Rattle.vc_encode_flow.proofs.ControlsAreGranted.{control_granted}
use Rattle.vc_encode_flow.proofs.OpeningCallsOnAPort.{control_set, control_goes_on}
use Rattle.vc_chain.proofs.opening.set_control.Goals as goal

pub call_granted-requires-clause-granted : goal.call_granted-requires-clause-granted
call_granted-requires-clause-granted g c = control_granted _ _ _ _ c.requires.flow c.requires.settable

pub returns-clause-goes_on : goal.returns-clause-goes_on
returns-clause-goes_on g c =
    on_ok _ (λ d. control_goes_on _ _ _ _ _ _ c.requires.flow c.requires.settable d) c.call_granted.ensures.does

pub returns-clause-flow : goal.returns-clause-flow
returns-clause-flow g c = λ start f rates b e w. on_ok _ (λ d. control_set start f _ _ _ _ rates _ _ e b d w) c.call_granted.ensures.does

pub returns-clause-hands : goal.returns-clause-hands
returns-clause-hands g c = λ start bytes h. hands_first start bytes _ _ _ _ _ _ c.call_granted.ensures.made.1 h
