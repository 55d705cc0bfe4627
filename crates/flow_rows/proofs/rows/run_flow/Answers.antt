use Rattle.std.proofs.Common.{ap, ◌∙◌}
use Rattle.vc_port.specs.Payloads.{slot_after}
use Rattle.vc_shared.specs.Handles.{HandleState, slot_events}
use Rattle.flow_rows.proofs.rows.run_flow.Goals as goal

pub encode_on-requires-clause-closed : goal.encode_on-requires-clause-closed
encode_on-requires-clause-closed g c =
    ap (λ (h : HandleState). slot_after (slot_events h)) c.port_of-port.ensures.port ∙ c.requires.handle.1

pub decode_on-requires-clause-closed : goal.decode_on-requires-clause-closed
decode_on-requires-clause-closed g c =
    ap (λ (h : HandleState). slot_after (slot_events h)) c.port_of-port.ensures.port ∙ c.requires.handle.1
