use Rattle.vc_flow.proofs.calls.request_buffers.Goals as goal

pub returns-in-Count-clause-does : goal.returns-in-Count-clause-does
returns-in-Count-clause-does g c = (_, c.in-Count.ensures.does)

pub returns-in-Count-clause-made : goal.returns-in-Count-clause-made
returns-in-Count-clause-made g c = (_, c.call_on.ensures.does)

pub returns-in_default-clause-made : goal.returns-in_default-clause-made
returns-in_default-clause-made g c = (_, c.call_on.ensures.does)
