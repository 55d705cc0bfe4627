use Rattle.vc_flow.proofs.calls.call_done.Goals as goal

pub returns-in-Done-clause-made : goal.returns-in-Done-clause-made
returns-in-Done-clause-made g c = (_, c.call_on.ensures.does)

pub returns-in_default-clause-made : goal.returns-in_default-clause-made
returns-in_default-clause-made g c = (_, c.call_on.ensures.does)
