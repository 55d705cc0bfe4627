use Rattle.vc_flow.proofs.calls.set_format.Goals as goal

pub returns-in-Fmt-clause-does : goal.returns-in-Fmt-clause-does
returns-in-Fmt-clause-does g c = (_, c.in-Fmt.ensures.does)

pub returns-in-Fmt-clause-made : goal.returns-in-Fmt-clause-made
returns-in-Fmt-clause-made g c = (_, c.call_on.ensures.does)

pub returns-in_default-clause-made : goal.returns-in_default-clause-made
returns-in_default-clause-made g c = (_, c.call_on.ensures.does)
