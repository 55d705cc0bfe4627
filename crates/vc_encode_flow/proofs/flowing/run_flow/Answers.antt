use Rattle.std.proofs.Common.{refl, []}
use Rattle.vc_flow.proofs.InputsAreBounded.{nothing_below}
use Rattle.vc_flow.proofs.Results.{on_err}
use Rattle.vc_encode_flow.proofs.EndsAreDefinedOutput.{at_open, handed_none, cut_at_once}
use Rattle.vc_encode_flow.proofs.FlowsGoOn.{has_flow}
use Rattle.vc_encode_flow.proofs.flowing.run_flow.Goals as goal

pub returns-in_default-clause-stopped : goal.returns-in_default-clause-stopped
returns-in_default-clause-stopped g c = cut_at_once _ _ _ _ _ _ (handed_none (g.P.PayloadPort.events c.args.port.now))

pub returns-in_default-clause-below : goal.returns-in_default-clause-below
returns-in_default-clause-below g c = λ n. nothing_below _

pub returns-in_err-open_encoder-clause-below : goal.returns-in_err-open_encoder-clause-below
returns-in_err-open_encoder-clause-below g c = λ n. nothing_below _

pub returns-in_err-open_encoder-clause-stopped : goal.returns-in_err-open_encoder-clause-stopped
returns-in_err-open_encoder-clause-stopped g c =
    on_err _ (cut_at_once _ _ _ _ _ _ (c.in_err-open_encoder.ensures.hands (g.P.PayloadPort.events c.args.port.now) [] (handed_none (g.P.PayloadPort.events c.args.port.now))))

pub encode_pictures-requires-clause-flow : goal.encode_pictures-requires-clause-flow
encode_pictures-requires-clause-flow g c = has_flow _ _ _ c.in_ok-open_encoder.ensures.flow

pub returns-clause-engine : goal.returns-clause-engine
returns-clause-engine g c =
    c.encode_pictures.ensures.engine _ _ (g.K.Sink.written c.args.sink.now) (record { queued = refl; taken = refl }) (at_open _ _ _ _ _ c.in_ok-open_encoder.ensures.flow)
