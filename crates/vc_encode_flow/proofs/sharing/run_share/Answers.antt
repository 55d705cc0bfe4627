use Rattle.vc_encode_flow.proofs.GeneratedPicturesAreRaw.{kept_raw}
use Rattle.vc_encode_flow.proofs.SharedBytesAreDefined.{begun}
use Rattle.vc_encode_flow.proofs.FlowsGoOn.{has_flow}
use Rattle.vc_encode_flow.proofs.sharing.run_share.Goals as goal

pub share_pictures-requires-clause-raw : goal.share_pictures-requires-clause-raw
share_pictures-requires-clause-raw g c = kept_raw c.args.format.now c.requires.kept

pub share_pictures-requires-clause-flow : goal.share_pictures-requires-clause-flow
share_pictures-requires-clause-flow g c = has_flow _ _ _ c.in_ok-open_fresh_encoder.ensures.flow

pub returns-clause-through : goal.returns-clause-through
returns-clause-through g c =
    c.share_pictures.ensures.through (g.P.PayloadPort.events c.args.port.now) (begun _ _ _ _ c.in_ok-open_fresh_encoder.ensures.flow)

pub returns-clause-engine : goal.returns-clause-engine
returns-clause-engine g c =
    c.share_pictures.ensures.engine (g.P.PayloadPort.events c.args.port.now) (begun _ _ _ _ c.in_ok-open_fresh_encoder.ensures.flow)
