use Rattle.std.proofs.Common.{◌∷◌, [], ◌++◌}
use Rattle.vc_encode_flow.specs.Frames.{joined}
use Rattle.vc_encode_flow.proofs.SharedBytesAreDefined.{sharing_flow, tallied_more}
use Rattle.vc_flow.proofs.Results.{on_ok, no_fault, same_error}
use Rattle.vc_encode_flow.proofs.FlowsGoOn.{has_flow, flow_moves}
use Rattle.vc_encode_flow.proofs.tallying.tally_frame.Goals as goal

pub returns-in-Err-clause-engine : goal.returns-in-Err-clause-engine
returns-in-Err-clause-engine g c = λ start format number queued taken h e.
    c.in-Err.ensures.engine start (sharing_flow format number queued h.frames) h.flow (same_error _ _ e)

pub returns-clause-flow : goal.returns-clause-flow
returns-clause-flow g c =
    let w = c.requires.flow in
    let t = c.in-Ok.ensures.flow w.start w.so_far w.flow in
    flow_moves _ _ _ _ c.queue_capture.ensures.flow (has_flow _ _ _ t.flow)

pub returns-clause-shares : goal.returns-clause-shares
returns-clause-shares g c = λ start format number queued taken h.
    let t = c.in-Ok.ensures.flow start (sharing_flow format number queued h.frames) h.flow in
    let more = c.add_frame.ensures.more (joined h.frames) t.frame t.there h.tallied in
    on_ok _ (tallied_more start format number queued taken _ _ t.frame _ _ h more) (c.queue_capture.ensures.flow start (sharing_flow format number queued (h.frames ++ t.frame ∷ [])) t.flow)

pub returns-clause-engine : goal.returns-clause-engine
returns-clause-engine g c = λ start format number queued taken h e. no_fault _ c.queue_capture.ensures.memory e
