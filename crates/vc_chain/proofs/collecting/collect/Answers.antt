use Rattle.std.proofs.Common.{refl, ◌∷◌, []}
use Rattle.vc_encode_flow.specs.Flows.{IsFlow}
use Rattle.vc_encode_flow.specs.Steps.{HasTaken, with_frames}
use Rattle.vc_encode_flow.proofs.StoppingWritesAPrefix.{stopped_at, stopped_later, wrote_front, wrote_frame}
use Rattle.vc_flow.proofs.Results.{on_err, on_ok, no_fault, same_error}
use Rattle.vc_encode_flow.proofs.FlowsGoOn.{has_flow, flow_moves}
use Rattle.vc_chain.proofs.collecting.collect.Goals as goal

pub returns-in-Err-clause-stopped : goal.returns-in-Err-clause-stopped
returns-in-Err-clause-stopped g c = λ start f first a.
    stopped_at start f first _ _ _ a (λ bytes. c.take_frame.ensures.hands start bytes)

pub returns-in-Err-clause-engine : goal.returns-in-Err-clause-engine
returns-in-Err-clause-engine g c = λ start f w e. c.in-Err.ensures.engine start f w (same_error _ _ e)

pub returns-in_err-write_taken-clause-stopped : goal.returns-in_err-write_taken-clause-stopped
returns-in_err-write_taken-clause-stopped g c = λ start f first a.
    let t = c.in-Ok.ensures.flow start f a.flow in
    on_err _ (wrote_front start f first _ _ t.frame _ a.wrote t.flow (c.in_err-write_taken.ensures.front t.frame t.there))

pub returns-clause-flow : goal.returns-clause-flow
returns-clause-flow g c =
    let w = c.requires.flow in
    let t = c.in-Ok.ensures.flow w.start w.so_far w.flow in
    flow_moves _ _ _ _ c.queue_capture.ensures.flow (has_flow _ _ _ t.flow)

pub returns-clause-taken : goal.returns-clause-taken
returns-clause-taken g c = λ start f first a.
    let t = c.in-Ok.ensures.flow start f a.flow in
    let more : IsFlow start (with_frames f (t.frame ∷ [])) (g.P.PayloadPort.events c.queue_capture.new.port) →
    HasTaken start f 1 first (g.K.Sink.written c.write_taken.new.sink) (g.P.PayloadPort.events c.queue_capture.new.port) = λ w. record {
      frames = t.frame ∷ [];
      number = refl;
      at = record {
        flow = w;
        wrote = wrote_frame start f first _ _ t.frame a.wrote
            (c.in_ok-write_taken.ensures.whole t.frame t.there);
      };
    } in
    on_ok _ more (c.queue_capture.ensures.flow start (with_frames f (t.frame ∷ [])) t.flow)

pub returns-clause-stopped : goal.returns-clause-stopped
returns-clause-stopped g c = λ start f first a.
    let t = c.in-Ok.ensures.flow start f a.flow in
    on_err _ (stopped_later start f (t.frame ∷ []) first _ _ _ (record { flow = t.flow; wrote = wrote_frame start f first _ _ t.frame a.wrote (c.in_ok-write_taken.ensures.whole t.frame t.there) }) (λ bytes. c.queue_capture.ensures.hands start bytes))

pub returns-clause-engine : goal.returns-clause-engine
returns-clause-engine g c = λ start f w e. no_fault _ c.queue_capture.ensures.memory e
