use Rattle.vc_encode_flow.specs.Flows.{IsFlow}
use Rattle.vc_encode_flow.specs.Steps.{HasTaken, with_frames}
use Rattle.vc_encode_flow.proofs.StoppingWritesAPrefix.{none_taken, stopped_later}
use Rattle.vc_flow.proofs.Results.{on_err, on_ok, same_error}
use Rattle.vc_encode_flow.proofs.FlowsGoOn.{flow_moves}
use Rattle.vc_encode_flow.proofs.flowing.next_source.Goals as goal

pub returns-then-number-from-clause-first : goal.returns-then-number-from-clause-first
returns-then-number-from-clause-first g c = λ l start f first a. none_taken start f first _ _ a

pub returns-in-Ok-clause-flow : goal.returns-in-Ok-clause-flow
returns-in-Ok-clause-flow g c = flow_moves _ _ _ _ c.take_source.ensures.flow c.in-Ok.ensures.flow

pub returns-in-Ok-clause-engine : goal.returns-in-Ok-clause-engine
returns-in-Ok-clause-engine g c = λ start f first a e.
    let h = c.in-Ok.ensures.taken start f first a in
    c.take_source.ensures.engine start (with_frames f h.frames) h.at.flow e

pub returns-in-Ok-clause-later_on : goal.returns-in-Ok-clause-later_on
returns-in-Ok-clause-later_on g c = λ l start f first a.
    let h = c.in-Ok.ensures.taken start f first a in
    let more : IsFlow start (with_frames f h.frames) (g.P.PayloadPort.events c.take_source.new.port) →
    HasTaken start f 1 first (g.K.Sink.written c.collect.new.sink) (g.P.PayloadPort.events c.take_source.new.port) = λ w. record
    { frames = h.frames; number = h.number; at = record { flow = w; wrote = h.at.wrote } } in
    on_ok _ more (c.take_source.ensures.flow start (with_frames f h.frames) h.at.flow)

pub returns-in-Ok-clause-stopped : goal.returns-in-Ok-clause-stopped
returns-in-Ok-clause-stopped g c = λ start f first a.
    let h = c.in-Ok.ensures.taken start f first a in
    on_err _ (stopped_later start f h.frames first _ _ _ h.at (λ bytes. c.take_source.ensures.hands start bytes))

pub returns-in-Err-clause-engine : goal.returns-in-Err-clause-engine
returns-in-Err-clause-engine g c = λ start f first a e. c.in-Err.ensures.engine start f a.flow (same_error _ _ e)
