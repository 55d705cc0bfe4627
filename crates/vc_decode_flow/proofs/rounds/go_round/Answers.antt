use Rattle.std.proofs.Common.{◌≡◌, ◌∙◌, Some, None}
use Rattle.vc_stream_laws.specs.Streams.{not_known}
use Rattle.vc_decode_flow.specs.Steps.{stream_of, with_picture}
use Rattle.vc_decode_flow.proofs.CallsKeepAStream.{stream_of_unspoilt}
use Rattle.vc_flow.proofs.CallsHandOut.{first_stays}
use Rattle.vc_decode_flow.proofs.RoundsWritePictures.{stopped_at, still_going, took, taken_some, taken_none, there_still, to_write_still, give_goes, give_stops, no_engine}
use Rattle.vc_decode_flow.proofs.rounds.go_round.Goals as goal

pub returns-in-Err-clause-cut : goal.returns-in-Err-clause-cut
returns-in-Err-clause-cut g c = λ start queued damaged ends first w.
    stopped_at start (stream_of queued w.handed damaged ends not_known) first _ _ _ w.at (λ bytes h. c.take_capture.ensures.hands start bytes (first_stays start bytes (g.P.PayloadPort.events c.args.port.now) (g.P.PayloadPort.events c.next_event-event.new.port) c.next_event-event.ensures.bytes h))

pub returns-in-Err-clause-engine : goal.returns-in-Err-clause-engine
returns-in-Err-clause-engine g c = λ start queued damaged ends first w e. let m = c.in-Err.ensures.memory in absurd (cc)

pub returns-in-Err-take_sources-clause-cut : goal.returns-in-Err-take_sources-clause-cut
returns-in-Err-take_sources-clause-cut g c = λ start queued damaged ends first w.
    stopped_at start (stream_of queued w.handed damaged ends not_known) first _ _ _ w.at
    (λ bytes h. first_stays start bytes (g.P.PayloadPort.events c.take_capture.new.port) (g.P.PayloadPort.events c.take_sources.new.port)
    c.take_sources.ensures.bytes (c.take_capture.ensures.hands start bytes
    (first_stays start bytes (g.P.PayloadPort.events c.args.port.now) (g.P.PayloadPort.events c.next_event-event.new.port)
    c.next_event-event.ensures.bytes h)))

pub returns-in-Err-take_sources-clause-engine : goal.returns-in-Err-take_sources-clause-engine
returns-in-Err-take_sources-clause-engine g c = λ start queued damaged ends first w e.
    let f = stream_of queued w.handed damaged ends not_known in
    let t = took start f _ _ _ _ (c.in-Ok.ensures.taken start f (c.next_event-event.ensures.stream start f w.at.stream)) in
    c.take_sources.ensures.engine start t.after t.stream (cc)

pub give-requires-clause-there : goal.give-requires-clause-there
give-requires-clause-there g c =
    there_still _ c.in-Some.taken (g.P.PayloadPort.hold c.take_capture.new.port) (g.P.PayloadPort.hold c.take_sources.new.port) c.in-Some.is c.in-Ok-take_sources.ensures.payloads c.in-Ok.ensures.there

pub returns-in-Some-clause-goes : goal.returns-in-Some-clause-goes
returns-in-Some-clause-goes g c = λ start queued damaged ends first w.
    let f = stream_of queued w.handed damaged ends not_known in
    let k = taken_some start f _ c.in-Some.taken _ _ _ c.in-Some.is (c.in-Ok.ensures.taken start f (c.next_event-event.ensures.stream start f w.at.stream)) in
    let u = c.in-Ok-take_sources.ensures.unspoilt start (with_picture f c.in-Some.taken k.picture) k.stream in
    give_goes start queued w.handed damaged ends c.in-Some.taken first _ _ _ c.give.ensures.told
    (c.give.ensures.at start f first (to_write_still start f c.in-Some.taken first _ (g.P.PayloadPort.hold c.take_capture.new.port)
    (g.P.PayloadPort.hold c.take_sources.new.port) _ _ _ w.at.wrote c.in-Ok-take_sources.ensures.payloads k u))

pub returns-in-Some-clause-stopped : goal.returns-in-Some-clause-stopped
returns-in-Some-clause-stopped g c = λ start queued damaged ends first w.
    let f = stream_of queued w.handed damaged ends not_known in
    let k = taken_some start f _ c.in-Some.taken _ _ _ c.in-Some.is (c.in-Ok.ensures.taken start f (c.next_event-event.ensures.stream start f w.at.stream)) in
    let u = c.in-Ok-take_sources.ensures.unspoilt start (with_picture f c.in-Some.taken k.picture) k.stream in
    give_stops start queued w.handed damaged ends c.in-Some.taken first _ _ _ c.give.ensures.told
    (c.give.ensures.at start f first (to_write_still start f c.in-Some.taken first _ (g.P.PayloadPort.hold c.take_capture.new.port)
    (g.P.PayloadPort.hold c.take_sources.new.port) _ _ _ w.at.wrote c.in-Ok-take_sources.ensures.payloads k u))

pub returns-in-Some-clause-cut : goal.returns-in-Some-clause-cut
returns-in-Some-clause-cut g c = λ start queued damaged ends first w.
    let f = stream_of queued w.handed damaged ends not_known in
    let k = taken_some start f _ c.in-Some.taken _ _ _ c.in-Some.is (c.in-Ok.ensures.taken start f (c.next_event-event.ensures.stream start f w.at.stream)) in
    let u = c.in-Ok-take_sources.ensures.unspoilt start (with_picture f c.in-Some.taken k.picture) k.stream in
    c.give.ensures.cut start f first (to_write_still start f c.in-Some.taken first _ (g.P.PayloadPort.hold c.take_capture.new.port) (g.P.PayloadPort.hold c.take_sources.new.port) _ _ _ w.at.wrote c.in-Ok-take_sources.ensures.payloads k u)

pub returns-in-Some-clause-engine : goal.returns-in-Some-clause-engine
returns-in-Some-clause-engine g c = λ start queued damaged ends first w e. no_engine _ c.give.ensures.stops e

pub returns-in-None-clause-goes : goal.returns-in-None-clause-goes
returns-in-None-clause-goes g c = λ start queued damaged ends first w l.
    let f = stream_of queued w.handed damaged ends not_known in
    let n = taken_none start f _ _ _ _ c.in-None.is (c.in-Ok.ensures.taken start f (c.next_event-event.ensures.stream start f w.at.stream)) in
    still_going start queued damaged ends first _ _ _ w (stream_of_unspoilt start f _ (c.in-Ok-take_sources.ensures.unspoilt start f n.stream)) (c.take_sources.ensures.bytes ∙ (n.handed ∙ c.next_event-event.ensures.bytes))

pub returns-in-None-clause-stopped : goal.returns-in-None-clause-stopped
returns-in-None-clause-stopped g c = λ start queued damaged ends first w l. absurd (cc)

pub returns-in-None-clause-engine : goal.returns-in-None-clause-engine
returns-in-None-clause-engine g c = λ start queued damaged ends first w e. absurd (cc)
