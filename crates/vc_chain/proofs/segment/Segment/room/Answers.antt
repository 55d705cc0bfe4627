use Rattle.std.proofs.Common.{arith}
use Rattle.vc_flow.proofs.Results.{on_err, on_ok, same_error}
use Rattle.vc_encode_flow.specs.Steps.{with_frames}
use Rattle.vc_encode_flow.proofs.StoppingWritesAPrefix.{stopped_later}
use Rattle.vc_chain.specs.Segments.{segment_of}
use Rattle.vc_chain.proofs.SegmentsGoOn.{one_less, still, cut}
use Rattle.vc_chain.proofs.segment.Segment.room.Goals as goal

pub returns-in-Err-clause-stopped : goal.returns-in-Err-clause-stopped
returns-in-Err-clause-stopped g c = λ start format rates pictures first w.
    cut start format rates pictures w.frames first _ _ (c.in-Err.ensures.stopped start (segment_of format rates pictures w.frames) first w.at)

pub returns-in-Err-clause-engine : goal.returns-in-Err-clause-engine
returns-in-Err-clause-engine g c = λ start format rates pictures first w e.
    c.in-Err.ensures.engine start (segment_of format rates pictures w.frames) w.at.flow (same_error _ _ e)

pub returns-clause-coding : goal.returns-clause-coding
returns-clause-coding g c = λ start format rates pictures first w.
    let f = segment_of format rates pictures w.frames in
    let h = c.in-Ok.ensures.taken start f first w.at in
    let some = c.if-self-lt-BUFFERS.false in
    let less = one_less start format rates pictures _ _ first _ _ _ _ (omega (arith, some)) w h in
    on_ok _ (λ flow. still start format rates pictures _ first _ _ _ less flow) (c.take_source.ensures.flow start (segment_of format rates pictures less.frames) less.at.flow)

pub returns-clause-stopped : goal.returns-clause-stopped
returns-clause-stopped g c = λ start format rates pictures first w.
    let f = segment_of format rates pictures w.frames in
    let h = c.in-Ok.ensures.taken start f first w.at in
    on_err _ (cut start format rates pictures w.frames first _ _ (stopped_later start f h.frames first _ _ _ h.at (λ bytes. c.take_source.ensures.hands start bytes)))

pub returns-clause-engine : goal.returns-clause-engine
returns-clause-engine g c = λ start format rates pictures first w e.
    let f = segment_of format rates pictures w.frames in
    let h = c.in-Ok.ensures.taken start f first w.at in c.take_source.ensures.engine start (with_frames f h.frames) h.at.flow e
