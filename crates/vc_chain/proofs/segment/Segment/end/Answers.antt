use Rattle.vc_chain.specs.Segments.{segment_of}
use Rattle.vc_chain.proofs.SegmentsGoOn.{cut, coded_all}
use Rattle.vc_chain.proofs.segment.Segment.end.Goals as goal

pub returns-in-Err-clause-stopped : goal.returns-in-Err-clause-stopped
returns-in-Err-clause-stopped g c = λ start format rates pictures first w.
    cut start format rates pictures w.frames first _ _ (c.in-Err.ensures.stopped start (segment_of format rates pictures w.frames) first w.at)

pub returns-in-Err-clause-engine : goal.returns-in-Err-clause-engine
returns-in-Err-clause-engine g c = λ start format rates pictures first w e.
    c.in-Err.ensures.engine start (segment_of format rates pictures w.frames) first w.at e

pub returns-clause-ended : goal.returns-clause-ended
returns-clause-ended g c = λ start format rates pictures first w.
    let h = c.in-Ok.ensures.taken start (segment_of format rates pictures w.frames) first w.at in
    let o = c.close_slot.ensures in
    coded_all start format rates pictures _ first _ _ _ _ _ w h o.closed o.bytes o.finishes
