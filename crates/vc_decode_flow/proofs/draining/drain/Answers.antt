use Rattle.std.proofs.Common.{refl, false}
use Rattle.vc_stream_laws.specs.Streams.{not_known}
use Rattle.vc_decode_flow.specs.Steps.{stream_of}
use Rattle.vc_flow.proofs.Results.{on_err}
use Rattle.vc_decode_flow.proofs.InputIsDecoded.{drain_began, cut_going}
use Rattle.vc_decode_flow.proofs.draining.drain.Goals as goal

pub returns-in_err-begin_drain-clause-cut : goal.returns-in_err-begin_drain-clause-cut
returns-in_err-begin_drain-clause-cut g c = λ start queued first w.
    on_err _ (cut_going start _ _ queued _ false first _ w c.in_err-begin_drain.ensures.bytes)

pub returns-clause-drained : goal.returns-clause-drained
returns-clause-drained g c = λ start queued first w.
    c.finish_drain.ensures.drained start queued first (drain_began start _ _ queued _ first _ w (c.in_ok-begin_drain.ensures.stream start (stream_of queued w.handed _ false not_known) refl refl w.at.stream) c.in_ok-begin_drain.ensures.bytes)

pub returns-clause-cut : goal.returns-clause-cut
returns-clause-cut g c = λ start queued first w.
    c.finish_drain.ensures.cut start queued first (drain_began start _ _ queued _ first _ w (c.in_ok-begin_drain.ensures.stream start (stream_of queued w.handed _ false not_known) refl refl w.at.stream) c.in_ok-begin_drain.ensures.bytes)

pub returns-clause-engine : goal.returns-clause-engine
returns-clause-engine g c = λ start queued first w e.
    c.finish_drain.ensures.engine start queued first (drain_began start _ _ queued _ first _ w (c.in_ok-begin_drain.ensures.stream start (stream_of queued w.handed _ false not_known) refl refl w.at.stream) c.in_ok-begin_drain.ensures.bytes) e
