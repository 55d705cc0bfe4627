use Rattle.std.proofs.Common.{refl, true, ◌∙◌}
use Rattle.vc_stream_laws.specs.Streams.{some_stop}
use Rattle.vc_decode_flow.specs.Steps.{stream_of, with_change}
use Rattle.vc_decode_flow.proofs.InputIsDecoded.{drained, going_again}
use Rattle.vc_decode_flow.proofs.draining.pass_stop.Goals as goal

pub returns-in-Ok-true-clause-over : goal.returns-in-Ok-true-clause-over
returns-in-Ok-true-clause-over g c = λ start queued damaged first written h e.
    drained start _ _ queued damaged first written h (c.in-Ok-true.ensures.over start (stream_of queued h.handed damaged true some_stop) refl refl refl h.unspoilt c.in-Ok-true.field-0-test)

pub returns-in-Ok-true-clause-goes : goal.returns-in-Ok-true-clause-goes
returns-in-Ok-true-clause-goes g c = λ start queued damaged first written h e. absurd (cc)

pub returns-in-Ok-clause-over : goal.returns-in-Ok-clause-over
returns-in-Ok-clause-over g c = λ start queued damaged first written h e. absurd (cc)

pub returns-in-Ok-clause-goes : goal.returns-in-Ok-clause-goes
returns-in-Ok-clause-goes g c = λ start queued damaged first written h e.
    let f = stream_of queued h.handed damaged true some_stop in
    going_again start _ _ queued damaged true first written h (c.in-Ok.ensures.stream start (with_change f) refl (c.in-Ok-false.ensures.changed start f refl h.at.stream c.in-Ok-false.field-0-test)) (c.restart.ensures.bytes ∙ c.is_drained.ensures.bytes)
