use Rattle.std.proofs.Common.{◌≡◌, ◌∙◌, refl, arith, subst}
use Rattle.vc_encode_flow.specs.Steps.{HasTaken, with_frames}
use Rattle.vc_encode_flow.proofs.StoppingWritesAPrefix.{none_taken, more_taken, stopped_after}
use Rattle.vc_chain.proofs.collecting.collect_all.Goals as goal

pub loop-frame-preserved : goal.loop-frame-preserved
loop-frame-preserved g c =
    let i = c.loop-frame.invariant in
    let o = c.in-Ok.ensures in
    let still = i.3 in (
      o.ready,
      g.met.P.Port.follows_on _ _ _ i.1 o.follows,
      λ start f first a. let h = i.2 start f first a in more_taken start f _ first _ _ _ _ h (o.taken start (with_frames f h.frames) first h.at),
      o.quiet ∙ still,
      o.flow,
    )

pub loop-frame-init : goal.loop-frame-init
loop-frame-init g c =
    (c.requires.ready, g.met.P.Port.follows_self _, λ start f first a. none_taken start f first _ _ a, refl, c.requires.flow)

pub returns-in-Err-clause-stopped : goal.returns-in-Err-clause-stopped
returns-in-Err-clause-stopped g c = λ start f first a.
    let h = c.loop-frame.invariant.2 start f first a in
    stopped_after start f h.frames first _ _ (c.in-Err.ensures.stopped start (with_frames f h.frames) first h.at)

pub returns-in-Err-clause-engine : goal.returns-in-Err-clause-engine
returns-in-Err-clause-engine g c = λ start f first a e.
    let h = c.loop-frame.invariant.2 start f first a in
    c.in-Err.ensures.engine start (with_frames f h.frames) h.at.flow e

pub returns-clause-taken : goal.returns-clause-taken
returns-clause-taken g c = λ start f first a.
    let below = c.loop-frame.auto._frame-end in
    let ended = c.loop-frame-test.false in
    let all : c.loop-frame._frame ≡ c.args.count = omega (arith, below, ended) in
    subst (λ n. HasTaken start f n first (g.K.Sink.written c.loop-frame.sink) (g.P.PayloadPort.events c.loop-frame.port)) all (c.loop-frame.invariant.2 start f first a)
