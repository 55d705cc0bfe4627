use Rattle.std.proofs.Common.{◌∙◌, refl}
use Rattle.vc_decode_flow.proofs.taking.take_sources.Goals as goal

pub loop-source-init : goal.loop-source-init
loop-source-init g c = (c.requires.ready, g.met.P.Port.follows_self _, λ start f w. w, refl, refl)

pub loop-source-preserved : goal.loop-source-preserved
loop-source-preserved g c =
    let i = c.loop-source.invariant in
    let o = c.take_source.ensures in (
      o.ready,
      g.met.P.Port.follows_on _ _ _ i.1 o.follows,
      λ start f w. c.in-Ok-true.ensures.goes_on start f (i.2 start f w) c.in-Ok-true.field-0-test,
      c.in-Ok-true.ensures.payloads ∙ i.3,
      o.bytes ∙ i.4,
    )

pub returns-in-Ok-false-clause-unspoilt : goal.returns-in-Ok-false-clause-unspoilt
returns-in-Ok-false-clause-unspoilt g c = λ start f w.
    c.in-Ok-false.ensures.none start f (c.loop-source.invariant.2 start f w) c.in-Ok-false.field-0-test

pub returns-in-Err-clause-engine : goal.returns-in-Err-clause-engine
returns-in-Err-clause-engine g c = λ start f w e.
    c.in-Err.ensures.engine start f (c.loop-source.invariant.2 start f w) (cc)
