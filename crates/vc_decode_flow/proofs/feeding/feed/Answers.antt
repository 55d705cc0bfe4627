use Rattle.std.proofs.Common.{◌∙◌, refl, arith, ◌≤◌}
use Rattle.vc_stream_laws.specs.Streams.{with_queued}
use Rattle.vc_decode_flow.proofs.PiecesAreQueued.{fed_none, fed_more}
use Rattle.vc_decode_flow.proofs.feeding.feed.Goals as goal

pub loop-index-init : goal.loop-index-init
loop-index-init g c =
    (c.requires.ready, g.met.P.Port.follows_self _, λ start f left n w r. fed_none start f left _ _ _ _ w r, refl, omega arith)

pub loop-index-preserved : goal.loop-index-preserved
loop-index-preserved g c =
    let i = c.loop-index.invariant in
    let o = c.in-Ok.ensures in
    let a = i.4 in
    let b = o.later in (
      o.ready,
      g.met.P.Port.follows_on _ _ _ i.1 o.follows,
      λ start f left n w r. let h = i.2 start f left n w r in fed_more start f left _ _ _ _ h.bytes (o.fed start (with_queued f h.bytes) left n h.stream h.read),
      o.bytes ∙ i.3,
      omega (arith, a, b),
    )

pub returns-in-Err-clause-long : goal.returns-in-Err-clause-long
returns-in-Err-clause-long g c = λ start f left n w r e.
    let h = c.loop-index.invariant.2 start f left n w r in
    c.in-Err.ensures.long start (with_queued f h.bytes) left n h.stream h.read (cc)
