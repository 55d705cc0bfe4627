use Rattle.std.proofs.Common.{sym, subst}
use Rattle.vc_base.specs.declared.Side.TheVariants.{Cap}
use Rattle.vc_queue.specs.Holds.{HoldState, held_payload}
use Rattle.vc_flow.specs.Buffers.{IsThere, HasBytes}
use Rattle.vc_flow.proofs.Results.{on_err, same_error}
use Rattle.vc_chain.proofs.SegmentsGoOn.{one_more, flow_more, cut_here}
use Rattle.vc_chain.proofs.PicturesGoOver.{used_bytes}
use Rattle.vc_chain.proofs.segment.Segment.push.Goals as goal

pub returns-in-Err-clause-engine : goal.returns-in-Err-clause-engine
returns-in-Err-clause-engine g c = λ start format rates pictures first w e.
    c.in-Err.ensures.engine start format rates pictures first w (same_error _ _ e)

pub returns-in_err-queue_exchanged-clause-stopped : goal.returns-in_err-queue_exchanged-clause-stopped
returns-in_err-queue_exchanged-clause-stopped g c = λ start format rates pictures first w.
    on_err _ (cut_here start format rates pictures _ first _ _ _ (c.in-Ok.ensures.coding start format rates pictures first w) c.in_err-queue_exchanged.ensures.bytes)

pub returns-clause-pushed : goal.returns-clause-pushed
returns-clause-pushed g c = λ start format rates pictures first picture b w.
    let same = c.in-Ok.ensures.others.payloads in
    let here = subst (λ (h : HoldState). HasBytes (held_payload h Cap c.args.index) c.args.used picture) (sym same) b in
    one_more start format rates pictures _ first _ _ _ _ picture _ (c.in-Ok.ensures.coding start format rates pictures first w) (c.in_ok-queue_exchanged.ensures.queues picture here)

pub returns-clause-flow : goal.returns-clause-flow
returns-clause-flow g c =
    let same = c.in-Ok.ensures.others.payloads in
    let there = subst (λ (h : HoldState). IsThere (held_payload h Cap c.args.index) c.args.used) (sym same) c.requires.there in
    let u = used_bytes _ _ there in flow_more _ _ _ u.0 _ (c.in_ok-queue_exchanged.ensures.queues u.0 u.1) c.in-Ok.ensures.flow
