use Rattle.std.proofs.Common.{subst, arith}
use Rattle.vc_queue.proofs.NewBuffers.{Handing, handing_none, handing_there, handing_more}
use Rattle.vc_queue.proofs.queue.growing.hand_over.Goals as goal

pub loop-i-init : goal.loop-i-init
loop-i-init c = handing_none c.args.side c.args.first c.args.payloads.now c.args.hold.now

pub unreachable-requires : goal.unreachable-requires
unreachable-requires c =
    handing_there c.args.side c.args.first c.args.number c.args.payloads.now c.args.hold.now c.loop-i.i c.loop-i.payloads c.loop-i.hold c.loop-i.invariant c.requires.there c.loop-i-test.true c.in_default.ensures.value

pub loop-i-preserved : goal.loop-i-preserved
loop-i-preserved c =
    handing_more c.args.side c.args.first c.args.payloads.now c.args.hold.now c.loop-i.i c.loop-i.payloads c.loop-i.hold c.take.new.self c.put.new.self c.in-Some.payload.items c.loop-i.invariant c.in-Some.ensures.value c.take.ensures.after c.put.ensures.after c.put.ensures.there

pub returns : goal.returns
returns c =
    (subst (λ n. Handing c.args.side c.args.first c.args.payloads.now c.args.hold.now n c.loop-i.payloads c.loop-i.hold) (omega (arith, c.loop-i.auto.i-end, c.loop-i-test.false)) c.loop-i.invariant).gone
