use Rattle.std.proofs.Common.{subst, arith}
use Rattle.vc_queue.proofs.NewBuffers.{Linking, linking_none, linking_free, linking_more}
use Rattle.vc_queue.proofs.queue.growing.link_new.Goals as goal

pub loop-i-init : goal.loop-i-init
loop-i-init c = linking_none c.args.first c.args.links.now c.requires.apart

pub push_back-requires-clause-free : goal.push_back-requires-clause-free
push_back-requires-clause-free c =
    linking_free c.args.first c.args.links.now c.loop-i.i c.loop-i.links c.requires.apart c.requires.free c.loop-i.invariant

pub loop-i-preserved : goal.loop-i-preserved
loop-i-preserved c =
    linking_more c.args.first c.args.links.now c.loop-i.i c.loop-i.links _ c.requires.apart c.loop-i.invariant c.push_back.ensures.added c.push_back.ensures.apart

pub returns-clause-linked : goal.returns-clause-linked
returns-clause-linked c =
    (subst (λ n. Linking c.args.first c.args.links.now n c.loop-i.links) (omega (arith, c.loop-i.auto.i-end, c.loop-i-test.false)) c.loop-i.invariant).linked

pub returns-clause-apart : goal.returns-clause-apart
returns-clause-apart c = c.loop-i.invariant.apart
