use Rattle.std.proofs.Common.{◌≡◌, ◌+◌, arith, subst}
use Rattle.vc_encode_flow.specs.Shares.{IsSharing}
use Rattle.vc_encode_flow.proofs.tallying.tally_frames.Goals as goal

pub loop-frame-init : goal.loop-frame-init
loop-frame-init g c = record {
  ready = c.requires.ready;
  follows = g.met.P.Port.follows_self _;
  flow = c.requires.flow;
  bound = omega arith;
  shares = λ start format number queued taken h. subst (λ n. IsSharing start format number queued n c.args.tally.now (g.P.PayloadPort.events c.args.port.now)) (omega arith) h;
}

pub loop-frame-preserved : goal.loop-frame-preserved
loop-frame-preserved g c =
    let i = c.loop-frame.invariant in
    let o = c.in-Ok.ensures in
    let a = i.bound in
    let b = o.bound in
    record {
      ready = o.ready;
      follows = g.met.P.Port.follows_on _ _ _ i.follows o.follows;
      flow = o.flow;
      bound = omega (arith, a, b);
      shares = λ start format number queued taken h.
          subst (λ n. IsSharing start format number queued n c.tally_frame.new.tally (g.P.PayloadPort.events c.tally_frame.new.port)) (omega arith) (o.shares start format number queued (taken + c.loop-frame._frame) (i.shares start format number queued taken h));
    }

pub returns-in-Err-clause-engine : goal.returns-in-Err-clause-engine
returns-in-Err-clause-engine g c = λ start format number queued taken h e.
    c.in-Err.ensures.engine start format number queued (taken + c.loop-frame._frame) (c.loop-frame.invariant.shares start format number queued taken h) e

pub returns-clause-shares : goal.returns-clause-shares
returns-clause-shares g c = λ start format number queued taken h.
    let below = c.loop-frame.auto._frame-end in
    let ended = c.loop-frame-test.false in
    let all : c.loop-frame._frame ≡ c.args.count = omega (arith, below, ended) in
    subst (λ n. IsSharing start format number queued (taken + n) c.loop-frame.tally (g.P.PayloadPort.events c.loop-frame.port)) all (c.loop-frame.invariant.shares start format number queued taken h)
