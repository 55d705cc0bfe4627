use Rattle.std.proofs.Common.{◌≡◌, ◌+◌, ◌-◌, ◌∙◌, arith, subst, sym, ap, refl}
use Rattle.vc_encode_flow.specs.Shares.{IsSharing}
use Rattle.vc_encode_flow.specs.declared.tallying.Tally.{Tally}
use Rattle.vc_encode_flow.proofs.SharedBytesAreDefined.{fed}
use Rattle.vc_flow.proofs.Results.{passed_on}
use Rattle.vc_encode_flow.proofs.FlowsGoOn.{has_flow}
use Rattle.vc_encode_flow.proofs.sharing.share_pictures.Goals as goal

pub loop-at-init : goal.loop-at-init
loop-at-init g c = record {
  ready = c.requires.ready;
  follows = g.met.P.Port.follows_self _;
  long = refl;
  flow = c.requires.flow;
  bound = let none : c.none-tally.result.bytes ≡ 0 = ap (λ (t : Tally). t.bytes) c.none-tally.ensures in omega (arith, none);
  shares = λ start h. subst (λ t. IsSharing start c.args.format.now c.args.number 0 0 t (g.P.PayloadPort.events c.args.port.now)) (sym c.none-tally.ensures) h;
}

pub loop-at-preserved : goal.loop-at-preserved
loop-at-preserved g c =
    let i = c.loop-at.invariant in
    let a = i.bound in
    let b = c.in_ok-index.ensures.bound in
    let w = c.in_ok-index.ensures.flow in
    record {
      ready = c.in_ok-feed.ensures.ready;
      follows = g.met.P.Port.follows_on _ _ _ (g.met.P.Port.follows_on _ _ _ i.follows c.in_ok-index.ensures.follows) c.in_ok-feed.ensures.follows;
      long = c.fill.auto.out ∙ i.long;
      flow = has_flow _ _ _ (c.in_ok-feed.ensures.flow w.start w.so_far w.flow);
      bound = omega (arith, a, b);
      shares = λ start h.
          fed start _ _ _ _ _ _ _ _ c.fill.ensures (c.in_ok-index.ensures.shares start c.args.format.now c.args.number c.loop-at.at (i.shares start h)) (λ f. c.in_ok-feed.ensures.flow start f);
    }

pub returns-in_err-index-clause-engine : goal.returns-in_err-index-clause-engine
returns-in_err-index-clause-engine g c = λ start h e.
    c.in_err-index.ensures.engine start c.args.format.now c.args.number c.loop-at.at (c.loop-at.at - 4) (c.loop-at.invariant.shares start h) (passed_on _ _ c.from_residual.ensures.1 e)

pub returns-in_err-tally_frames-clause-engine : goal.returns-in_err-tally_frames-clause-engine
returns-in_err-tally_frames-clause-engine g c = λ start h e.
    c.in_err-tally_frames.ensures.engine start c.args.format.now c.args.number c.loop-at.at (c.loop-at.at - 4) (c.loop-at.invariant.shares start h) (passed_on _ _ c.from_residual-in_err-tally_frames.ensures.1 e)

pub returns-clause-through : goal.returns-clause-through
returns-clause-through g c = λ start h.
    let below = c.loop-at.auto.at-end in
    let ended = c.loop-at-test.false in
    let all : c.loop-at.at ≡ c.args.pictures = omega (arith, below, ended) in
    let taken : c.loop-at.at - 4 + c.min.result ≡ c.args.pictures = omega (arith, all, c.min.ensures) in
    let tally = c.tally_frames.new.tally in
    let events = g.P.PayloadPort.events c.tally_frames.new.port in
    let t = c.in_ok-tally_frames.ensures.shares start c.args.format.now c.args.number c.loop-at.at (c.loop-at.at - 4) (c.loop-at.invariant.shares start h) in
    subst (λ n. IsSharing start c.args.format.now c.args.number n c.args.pictures tally events) all (subst (λ n. IsSharing start c.args.format.now c.args.number c.loop-at.at n tally events) taken t)
