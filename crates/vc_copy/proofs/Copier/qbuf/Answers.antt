use Rattle.std.proofs.Common.{rules}
use Rattle.vc_copy.proofs.CopierAnswers.{qbuf_out, qbuf_cap}
use Rattle.vc_copy.proofs.QueuesCountUp.{qbuf_step, qbuf_goes, cap_step}
use Rattle.vc_copy.proofs.Copier.qbuf.Goals as goal

pub returns-in-Out-clause-answers : goal.returns-in-Out-clause-answers
returns-in-Out-clause-answers c =
    qbuf_out c.self.inside.size c.self.inside.out c.self.inside.cap c.self.inside.running c.args.self.now c.args.side c.self.view_is c.args.index
    c.args.used c.args.stamp c.args.hold.now _ c.qbuf.result _ c.in-Out.is c.requires.able.kept c.qbuf.ensures.answer c.qbuf.ensures.after c.told.ensures

pub returns-in-Cap-clause-answers : goal.returns-in-Cap-clause-answers
returns-in-Cap-clause-answers c =
    qbuf_cap c.self.inside.size c.self.inside.out c.self.inside.cap c.self.inside.running c.args.self.now c.args.side c.self.view_is c.args.index
    c.args.used c.args.stamp c.args.hold.now _ c.qbuf-in-Cap.result _ c.in-Cap.is c.requires.able.kept c.qbuf-in-Cap.ensures.answer
    c.qbuf-in-Cap.ensures.after c.told-in-Cap.ensures

pub returns-in-Out-clause-carried : goal.returns-in-Out-clause-carried
returns-in-Out-clause-carried c =
    record {
      step =
          qbuf_step c.self.inside.size c.self.inside.out c.self.inside.cap c.self.inside.running c.args.self.now c.self.view_is c.requires.able.kept c.args.index c.args.used c.self.inside.size c.args.stamp _ _ c.qbuf.ensures.after;
      moves = search rules;
      fit = search rules;
      zeros =
          tt;
      asked =
          λ e. tt;
    }

pub returns-in-Cap-clause-carried : goal.returns-in-Cap-clause-carried
returns-in-Cap-clause-carried c =
    record {
      step =
          cap_step c.self.inside.size c.self.inside.out c.self.inside.cap c.self.inside.running c.args.self.now c.self.view_is c.requires.able.kept _ (qbuf_goes c.self.inside.cap _ c.args.index c.args.used c.args.stamp _ _ c.qbuf-in-Cap.ensures.after);
      moves = search rules;
      fit = search rules;
      zeros =
          tt;
      asked =
          λ e. tt;
    }

pub invariant_of-self : goal.invariant_of-self
invariant_of-self c =
    ((qbuf_goes c.self.inside.out _ c.args.index c.args.used c.args.stamp _ _ c.qbuf.ensures.after).index c.self.inside.source c.self.invariant.0, c.self.invariant.1)

pub invariant_of-self-in-Cap : goal.invariant_of-self-in-Cap
invariant_of-self-in-Cap c =
    (c.self.invariant.0, (qbuf_goes c.self.inside.cap _ c.args.index c.args.used c.args.stamp _ _ c.qbuf-in-Cap.ensures.after).index c.self.inside.dest c.self.invariant.1)
