use Rattle.std.proofs.Common.{rules}
use Rattle.vc_copy.proofs.CopierAnswers.{off_out, off_cap}
use Rattle.vc_copy.proofs.QueuesCountUp.{streamoff_step, streamoff_goes, cap_step}
use Rattle.vc_copy.proofs.Copier.streamoff.Goals as goal

pub returns-in-Out-clause-answers : goal.returns-in-Out-clause-answers
returns-in-Out-clause-answers c =
    off_out c.self.inside.size c.self.inside.out c.self.inside.cap c.self.inside.running c.args.self.now c.args.side c.self.view_is c.if-self.false _ c.in-Out.is c.streamoff.ensures.after

pub returns-in-Cap-clause-answers : goal.returns-in-Cap-clause-answers
returns-in-Cap-clause-answers c =
    off_cap c.self.inside.size c.self.inside.out c.self.inside.cap c.self.inside.running c.args.self.now c.args.side c.self.view_is c.if-self.false _ c.in-Cap.is c.streamoff-in-Cap.ensures.after

pub returns-in-Out-clause-carried : goal.returns-in-Out-clause-carried
returns-in-Out-clause-carried c =
    record {
      step =
          streamoff_step c.self.inside.size c.self.inside.out c.self.inside.cap c.self.inside.running c.args.self.now c.self.view_is c.requires.able.kept _ c.streamoff.ensures.after;
      moves = search rules;
      fit = search rules;
      zeros =
          tt;
      asked =
          λ e. tt;
    }

pub returns-in-Cap-clause-carried : goal.returns-in-Cap-clause-carried
returns-in-Cap-clause-carried c =
    record {
      step =
          cap_step c.self.inside.size c.self.inside.out c.self.inside.cap c.self.inside.running c.args.self.now c.self.view_is c.requires.able.kept _ (streamoff_goes c.self.inside.cap _ c.streamoff-in-Cap.ensures.after);
      moves = search rules;
      fit = search rules;
      zeros =
          tt;
      asked =
          λ e. tt;
    }

pub invariant_of-self : goal.invariant_of-self
invariant_of-self c =
    ((streamoff_goes c.self.inside.out _ c.streamoff.ensures.after).index c.self.inside.source c.self.invariant.0, c.self.invariant.1)

pub invariant_of-self-in-Cap : goal.invariant_of-self-in-Cap
invariant_of-self-in-Cap c =
    (c.self.invariant.0, (streamoff_goes c.self.inside.cap _ c.streamoff-in-Cap.ensures.after).index c.self.inside.dest c.self.invariant.1)
