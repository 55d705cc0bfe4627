use Rattle.std.proofs.Common.{rules, ap, subst, ◌∙◌}
use Rattle.vc_context.proofs.NewBuffersAreZeros.{counted_zeros, counted_asked}
use Rattle.std.specs.Prelude.{min, OnOk}
use Rattle.vc_base.specs.declared.Side.{Side}
use Rattle.vc_base.specs.declared.Side.TheVariants.{Out, Cap}
use Rattle.vc_model.specs.Context.{Context, sizeimage}
use Rattle.vc_queue.specs.Growing.{AreZero}
use Rattle.vc_base.specs.Limits.{most_buffers}
use Rattle.vc_copy.proofs.CopierAnswers.{reqbufs_out, reqbufs_cap}
use Rattle.vc_copy.proofs.QueuesCountUp.{reqbufs_step, reqbufs_goes, cap_step}
use Rattle.vc_copy.proofs.Copier.reqbufs.Goals as goal

pub returns-in-Out-clause-answers : goal.returns-in-Out-clause-answers
returns-in-Out-clause-answers c =
    reqbufs_out c.self.inside.size c.self.inside.out c.self.inside.cap c.self.inside.running c.args.self.now c.args.side c.self.view_is c.args.count _ c.reqbufs.result _ c.in-Out.is c.reqbufs.ensures.answer c.counted.ensures

pub returns-in-Cap-clause-answers : goal.returns-in-Cap-clause-answers
returns-in-Cap-clause-answers c =
    reqbufs_cap c.self.inside.size c.self.inside.out c.self.inside.cap c.self.inside.running c.args.self.now c.args.side c.self.view_is c.args.count _
    c.reqbufs-in-Cap.result _ c.in-Cap.is c.reqbufs-in-Cap.ensures.answer c.counted-in-Cap.ensures

pub returns-in-Out-clause-carried : goal.returns-in-Out-clause-carried
returns-in-Out-clause-carried c =
    record {
      step =
          reqbufs_step c.self.inside.size c.self.inside.out c.self.inside.cap c.self.inside.running c.args.self.now c.self.view_is c.requires.able.kept _ c.args.count _ c.reqbufs.ensures.answer.state;
      moves = search rules;
      fit = search rules;
      zeros =
          rw c.in-Out.is
          (counted_zeros c.args.self.now Out c.args.count c.self.inside.size _ c.reqbufs.ensures.answer.found c.reqbufs.result c.counted.result _ c.reqbufs.ensures.answer.answer c.counted.ensures
          (ap (λ (x : Context). sizeimage x Out) c.self.view_is)
          (subst (λ (s : Side). OnOk c.reqbufs.result (AreZero s 0 (min c.args.count most_buffers) c.self.inside.size c.reqbufs.new.hold))
          (ap (λ (x : Context). x.out.side) c.self.view_is ∙ c.requires.able.kept.out_side) c.reqbufs.ensures.zeros));
      asked =
          counted_asked c.args.count c.reqbufs.result c.counted.result c.counted.ensures c.reqbufs.ensures.asked;
    }

pub returns-in-Cap-clause-carried : goal.returns-in-Cap-clause-carried
returns-in-Cap-clause-carried c =
    record {
      step =
          cap_step c.self.inside.size c.self.inside.out c.self.inside.cap c.self.inside.running c.args.self.now c.self.view_is c.requires.able.kept _
          (reqbufs_goes c.self.inside.cap _ c.args.count c.self.inside.size _ c.reqbufs-in-Cap.ensures.answer.state);
      moves = search rules;
      fit = search rules;
      zeros =
          rw c.in-Cap.is
          (counted_zeros c.args.self.now Cap c.args.count c.self.inside.size _ c.reqbufs-in-Cap.ensures.answer.found c.reqbufs-in-Cap.result c.counted-in-Cap.result _ c.reqbufs-in-Cap.ensures.answer.answer c.counted-in-Cap.ensures
          (ap (λ (x : Context). sizeimage x Cap) c.self.view_is)
          (subst (λ (s : Side). OnOk c.reqbufs-in-Cap.result (AreZero s 0 (min c.args.count most_buffers) c.self.inside.size c.reqbufs-in-Cap.new.hold))
          (ap (λ (x : Context). x.cap.side) c.self.view_is ∙ c.requires.able.kept.cap_side) c.reqbufs-in-Cap.ensures.zeros));
      asked =
          counted_asked c.args.count c.reqbufs-in-Cap.result c.counted-in-Cap.result c.counted-in-Cap.ensures c.reqbufs-in-Cap.ensures.asked;
    }

pub invariant_of-self : goal.invariant_of-self
invariant_of-self c =
    ((reqbufs_goes c.self.inside.out _ c.args.count c.self.inside.size _ c.reqbufs.ensures.answer.state).index c.self.inside.source c.self.invariant.0, c.self.invariant.1)

pub invariant_of-self-in-Cap : goal.invariant_of-self-in-Cap
invariant_of-self-in-Cap c =
    (c.self.invariant.0, (reqbufs_goes c.self.inside.cap _ c.args.count c.self.inside.size _ c.reqbufs-in-Cap.ensures.answer.state).index c.self.inside.dest c.self.invariant.1)
