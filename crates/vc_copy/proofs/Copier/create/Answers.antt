use Rattle.std.proofs.Common.{rules, ap, subst, ◌∙◌}
use Rattle.vc_context.proofs.NewBuffersAreZeros.{created_zeros, created_asked}
use Rattle.std.specs.Prelude.{OnOk}
use Rattle.vc_base.specs.declared.Side.{Side}
use Rattle.vc_base.specs.declared.Side.TheVariants.{Out, Cap}
use Rattle.vc_model.specs.Context.{Context}
use Rattle.vc_queue.specs.Growing.{AreZero}
use Rattle.vc_base.specs.Buffers.{buffer_count, created}
use Rattle.vc_copy.proofs.CopierAnswers.{create_out, create_cap}
use Rattle.vc_copy.proofs.QueuesCountUp.{create_step, create_goes, cap_step}
use Rattle.vc_copy.proofs.Copier.create.Goals as goal

pub returns-in-Out-clause-answers : goal.returns-in-Out-clause-answers
returns-in-Out-clause-answers c =
    create_out c.self.inside.size c.self.inside.out c.self.inside.cap c.self.inside.running c.args.self.now c.args.side c.self.view_is c.args.count c.args.length _ c.create.result _ c.in-Out.is c.create.ensures.answer c.created.ensures

pub returns-in-Out-clause-carried : goal.returns-in-Out-clause-carried
returns-in-Out-clause-carried c =
    record {
      step =
          create_step c.self.inside.size c.self.inside.out c.self.inside.cap c.self.inside.running c.args.self.now c.self.view_is c.requires.able.kept _ c.args.count c.args.length _ c.create.ensures.answer.state;
      moves = search rules;
      fit = search rules;
      zeros =
          rw c.in-Out.is
          (created_zeros c.args.self.now Out c.self.inside.out c.args.count c.args.length _ c.create.ensures.answer.found c.create.result c.created.result _ c.create.ensures.answer.answer c.created.ensures
          (subst (λ (s : Side). OnOk c.create.result (AreZero s (buffer_count c.self.inside.out) (created c.self.inside.out c.args.count) c.args.length c.create.new.hold))
          (ap (λ (x : Context). x.out.side) c.self.view_is ∙ c.requires.able.kept.out_side) c.create.ensures.zeros));
      asked =
          created_asked c.args.count c.create.result c.created.result c.created.ensures c.create.ensures.asked;
    }

pub returns-in-Cap-clause-answers : goal.returns-in-Cap-clause-answers
returns-in-Cap-clause-answers c =
    create_cap c.self.inside.size c.self.inside.out c.self.inside.cap c.self.inside.running c.args.self.now c.args.side c.self.view_is c.args.count
    c.args.length _ c.create-in-Cap.result _ c.in-Cap.is c.create-in-Cap.ensures.answer c.created-in-Cap.ensures

pub returns-in-Cap-clause-carried : goal.returns-in-Cap-clause-carried
returns-in-Cap-clause-carried c =
    record {
      step =
          cap_step c.self.inside.size c.self.inside.out c.self.inside.cap c.self.inside.running c.args.self.now c.self.view_is c.requires.able.kept _ (create_goes c.self.inside.cap _ c.args.count c.args.length _ c.create-in-Cap.ensures.answer.state);
      moves = search rules;
      fit = search rules;
      zeros =
          rw c.in-Cap.is
          (created_zeros c.args.self.now Cap c.self.inside.cap c.args.count c.args.length _ c.create-in-Cap.ensures.answer.found c.create-in-Cap.result c.created-in-Cap.result _ c.create-in-Cap.ensures.answer.answer c.created-in-Cap.ensures
          (subst (λ (s : Side). OnOk c.create-in-Cap.result (AreZero s (buffer_count c.self.inside.cap) (created c.self.inside.cap c.args.count) c.args.length c.create-in-Cap.new.hold))
          (ap (λ (x : Context). x.cap.side) c.self.view_is ∙ c.requires.able.kept.cap_side) c.create-in-Cap.ensures.zeros));
      asked =
          created_asked c.args.count c.create-in-Cap.result c.created-in-Cap.result c.created-in-Cap.ensures c.create-in-Cap.ensures.asked;
    }

pub invariant_of-self : goal.invariant_of-self
invariant_of-self c =
    ((create_goes c.self.inside.out _ c.args.count c.args.length _ c.create.ensures.answer.state).index c.self.inside.source c.self.invariant.0, c.self.invariant.1)

pub invariant_of-self-in-Cap : goal.invariant_of-self-in-Cap
invariant_of-self-in-Cap c =
    (c.self.invariant.0, (create_goes c.self.inside.cap _ c.args.count c.args.length _ c.create-in-Cap.ensures.answer.state).index c.self.inside.dest c.self.invariant.1)
