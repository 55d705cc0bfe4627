use Rattle.vc_copy.proofs.CopierAnswers.{on_out, on_cap}
use Rattle.vc_copy.proofs.QueuesCountUp.{streamon_step, streamon_goes, cap_step}
use Rattle.vc_copy.proofs.Copier.streamon.Goals as goal

pub returns-in-Out-clause-answers : goal.returns-in-Out-clause-answers
returns-in-Out-clause-answers c =
    on_out c.self.inside.size c.self.inside.out c.self.inside.cap c.self.inside.running c.args.self.now c.args.side c.self.view_is _ c.streamon.result _ c.in-Out.is c.streamon.ensures.answer c.streamon.ensures.after c.told.ensures

pub returns-in-Cap-clause-answers : goal.returns-in-Cap-clause-answers
returns-in-Cap-clause-answers c =
    on_cap c.self.inside.size c.self.inside.out c.self.inside.cap c.self.inside.running c.args.self.now c.args.side c.self.view_is _
    c.streamon-in-Cap.result _ c.in-Cap.is c.streamon-in-Cap.ensures.answer c.streamon-in-Cap.ensures.after c.told-in-Cap.ensures

pub returns-in-Out-clause-step : goal.returns-in-Out-clause-step
returns-in-Out-clause-step c =
    streamon_step c.self.inside.size c.self.inside.out c.self.inside.cap c.self.inside.running c.args.self.now c.self.view_is c.requires.kept _ _ c.streamon.ensures.after

pub returns-in-Cap-clause-step : goal.returns-in-Cap-clause-step
returns-in-Cap-clause-step c =
    cap_step c.self.inside.size c.self.inside.out c.self.inside.cap c.self.inside.running c.args.self.now c.self.view_is c.requires.kept _ (streamon_goes c.self.inside.cap _ _ c.streamon-in-Cap.ensures.after)

pub invariant_of-self : goal.invariant_of-self
invariant_of-self c =
    ((streamon_goes c.self.inside.out _ _ c.streamon.ensures.after).index c.self.inside.source c.self.invariant.0, c.self.invariant.1)

pub invariant_of-self-in-Cap : goal.invariant_of-self-in-Cap
invariant_of-self-in-Cap c =
    (c.self.invariant.0, (streamon_goes c.self.inside.cap _ _ c.streamon-in-Cap.ensures.after).index c.self.inside.dest c.self.invariant.1)
