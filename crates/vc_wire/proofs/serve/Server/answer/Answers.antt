use Rattle.std.proofs.Common.{◌+◌, length, ap, refl}
use Rattle.vc_wire.specs.Ends.{outside, standing}
use Rattle.vc_wire.proofs.ServingGoesOn.{out_passed, front_cut, untold_cut}
use Rattle.vc_wire.proofs.ServingEnds.{message_answered}
use Rattle.vc_wire.proofs.serve.Server.answer.Goals as goal

pub returns-in_default-clause-stopped : goal.returns-in_default-clause-stopped
returns-in_default-clause-stopped g c = λ n all rest before e.
    untold_cut n all rest c.args.self.now before _ _ _ e c.answer_body.ensures.runs_stay c.answer_body.ensures.faults_stay

pub returns-in-Ok-write_many-clause-served : goal.returns-in-Ok-write_many-clause-served
returns-in-Ok-write_many-clause-served g c = λ n all rest before e.
    out_passed n all rest _ c.write_many.new.out before _ _
    (message_answered n all rest c.body-body.result.now c.args.self.now c.answer_body.new.desk c.answer_body.new.out _ c.either-self.result c.in-Ok.fault before _ _
    _ e c.body-body.ensures (c.in-Ok.ensures.answered n) c.answer_body.ensures.steps refl c.either-self.ensures) c.in-Ok-write_many.ensures.passed

pub returns-in-Err-clause-stopped : goal.returns-in-Err-clause-stopped
returns-in-Err-clause-stopped g c = λ n all rest before e.
    front_cut n all rest _ before _ _
    (message_answered n all rest c.body-body.result.now c.args.self.now c.answer_body.new.desk c.answer_body.new.out _ c.either-self.result c.in-Ok.fault before _ _
    _ e c.body-body.ensures (c.in-Ok.ensures.answered n) c.answer_body.ensures.steps refl c.either-self.ensures) c.in-Err.ensures.front
