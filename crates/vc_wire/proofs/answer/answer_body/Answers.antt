use Rattle.std.proofs.Common.{Some, IfOk, sym, ap, ◌∙◌, subst, arith}
use Rattle.vc_model.specs.Messages.{asked_in, payload_in}
use Rattle.vc_model.specs.Script.{HasUsedBytes}
use Rattle.vc_wire.specs.Answers.{IsAnswered}
use Rattle.vc_wire.specs.Requests.{asked_by_request}
use Rattle.vc_wire.proofs.AnsweredBodies.{used_there}
use Rattle.vc_wire.proofs.answer.answer_body.Goals as goal

pub answer_call-requires-clause-used : goal.answer_call-requires-clause-used
answer_call-requires-clause-used g c =
    subst (HasUsedBytes c.in-Some-Call.call) (sym c.payload_in.ensures)
    (used_there _ c.args.body.now c.in-Some-Call.slot c.in-Some-Call.call (payload_in c.in-Some-Call.call c.args.body.now)
    (ap (λ r. asked_by_request (Some r) c.args.body.now) (sym c.in-Some-Call.field-0-is) ∙ c.in-Some-Call.ensures.asked))

pub returns-in-Some-Finish-clause-answered : goal.returns-in-Some-Finish-clause-answered
returns-in-Some-Finish-clause-answered g c = λ n history at.
    subst (λ a. IfOk c.answer_finish.result (λ fault. IsAnswered n history a c.args.out.now.items c.answer_finish.new.out.items fault
    (g.E.Engine.run_count c.args.engine.now) (g.E.Engine.run_count c.answer_finish.new.engine) (g.E.Engine.fault_count c.args.engine.now)
    (g.E.Engine.fault_count c.answer_finish.new.engine) c.answer_finish.new.desk))
    (ap (λ r. asked_by_request (Some r) c.args.body.now) (sym c.in-Some-Finish.field-0-is)
    ∙ (c.in-Some-Finish.ensures.asked ∙ ap (λ k. asked_in k c.args.body.now) (omega (arith, c.len.ensures, at.users))))
    (c.answer_finish.ensures.answered n history at)
