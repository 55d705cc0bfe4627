use Rattle.vc_wire.proofs.AnsweredBodies.{busy_answered, busy_untold, empty_answered, empty_untold, took_answered, took_untold, on_ok, on_err}
use Rattle.vc_wire.proofs.answer.answer_claim.Goals as goal

pub returns-in-Busy-clause-answered : goal.returns-in-Busy-clause-answered
returns-in-Busy-clause-answered c = λ n history runs faults at.
    on_ok c.put_short.result _ _ c.put_short.ensures.reply
    (λ reply. busy_answered n history c.args.worker c.claim.new.self c.args.out.now.items c.put_short.new.out.items runs faults (c.in-Busy.ensures.done n history at) reply)

pub returns-in-Busy-clause-untold : goal.returns-in-Busy-clause-untold
returns-in-Busy-clause-untold c = λ n history runs faults at.
    on_err c.put_short.result _ _ c.put_short.ensures.untold
    (λ same. busy_untold n history c.args.worker c.claim.new.self c.args.out.now.items c.put_short.new.out.items runs faults (c.in-Busy.ensures.done n history at) same)

pub returns-in-Empty-clause-answered : goal.returns-in-Empty-clause-answered
returns-in-Empty-clause-answered c = λ n history runs faults at.
    on_ok c.put_short-in-Empty.result _ _ c.put_short-in-Empty.ensures.reply
    (λ reply. empty_answered n history c.args.worker c.claim.new.self c.args.out.now.items c.put_short-in-Empty.new.out.items runs faults (c.in-Empty.ensures.done n history at) reply)

pub returns-in-Empty-clause-untold : goal.returns-in-Empty-clause-untold
returns-in-Empty-clause-untold c = λ n history runs faults at.
    on_err c.put_short-in-Empty.result _ _ c.put_short-in-Empty.ensures.untold
    (λ same. empty_untold n history c.args.worker c.claim.new.self c.args.out.now.items c.put_short-in-Empty.new.out.items runs faults (c.in-Empty.ensures.done n history at) same)

pub returns-in-Took-clause-answered : goal.returns-in-Took-clause-answered
returns-in-Took-clause-answered c = λ n history runs faults at.
    on_ok c.put_claimed.result _ _ c.put_claimed.ensures.reply
    (λ reply. took_answered n history c.args.worker c.in-Took.slot c.claim.new.self c.args.out.now.items c.put_claimed.new.out.items runs faults (c.in-Took.ensures.done n history at) reply)

pub returns-in-Took-clause-untold : goal.returns-in-Took-clause-untold
returns-in-Took-clause-untold c = λ n history runs faults at.
    on_err c.put_claimed.result _ _ c.put_claimed.ensures.untold
    (λ same. took_untold n history c.args.worker c.in-Took.slot c.claim.new.self c.args.out.now.items c.put_claimed.new.out.items runs faults (c.in-Took.ensures.done n history at) same)
