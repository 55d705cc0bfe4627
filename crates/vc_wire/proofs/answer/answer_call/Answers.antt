use Rattle.std.proofs.Common.{sym, subst, arith}
use Rattle.vc_wire.specs.Replies.{HasUsed}
use Rattle.vc_wire.proofs.AnsweredBodies.{has_used, call_answered, call_untold, on_both, on_err}
use Rattle.vc_wire.proofs.answer.answer_call.Goals as goal

pub taken-payload-requires : goal.taken-payload-requires
taken-payload-requires c =
    omega (arith, c.requires.slot, c.requires.desk.2.slots, c.requires.desk.2.users, c.call-reply.ensures.users)

pub put_called-requires : goal.put_called-requires
put_called-requires c =
    let done = c.call-reply.ensures.done c.requires.desk.0 c.requires.desk.1 c.requires.desk.2 c.requires.used in
    subst (HasUsed c.args.call.now c.call-reply.result) (sym c.taken-payload.ensures)
    (has_used c.args.call.now c.call-reply.result done.handed _ done.taken)

pub returns-clause-answered : goal.returns-clause-answered
returns-clause-answered c = λ n history runs faults at.
    on_both c.put_called.result _ _ _ c.put_called.ensures.reply c.put_called.ensures.short
    (λ reply short.
    call_answered n history c.args.slot c.args.call.now c.args.bytes.now c.call-reply.result c.call-reply.new.self c.taken-payload.result.now
    c.args.out.now.items c.put_called.new.out.items runs faults (c.call-reply.ensures.done n history at c.requires.used) c.taken-payload.ensures reply short)

pub returns-clause-untold : goal.returns-clause-untold
returns-clause-untold c = λ n history runs faults at.
    on_err c.put_called.result _ _ c.put_called.ensures.untold
    (λ same.
    call_untold n history c.args.slot c.args.call.now c.args.bytes.now c.call-reply.result c.call-reply.new.self c.args.out.now.items
    c.put_called.new.out.items runs faults (c.call-reply.ensures.done n history at c.requires.used) same)
