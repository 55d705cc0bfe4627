use Rattle.std.proofs.Common.{◌++◌, ap, sym, ◌∙◌, subst, arith}
use Rattle.vc_script.specs.Texts.{HasUsedBytes, reply_text}
use Rattle.vc_desk.proofs.LinesFromSteps.{bytes_used, call_line}
use Rattle.vc_desk.proofs.carry.carry_call.Goals as goal

pub taken-payload-requires : goal.taken-payload-requires
taken-payload-requires c =
    omega (arith, c.requires.slot, c.requires.desk.2.slots, c.requires.desk.2.users, c.call-reply.ensures.users)

pub put_reply-requires : goal.put_reply-requires
put_reply-requires c =
    subst (HasUsedBytes c.args.call.now c.call-reply.result) (sym c.taken-payload.ensures)
    (bytes_used c.args.call.now c.call-reply.result c.args.bytes.now _
    (λ used. let done = c.call-reply.ensures.done c.requires.desk.0 c.requires.desk.1 c.requires.desk.2 used in (done.handed, done.taken)))

pub returns-clause-made : goal.returns-clause-made
returns-clause-made c = λ n history runs faults at used.
    call_line n history c.args.slot c.args.call.now c.args.bytes.now c.call-reply.result c.call-reply.new.self c.put_reply.new.out.items runs faults
    (c.call-reply.ensures.done n history at used)
    (c.in_ok-put_reply.ensures.ok
    ∙ (ap (λ t. t ++ reply_text c.args.slot c.args.call.now c.call-reply.result c.taken-payload.result.now) c.new-text.ensures.items
    ∙ ap (reply_text c.args.slot c.args.call.now c.call-reply.result) c.taken-payload.ensures))
