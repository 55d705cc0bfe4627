use Rattle.std.proofs.Common.{◌++◌, ◌&&◌, length, sym, ap, ◌∙◌, subst}
use Rattle.vc_model.specs.Devices.{slot_of}
use Rattle.vc_model.specs.Script.{first_lines}
use Rattle.vc_script.specs.Texts.{HasUsedBytes, reply_text}
use Rattle.vc_desk.specs.Skips.{seeks_memory}
use Rattle.vc_desk.proofs.LinesFromSteps.{bytes_used}
use Rattle.vc_audit.specs.Replays.{is_want}
use Rattle.vc_audit.proofs.LinesAreReplayed.{lacking_call, made_call, judged_by, and_second, no_lack}
use Rattle.vc_audit.proofs.replay.replay_call.Goals as goal

pub returns-then-branch-clause-done : goal.returns-then-branch-clause-done
returns-then-branch-clause-done c = λ n history at used.
    lacking_call n history c.args.slot c.args.call.now c.args.bytes.now c.args.report.now c.skip.new.self _ (c.skip.ensures.done n history c.args.bytes.now at)
    (sym (ap (is_want c.args.slot c.args.call.now) c.first_line-text.ensures.first)
    ∙ and_second (seeks_memory (slot_of c.args.desk.now.core c.args.slot) c.args.call.now) (is_want c.args.slot c.args.call.now c.first_line-text.result.now) (sym c.in_ok-lacks_memory.ensures ∙ c.if-branch.true))
    (ap length c.first_line-text.ensures.first)

pub put_reply-requires : goal.put_reply-requires
put_reply-requires c =
    subst (HasUsedBytes c.args.call.now c.call-reply.result) (sym c.taken-payload.ensures)
    (bytes_used c.args.call.now c.call-reply.result c.args.bytes.now _
    (λ used. let done = c.call-reply.ensures.done c.requires.desk.0 c.requires.desk.1 c.requires.desk.2 used in (done.handed, done.taken)))

pub returns-clause-done : goal.returns-clause-done
returns-clause-done c = λ n history at used.
    made_call n history c.args.slot c.args.call.now c.args.bytes.now c.args.report.now c.call-reply.result c.args.desk.now c.call-reply.new.self
    c.put_reply.new.out.items c.judge.result at (c.call-reply.ensures.done n history at used)
    (no_lack c.call-reply.result c.tells_lack.result c.tells_lack.ensures c.if-tells_lack.false)
    (sym (ap (λ t. seeks_memory (slot_of c.args.desk.now.core c.args.slot) c.args.call.now && is_want c.args.slot c.args.call.now t) c.first_line-text.ensures.first)
    ∙ (sym c.in_ok-lacks_memory.ensures ∙ c.if-branch.false))
    (c.in_ok-put_reply.ensures.ok
    ∙ (ap (λ t. t ++ reply_text c.args.slot c.args.call.now c.call-reply.result c.taken-payload.result.now) c.new-wanted.ensures.items
    ∙ ap (reply_text c.args.slot c.args.call.now c.call-reply.result) c.taken-payload.ensures))
    (judged_by c.judge.result c.first_line-text.result.now (first_lines c.args.report.now 1) c.as_slice.result.now c.put_reply.new.out.items 1 c.judge.ensures
    c.first_line-text.ensures.first c.as_slice.ensures.value)
