use Rattle.std.proofs.Common.{ap, ◌∙◌, drop}
use Rattle.vc_c.proofs.RepliesInRooms.{replied, lost_reply, untold_reply}
use Rattle.vc_c.proofs.answer.answer_on.Goals as goal

pub returns-in_default-clause-answers : goal.returns-in_default-clause-answers
returns-in_default-clause-answers c = λ n history at.
    untold_reply n history _ _ _ _ _ _ _ _ _ (c.in_default.ensures.untold n history at)

pub returns-in_default-clause-desk : goal.returns-in_default-clause-desk
returns-in_default-clause-desk c =
    let u = c.in_default.ensures.untold c.requires.desk.0 c.requires.desk.1 c.requires.desk.2 in (_, _, u.at)

pub returns-then-room-reply-clause-answers : goal.returns-then-room-reply-clause-answers
returns-then-room-reply-clause-answers c = λ n history at.
    lost_reply n history _ _ _ _ _ _ _ _ _ _ (c.in-Ok.ensures.answered n history at)

pub returns-clause-answers : goal.returns-clause-answers
returns-clause-answers c = λ n history at.
    replied n history _ _ _ _ _ _ _ _ _ _ _ _ (c.in-Ok.ensures.answered n history at) c.new-out.ensures.items
    (c.behind_length-reply.ensures ∙ ap (drop 4) c.deref.ensures.value) c.put_front.ensures
