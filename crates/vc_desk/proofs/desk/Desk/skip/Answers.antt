use Rattle.std.proofs.Common.{sym, subst, []}
use Rattle.vc_model.specs.Script.{HasUsedBytes}
use Rattle.vc_desk.specs.Desks.{CallDone, after}
use Rattle.vc_desk.proofs.SkippedCalls.{found_none, slots_there, used_beside}
use Rattle.vc_desk.proofs.desk.Desk.skip.Goals as goal

pub returns-clause-done : goal.returns-clause-done
returns-clause-done c = λ n history bytes at.
    found_none n history c.args.self.now.core c.args.slot c.args.call.now c.call-reply.result bytes c.call-reply.new.self at.stands
    (slots_there c.args.self.now.core (after n history) c.args.slot at.stands c.requires.slot) c.requires.seeks
    (subst (λ request. CallDone n history c.args.slot request [] c.call-reply.result c.call-reply.new.self) c.refused_beside-refused.ensures
    (c.call-reply.ensures.done n history at
    (subst (λ request. HasUsedBytes request []) (sym c.refused_beside-refused.ensures) (used_beside c.args.call.now))))
