use Rattle.vc_model.specs.Answer.{context_answer}
use Rattle.vc_copy.proofs.BeforeMemory.{busy_before, inval_before, busy_open}
use Rattle.vc_copy.proofs.Copier.refusal.Goals as goal

pub returns-in-Out : goal.returns-in-Out
unfolding context_answer
returns-in-Out c =
    rw (c.in-ReqBufs.is, c.in-Out.is, c.reqbufs_refusal.ensures, ← c.self.view_is) (busy_before _ c.self.inside.out.streams)

pub returns-in-Cap : goal.returns-in-Cap
unfolding context_answer
returns-in-Cap c =
    rw (c.in-ReqBufs.is, c.in-Cap.is, c.reqbufs_refusal-in-Cap.ensures, ← c.self.view_is) (busy_before _ c.self.inside.cap.streams)

pub returns-in-Out-side : goal.returns-in-Out-side
unfolding context_answer
returns-in-Out-side c =
    rw (c.in-CreateBufs.is, c.in-Out-side.is, c.create_refusal.ensures, ← c.self.view_is) (inval_before _ _ _)

pub returns-in-Cap-side : goal.returns-in-Cap-side
unfolding context_answer
returns-in-Cap-side c =
    rw (c.in-CreateBufs.is, c.in-Cap-side.is, c.create_refusal-in-Cap-side.ensures, ← c.self.view_is) (inval_before _ _ _)

pub returns-in_default : goal.returns-in_default
unfolding context_answer
returns-in_default c =
    busy_open c.args.self.now c.args.call.now c.requires c.in_default.not-ReqBufs c.in_default.not-CreateBufs
