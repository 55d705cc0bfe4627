use Rattle.std.proofs.Common.{refl}
use Rattle.vc_base.specs.declared.Errno.TheVariants.{Busy, NoEnt, NoTty, Inval}
use Rattle.vc_base.specs.declared.Reply.TheVariants.{Refused}
use Rattle.vc_model.specs.Answer.{context_answer, refused, dqevent_answer}
use Rattle.vc_context.specs.Contexts.{refused_or_blocked}
use Rattle.vc_copy.specs.Copying.{copier_state}
use Rattle.vc_copy.proofs.NeedsNoMemory.{always, no_event}
use Rattle.vc_copy.proofs.Copier.answer.Goals as goal

pub returns-in-EnumFmt-clause-answers : goal.returns-in-EnumFmt-clause-answers
unfolding context_answer
returns-in-EnumFmt-clause-answers c =
    rw c.in-EnumFmt.is (always _ _ _ _ refl c.enum_format.ensures)

pub returns-in-GetFmt-clause-answers : goal.returns-in-GetFmt-clause-answers
unfolding context_answer
returns-in-GetFmt-clause-answers c =
    rw c.in-GetFmt.is (always _ _ _ _ refl c.format.ensures)

pub returns-in-TryFmt-clause-answers : goal.returns-in-TryFmt-clause-answers
unfolding context_answer
returns-in-TryFmt-clause-answers c =
    rw c.in-TryFmt.is (always _ _ _ _ refl c.try_format.ensures)

pub returns-in-SetFmt-clause-answers : goal.returns-in-SetFmt-clause-answers
unfolding context_answer
returns-in-SetFmt-clause-answers c =
    rw c.in-SetFmt.is (always _ _ _ _ refl c.set_format.ensures.answers)

pub returns-in-QueryBuf-clause-answers : goal.returns-in-QueryBuf-clause-answers
unfolding context_answer
returns-in-QueryBuf-clause-answers c =
    rw c.in-QueryBuf.is (always _ _ _ _ refl c.querybuf.ensures)

pub returns-in-QBuf-clause-answers : goal.returns-in-QBuf-clause-answers
unfolding context_answer
returns-in-QBuf-clause-answers c =
    rw c.in-QBuf.is (always _ _ _ _ refl c.qbuf.ensures.answers)

pub returns-in-DqBuf-clause-answers : goal.returns-in-DqBuf-clause-answers
unfolding context_answer
returns-in-DqBuf-clause-answers c =
    rw c.in-DqBuf.is (always _ _ _ _ refl c.dqbuf.ensures.answers)

pub returns-in-StreamOn-clause-answers : goal.returns-in-StreamOn-clause-answers
unfolding context_answer
returns-in-StreamOn-clause-answers c =
    rw c.in-StreamOn.is (always _ _ _ _ refl c.streamon.ensures.answers)

pub returns-in-StreamOff-clause-answers : goal.returns-in-StreamOff-clause-answers
unfolding context_answer
returns-in-StreamOff-clause-answers c =
    rw c.in-StreamOff.is (always _ _ _ _ refl c.streamoff.ensures.answers)

pub returns-in-Poll-clause-answers : goal.returns-in-Poll-clause-answers
unfolding context_answer
returns-in-Poll-clause-answers c =
    rw c.in-Poll.is (always _ _ _ _ refl c.poll.ensures)

pub returns-in-ReqBufs-clause-answers : goal.returns-in-ReqBufs-clause-answers
unfolding context_answer
returns-in-ReqBufs-clause-answers c =
    rw c.in-ReqBufs.is c.reqbufs.ensures.answers

pub returns-in-CreateBufs-clause-answers : goal.returns-in-CreateBufs-clause-answers
unfolding context_answer
returns-in-CreateBufs-clause-answers c =
    rw c.in-CreateBufs.is c.create.ensures.answers

pub returns-in-DecCmd-clause-answers : goal.returns-in-DecCmd-clause-answers
unfolding context_answer
returns-in-DecCmd-clause-answers c =
    rw (c.in-DecCmd.is, c.no_command.ensures, ← c.self.view_is)
    (always _ (refused (copier_state c.self.inside.size c.self.inside.out c.self.inside.cap c.self.inside.running) NoTty) (Refused NoTty)
    (copier_state c.self.inside.size c.self.inside.out c.self.inside.cap c.self.inside.running) refl (record { reply = refl; context = refl }))

pub returns-in-EncCmd-clause-answers : goal.returns-in-EncCmd-clause-answers
unfolding context_answer
returns-in-EncCmd-clause-answers c =
    rw (c.in-EncCmd.is, c.no_command-in-EncCmd.ensures, ← c.self.view_is)
    (always _ (refused (copier_state c.self.inside.size c.self.inside.out c.self.inside.cap c.self.inside.running) NoTty) (Refused NoTty)
    (copier_state c.self.inside.size c.self.inside.out c.self.inside.cap c.self.inside.running) refl (record { reply = refl; context = refl }))

pub returns-in-Subscribe-clause-answers : goal.returns-in-Subscribe-clause-answers
unfolding context_answer
returns-in-Subscribe-clause-answers c =
    rw (c.in-Subscribe.is, c.nothing_such.ensures, ← c.self.view_is)
    (always _ (refused (copier_state c.self.inside.size c.self.inside.out c.self.inside.cap c.self.inside.running) Inval) (Refused Inval)
    (copier_state c.self.inside.size c.self.inside.out c.self.inside.cap c.self.inside.running) refl (record { reply = refl; context = refl }))

pub returns-in-Unsubscribe-clause-answers : goal.returns-in-Unsubscribe-clause-answers
unfolding context_answer
returns-in-Unsubscribe-clause-answers c =
    rw (c.in-Unsubscribe.is, c.nothing_such-in-Unsubscribe.ensures, ← c.self.view_is)
    (always _ (refused (copier_state c.self.inside.size c.self.inside.out c.self.inside.cap c.self.inside.running) Inval) (Refused Inval)
    (copier_state c.self.inside.size c.self.inside.out c.self.inside.cap c.self.inside.running) refl (record { reply = refl; context = refl }))

pub returns-in-GetCtrl-clause-answers : goal.returns-in-GetCtrl-clause-answers
unfolding context_answer
returns-in-GetCtrl-clause-answers c =
    rw (c.in-GetCtrl.is, c.nothing_such-in-GetCtrl.ensures, ← c.self.view_is)
    (always _ (refused (copier_state c.self.inside.size c.self.inside.out c.self.inside.cap c.self.inside.running) Inval) (Refused Inval)
    (copier_state c.self.inside.size c.self.inside.out c.self.inside.cap c.self.inside.running) refl (record { reply = refl; context = refl }))

pub returns-in-SetCtrl-clause-answers : goal.returns-in-SetCtrl-clause-answers
unfolding context_answer
returns-in-SetCtrl-clause-answers c =
    rw (c.in-SetCtrl.is, c.nothing_such-in-SetCtrl.ensures, ← c.self.view_is)
    (always _ (refused (copier_state c.self.inside.size c.self.inside.out c.self.inside.cap c.self.inside.running) Inval) (Refused Inval)
    (copier_state c.self.inside.size c.self.inside.out c.self.inside.cap c.self.inside.running) refl (record { reply = refl; context = refl }))

pub returns-in-DqEvent-clause-answers : goal.returns-in-DqEvent-clause-answers
unfolding context_answer
returns-in-DqEvent-clause-answers c =
    rw (c.in-DqEvent.is, c.refused_or_blocked.ensures, ← c.self.view_is)
    (always _ (dqevent_answer (copier_state c.self.inside.size c.self.inside.out c.self.inside.cap c.self.inside.running) c.in-DqEvent.block)
    (refused_or_blocked c.in-DqEvent.block NoEnt) (copier_state c.self.inside.size c.self.inside.out c.self.inside.cap c.self.inside.running) refl
    (no_event c.self.inside.size c.self.inside.out c.self.inside.cap c.self.inside.running c.in-DqEvent.block))

pub returns-in-Open-clause-answers : goal.returns-in-Open-clause-answers
unfolding context_answer
returns-in-Open-clause-answers c =
    rw c.in-Open.is (always _ (refused c.args.self.now Busy) (Refused Busy) c.args.self.now refl (record { reply = refl; context = refl }))
