use Rattle.std.proofs.Common.{refl}
use Rattle.vc_base.specs.declared.Errno.TheVariants.{Busy}
use Rattle.vc_base.specs.declared.Reply.TheVariants.{Refused}
use Rattle.vc_model.specs.Answer.{context_answer, refused}
use Rattle.vc_m2m.proofs.CallsLeftOver.{unmoved, dec_gives, enc_gives, on_fits, known_fits}
use Rattle.vc_m2m.proofs.M2mContext.answer.Goals as goal

pub returns-in-EnumFmt-clause-answers : goal.returns-in-EnumFmt-clause-answers
unfolding context_answer
returns-in-EnumFmt-clause-answers c x h ek k = rw c.in-EnumFmt.is (unmoved x c.args.self.now h _ _ (c.enum_format.ensures x h ek))

pub returns-in-GetFmt-clause-answers : goal.returns-in-GetFmt-clause-answers
unfolding context_answer
returns-in-GetFmt-clause-answers c x h ek k = rw c.in-GetFmt.is (unmoved x c.args.self.now h _ _ (c.get_format.ensures x h))

pub returns-in-TryFmt-clause-answers : goal.returns-in-TryFmt-clause-answers
unfolding context_answer
returns-in-TryFmt-clause-answers c x h ek k = rw c.in-TryFmt.is (unmoved x c.args.self.now h _ _ (c.try_format.ensures x h ek))

pub returns-in-QueryBuf-clause-answers : goal.returns-in-QueryBuf-clause-answers
unfolding context_answer
returns-in-QueryBuf-clause-answers c x h ek k = rw c.in-QueryBuf.is (unmoved x c.args.self.now h _ _ (c.querybuf.ensures x h))

pub returns-in-QBuf-clause-answers : goal.returns-in-QBuf-clause-answers
unfolding context_answer
returns-in-QBuf-clause-answers c x h ek k = rw c.in-QBuf.is (c.qbuf.ensures.answers x h ek k)

pub returns-in-QBuf-clause-moves : goal.returns-in-QBuf-clause-moves
returns-in-QBuf-clause-moves c x h k = rw c.in-QBuf.is (c.qbuf.ensures.moves x)

pub returns-in-DqBuf-clause-answers : goal.returns-in-DqBuf-clause-answers
unfolding context_answer
returns-in-DqBuf-clause-answers c x h ek k = rw c.in-DqBuf.is (c.dqbuf.ensures.answers x h)

pub returns-in-StreamOn-clause-answers : goal.returns-in-StreamOn-clause-answers
unfolding context_answer
returns-in-StreamOn-clause-answers c x h ek k = rw c.in-StreamOn.is (c.streamon.ensures.answers x h)

pub returns-in-Subscribe-clause-answers : goal.returns-in-Subscribe-clause-answers
unfolding context_answer
returns-in-Subscribe-clause-answers c x h ek k = rw c.in-Subscribe.is (c.subscribe.ensures.answers x h ek)

pub returns-in-Unsubscribe-clause-answers : goal.returns-in-Unsubscribe-clause-answers
unfolding context_answer
returns-in-Unsubscribe-clause-answers c x h ek k = rw c.in-Unsubscribe.is (c.unsubscribe.ensures.answers x h ek)

pub returns-in-DqEvent-clause-answers : goal.returns-in-DqEvent-clause-answers
unfolding context_answer
returns-in-DqEvent-clause-answers c x h ek k = rw c.in-DqEvent.is (c.dqevent.ensures.answers x h)

pub returns-in-Poll-clause-answers : goal.returns-in-Poll-clause-answers
unfolding context_answer
returns-in-Poll-clause-answers c x h ek k = rw c.in-Poll.is (unmoved x c.args.self.now h _ _ (c.poll.ensures x h))

pub returns-in-Open-clause-answers : goal.returns-in-Open-clause-answers
unfolding context_answer
returns-in-Open-clause-answers c x h ek k =
    rw (c.in-Open.is, c.refused.ensures) (unmoved x c.args.self.now h (refused x Busy) (Refused Busy) (record { reply = refl; context = refl }))

pub returns-in-DecCmd-clause-answers : goal.returns-in-DecCmd-clause-answers
returns-in-DecCmd-clause-answers c x h ek k =
    rw c.in-DecCmd.is (dec_gives x c.args.kind c.in-DecCmd.cmd _ c.is_dec.result _ _ ek c.is_dec.ensures (c.command.ensures.answers x h))

pub returns-in-EncCmd-clause-answers : goal.returns-in-EncCmd-clause-answers
returns-in-EncCmd-clause-answers c x h ek k =
    rw c.in-EncCmd.is (enc_gives x c.args.kind c.in-EncCmd.cmd _ c.is_enc.result _ _ ek c.is_enc.ensures (c.command-in-EncCmd.ensures.answers x h))

pub returns-in-StreamOn-clause-fit : goal.returns-in-StreamOn-clause-fit
returns-in-StreamOn-clause-fit c =
    rw c.streamon.ensures.after (on_fits c.args.self.now c.in-StreamOn.side c.args.hold.now c.requires.fit)

pub returns-in-DecCmd-clause-fit : goal.returns-in-DecCmd-clause-fit
returns-in-DecCmd-clause-fit c =
    rw c.command.ensures.after (known_fits c.is_dec.result c.args.self.now c.in-DecCmd.cmd c.args.hold.now c.requires.fit)

pub returns-in-EncCmd-clause-fit : goal.returns-in-EncCmd-clause-fit
returns-in-EncCmd-clause-fit c =
    rw c.command-in-EncCmd.ensures.after (known_fits c.is_enc.result c.args.self.now c.in-EncCmd.cmd c.args.hold.now c.requires.fit)
