use Rattle.std.proofs.Common.{[], sym, subst, ◌∙◌}
use Rattle.vc_base.specs.declared.Errno.TheVariants.{NoTty}
use Rattle.vc_base.specs.declared.Call.TheVariants.{Open}
use Rattle.vc_base.specs.declared.Reply.TheVariants.{Refused}
use Rattle.vc_model.specs.Context.{Context, Slot}
use Rattle.vc_model.specs.Answer.{context_answer}
use Rattle.vc_context.specs.Contexts.{GivesWithMemory}
use Rattle.vc_core.specs.Slots.{IsAnswer}
use Rattle.vc_context.specs.Payloads.{handed_over}
use Rattle.vc_core.proofs.SlotsAnswer.{closed_view, copying_view, encoding_view, decoding_view, open_answers, closed_refuses, opened_fits}
use Rattle.vc_core.proofs.slot.Slot.answer.Goals as goal

pub returns-in-Copying-clause-answers : goal.returns-in-Copying-clause-answers
returns-in-Copying-clause-answers c =
    open_answers c.args.self.now c.in-Copying.copier.value c.answer.new.self c.args.call.now (handed_over c.args.call.now c.args.hold.now)
    c.answer.result (copying_view c.self.inside.content c.args.self.now c.in-Copying.copier c.self.view_is c.in-Copying.is)
    (subst
    (λ (x : Context). GivesWithMemory (context_answer x c.args.call.now (handed_over c.args.call.now c.args.hold.now)) c.answer.result c.answer.new.self)
    c.deref_mut.ensures.value c.answer.ensures.answers)

pub returns-in-Some-clause-fit : goal.returns-in-Some-clause-fit
returns-in-Some-clause-fit c =
    opened_fits c.args.self.now c.open.new.self c.in-Some.kind c.open.result c.args.hold.now
    (closed_view c.self.inside.content c.args.self.now c.self.view_is c.in-Closed.is)
    (subst (λ (x : Slot). IsAnswer x (Open c.in-Some.kind) [] c.open.result c.open.new.self) c.self.view_is c.open.ensures.answers) c.requires.fits

pub returns-in-None-clause-answers : goal.returns-in-None-clause-answers
returns-in-None-clause-answers c =
    subst (λ (x : Slot). IsAnswer c.args.self.now c.args.call.now (handed_over c.args.call.now c.args.hold.now) (Refused NoTty) x)
    (sym c.self.view_is)
    (closed_refuses c.args.self.now c.args.call.now (handed_over c.args.call.now c.args.hold.now)
    (closed_view c.self.inside.content c.args.self.now c.self.view_is c.in-Closed.is) (sym c.opened_kind.ensures ∙ c.in-None.is))

pub returns-in-Encoding-clause-answers : goal.returns-in-Encoding-clause-answers
returns-in-Encoding-clause-answers c =
    open_answers c.args.self.now c.in-Encoding.encoder.value c.answer-in-Encoding.new.self c.args.call.now
    (handed_over c.args.call.now c.args.hold.now) c.answer-in-Encoding.result
    (encoding_view c.self.inside.content c.args.self.now c.in-Encoding.encoder c.self.view_is c.in-Encoding.is)
    (subst
    (λ (x : Context). GivesWithMemory (context_answer x c.args.call.now (handed_over c.args.call.now c.args.hold.now)) c.answer-in-Encoding.result c.answer-in-Encoding.new.self)
    c.deref_mut-in-Encoding.ensures.value c.answer-in-Encoding.ensures.answers)

pub returns-in-Decoding-clause-answers : goal.returns-in-Decoding-clause-answers
returns-in-Decoding-clause-answers c =
    open_answers c.args.self.now c.in-Decoding.decoder.value c.answer-in-Decoding.new.self c.args.call.now
    (handed_over c.args.call.now c.args.hold.now) c.answer-in-Decoding.result
    (decoding_view c.self.inside.content c.args.self.now c.in-Decoding.decoder c.self.view_is c.in-Decoding.is)
    (subst
    (λ (x : Context). GivesWithMemory (context_answer x c.args.call.now (handed_over c.args.call.now c.args.hold.now)) c.answer-in-Decoding.result c.answer-in-Decoding.new.self)
    c.deref_mut-in-Decoding.ensures.value c.answer-in-Decoding.ensures.answers)
