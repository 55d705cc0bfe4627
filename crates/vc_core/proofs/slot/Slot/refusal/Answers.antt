use Rattle.std.proofs.Common.{◌≡◌, [], false, subst}
use Rattle.vc_model.specs.Context.{Context}
use Rattle.vc_model.specs.Answer.{context_answer}
use Rattle.vc_model.specs.Core.{unless_memory}
use Rattle.vc_core.proofs.BeforeMemory.{slot_closed, slot_open}
use Rattle.vc_core.proofs.SlotsAnswer.{closed_view, copying_view, encoding_view, decoding_view}
use Rattle.vc_core.proofs.slot.Slot.refusal.Goals as goal

pub returns-in-Closed : goal.returns-in-Closed
returns-in-Closed c =
    slot_closed c.args.self.now c.args.call.now c.closed_refusal.result (closed_view c.self.inside.content c.args.self.now c.self.view_is c.in-Closed.is) c.closed_refusal.ensures

pub returns-in-Copying : goal.returns-in-Copying
returns-in-Copying c =
    slot_open c.args.self.now c.in-Copying.copier.value c.args.call.now c.refusal.result
    (copying_view c.self.inside.content c.args.self.now c.in-Copying.copier c.self.view_is c.in-Copying.is)
    (subst (λ (x : Context). c.refusal.result ≡ unless_memory (context_answer x c.args.call.now [] false).reply) c.deref.ensures c.refusal.ensures)

pub returns-in-Encoding : goal.returns-in-Encoding
returns-in-Encoding c =
    slot_open c.args.self.now c.in-Encoding.encoder.value c.args.call.now c.refusal-in-Encoding.result
    (encoding_view c.self.inside.content c.args.self.now c.in-Encoding.encoder c.self.view_is c.in-Encoding.is)
    (subst (λ (x : Context). c.refusal-in-Encoding.result ≡ unless_memory (context_answer x c.args.call.now [] false).reply) c.deref-in-Encoding.ensures c.refusal-in-Encoding.ensures)

pub returns-in-Decoding : goal.returns-in-Decoding
returns-in-Decoding c =
    slot_open c.args.self.now c.in-Decoding.decoder.value c.args.call.now c.refusal-in-Decoding.result
    (decoding_view c.self.inside.content c.args.self.now c.in-Decoding.decoder c.self.view_is c.in-Decoding.is)
    (subst (λ (x : Context). c.refusal-in-Decoding.result ≡ unless_memory (context_answer x c.args.call.now [] false).reply) c.deref-in-Decoding.ensures c.refusal-in-Decoding.ensures)
