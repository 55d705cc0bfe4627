use Rattle.std.proofs.Common.{◌≡◌, ◌<◌, true, false, nat_lt, length, Some, sym, ap, ◌∙◌, arith}
use Rattle.std.specs.Prelude.{◌==◌, slice_index}
use Rattle.std.proofs.lemmas.Grind.{common_steps}
use Rattle.vc_model.specs.Script.{AsksCall}
use Rattle.vc_model.specs.Messages.{call_in, number_at, payload_in}
use Rattle.vc_wire.proofs.ShortBodiesAskNothing.{short_asks, call_asked}
use Rattle.vc_wire.proofs.requests.request_in.Goals as goal

pub returns-then-body-lt-HEAD_SIZE-clause-asked : goal.returns-then-body-lt-HEAD_SIZE-clause-asked
returns-then-body-lt-HEAD_SIZE-clause-asked c = sym (short_asks c.args.slots c.args.body.now (omega arith))

pub returns-in_ok-call-in_default-clause-asked : goal.returns-in_ok-call-in_default-clause-asked
returns-in_ok-call-in_default-clause-asked c =
    let body = c.args.body.now in
    let call = c.in_ok-call-in_default.call in
    let first : 0 < length body = grind (arith, common_steps) in
    let no_claim : (slice_index body 0 == 32) ≡ false = grind (arith, common_steps) in
    let no_finish : (slice_index body 0 == 33) ≡ false = grind (arith, common_steps) in
    let there : nat_lt (number_at body 1) c.args.slots ≡ true = grind (arith, common_steps) in
    let asks : call_in (slice_index body 0) body ≡ Some call = grind (arith, common_steps) in
    let slot : c.number_at-number.result ≡ number_at body 1 = grind (arith, common_steps) in
    ap (λ k. Some (AsksCall k call (payload_in call body))) slot ∙ sym (call_asked c.args.slots body call first no_claim no_finish there asks)
