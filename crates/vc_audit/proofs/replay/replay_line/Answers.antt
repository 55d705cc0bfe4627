use Rattle.std.proofs.Common.{◌≡◌, ◌∙◌, Some, inl, ap, sym, subst, rules}
use Rattle.std.specs.Prelude.{IfOk}
use Rattle.vc_model.specs.Script.{AsksCall, AsksClaim, HasUsedBytes}
use Rattle.vc_desk.specs.Asking.{asked_of}
use Rattle.vc_desk.proofs.LinesFromSteps.{ok_map}
use Rattle.vc_audit.specs.Replays.{LineReplayed, Replayed}
use Rattle.vc_audit.proofs.replay.replay_line.Goals as goal

pub returns-in-Some-Call-clause-done : goal.returns-in-Some-Call-clause-done
returns-in-Some-Call-clause-done g c = λ n history at.
    let used : HasUsedBytes c.in-Some-Call.call c.in-Some-Call.bytes = search rules in
    let e : asked_of c.args.asked ≡ AsksCall c.in-Some-Call.slot c.in-Some-Call.call c.in-Some-Call.bytes =
    ap asked_of c.in-Some-Call.is ∙ ap (λ l. asked_of (Some l)) c.in-Some-Call.field-0-is in
    subst (λ a.
    IfOk c.replay_call.result
    (Replayed n history a c.args.report.now (g.E.Engine.fault_count c.args.engine.now) (g.E.Engine.fault_count c.args.engine.now) c.replay_call.new.desk)) (sym e)
    (ok_map c.replay_call.result (λ end. LineReplayed n history (AsksCall c.in-Some-Call.slot c.in-Some-Call.call c.in-Some-Call.bytes) c.args.report.now end c.replay_call.new.desk)
    (Replayed n history (AsksCall c.in-Some-Call.slot c.in-Some-Call.call c.in-Some-Call.bytes) c.args.report.now
    (g.E.Engine.fault_count c.args.engine.now) (g.E.Engine.fault_count c.args.engine.now) c.replay_call.new.desk)
    (λ end made. inl made)
    (subst (λ b. IfOk c.replay_call.result (λ end. LineReplayed n history (AsksCall c.in-Some-Call.slot c.in-Some-Call.call b) c.args.report.now end c.replay_call.new.desk))
    c.as_slice.ensures (c.replay_call.ensures.done n history at (subst (HasUsedBytes c.in-Some-Call.call) (sym c.as_slice.ensures) used))))

pub returns-in-Some-Claim-clause-done : goal.returns-in-Some-Claim-clause-done
returns-in-Some-Claim-clause-done g c = λ n history at.
    let e : asked_of c.args.asked ≡ AsksClaim c.in-Some-Claim.worker =
    ap asked_of c.in-Some-Claim.is ∙ ap (λ l. asked_of (Some l)) c.in-Some-Claim.field-0-is in
    subst (λ a.
    IfOk c.replay_claim.result
    (Replayed n history a c.args.report.now (g.E.Engine.fault_count c.args.engine.now) (g.E.Engine.fault_count c.args.engine.now) c.replay_claim.new.desk)) (sym e)
    (ok_map c.replay_claim.result (λ end. LineReplayed n history (AsksClaim c.in-Some-Claim.worker) c.args.report.now end c.replay_claim.new.desk)
    (Replayed n history (AsksClaim c.in-Some-Claim.worker) c.args.report.now
    (g.E.Engine.fault_count c.args.engine.now) (g.E.Engine.fault_count c.args.engine.now) c.replay_claim.new.desk)
    (λ end made. inl made) (c.replay_claim.ensures.done n history at))
