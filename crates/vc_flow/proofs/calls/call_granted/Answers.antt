use Rattle.std.proofs.Common.{◌≡◌, ⊎_elim, subst}
use Rattle.vc_base.specs.declared.Errno.TheVariants.{NoMem}
use Rattle.vc_base.specs.declared.Reply.{Reply}
use Rattle.vc_base.specs.declared.Reply.TheVariants.{Done, Refused}
use Rattle.vc_port.specs.Payloads.{IsCallOn}
use Rattle.vc_flow.proofs.calls.call_granted.Goals as goal

pub returns-clause-lacks : goal.returns-clause-lacks
returns-clause-lacks g c =
    let old = g.P.PayloadPort.events c.args.port.now in
    let before = g.P.PayloadPort.hold c.args.port.now in
    let new = g.P.PayloadPort.events c.call_on-told.new.port in
    let after = g.P.PayloadPort.hold c.call_on-told.new.port in
    let does = c.call_on-told.ensures.does in
    let both = c.requires.granted _ _ _ does in
    ⊎_elim (λ (e : c.call_on-told.result ≡ Done). absurd (c.in_default.not-Done e)) (λ (e : c.call_on-told.result ≡ Refused NoMem). subst (λ (r : Reply). IsCallOn old before c.args.call.now r new after) e does) both

pub returns-clause-made : goal.returns-clause-made
returns-clause-made g c = (_, c.call_on-told.ensures.does)
