use Rattle.std.proofs.Common.{◌≡◌, ◌+◌, ◌-◌, arith, subst}
use Rattle.vc_encode_flow.specs.Flows.{IsFlow}
use Rattle.vc_encode_flow.specs.Shares.{IsSharing}
use Rattle.vc_encode_flow.proofs.SharedBytesAreDefined.{sharing_flow}
use Rattle.vc_flow.proofs.Results.{on_ok, same_error}
use Rattle.vc_encode_flow.proofs.FlowsGoOn.{flow_moves}
use Rattle.vc_encode_flow.proofs.sharing.next_source.Goals as goal

pub returns-then-at-lt-BUFFERS-clause-shares : goal.returns-then-at-lt-BUFFERS-clause-shares
returns-then-at-lt-BUFFERS-clause-shares g c = λ start format number queued h.
    let none : c.args.at - 4 ≡ c.args.at + 1 - 4 = omega (arith, c.if-at-lt-BUFFERS.true) in
    subst (λ n. IsSharing start format number queued n c.args.tally.now (g.P.PayloadPort.events c.args.port.now)) none h

pub returns-in-Ok-clause-shares : goal.returns-in-Ok-clause-shares
returns-in-Ok-clause-shares g c = λ start format number queued h.
    let one : c.args.at - 4 + 1 ≡ c.args.at + 1 - 4 = omega (arith, c.if-at-lt-BUFFERS.false) in
    let t = c.in-Ok.ensures.shares start format number queued (c.args.at - 4) h in
    let more : IsFlow start (sharing_flow format number queued t.frames) (g.P.PayloadPort.events c.take_source.new.port) →
    IsSharing start format number queued (c.args.at + 1 - 4) c.tally_frame.new.tally (g.P.PayloadPort.events c.take_source.new.port) = λ w. subst
    (λ n. IsSharing start format number queued n c.tally_frame.new.tally (g.P.PayloadPort.events c.take_source.new.port)) one
    (record { frames = t.frames; count = t.count; flow = w; tallied = t.tallied }) in
    on_ok _ more (c.take_source.ensures.flow start (sharing_flow format number queued t.frames) t.flow)

pub returns-in-Ok-clause-engine : goal.returns-in-Ok-clause-engine
returns-in-Ok-clause-engine g c = λ start format number queued taken h e.
    let t = c.in-Ok.ensures.shares start format number queued taken h in
    c.take_source.ensures.engine start (sharing_flow format number queued t.frames) t.flow e

pub returns-in-Ok-clause-flow : goal.returns-in-Ok-clause-flow
returns-in-Ok-clause-flow g c = flow_moves _ _ _ _ c.take_source.ensures.flow c.in-Ok.ensures.flow

pub returns-in-Err-clause-engine : goal.returns-in-Err-clause-engine
returns-in-Err-clause-engine g c = λ start format number queued taken h e.
    c.in-Err.ensures.engine start format number queued taken h (same_error _ _ e)
