use Rattle.std.proofs.Common.{refl, ap, ◌∙◌, subst, sym}
use Rattle.vc_port.specs.Payloads.{bytes_out}
use Rattle.vc_stream_laws.specs.Streams.{IsStream}
use Rattle.vc_flow.proofs.CallsHandOut.{bytes_stay}
use Rattle.vc_decode_flow.proofs.CallsKeepAStream.{quiet_keeps}
use Rattle.vc_decode_flow.proofs.taking.wait_ready.Goals as goal

pub loop-preserved : goal.loop-preserved
loop-preserved g c =
    let i = c.loop.invariant in
    let told = c.call_on.ensures in
    let paused = c.pause.ensures in
    let kept = g.met.P.PayloadPort.pauses_are _ _ paused.pauses in (
      paused.ready,
      g.met.P.Port.follows_on _ _ _ i.1 (g.met.P.Port.follows_on _ _ _ told.follows paused.follows),
      λ start f w. subst (IsStream start f) (sym kept.events) (quiet_keeps start _ _ f _ _ _ _ refl refl told.does (i.2 start f w)),
      ap bytes_out kept.events ∙ (bytes_stay _ _ _ _ _ _ told.does refl ∙ i.3),
    )

pub returns-in_default-clause-stream : goal.returns-in_default-clause-stream
returns-in_default-clause-stream g c = λ start f w.
    quiet_keeps start _ _ f _ _ _ _ refl refl c.call_on.ensures.does (c.loop.invariant.2 start f w)

pub returns-in_default-clause-bytes : goal.returns-in_default-clause-bytes
returns-in_default-clause-bytes g c =
    bytes_stay _ _ _ _ _ _ c.call_on.ensures.does refl ∙ c.loop.invariant.3
