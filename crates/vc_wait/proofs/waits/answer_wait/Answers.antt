use Rattle.vc_port.proofs.WaitingIsOneCall.{waits_more}
use Rattle.vc_wait.proofs.waits.answer_wait.Goals as goal

pub loop-preserved : goal.loop-preserved
loop-preserved g c =
    let law = g.met.P.Port in
    let port = g.P.Port in
    let i = c.loop.invariant in
    let blocked = c.in-Blocked.ensures in
    let paused = c.pause.ensures in (
      paused.ready,
      (cc),
      law.follows_on _ _ _ i.2 (law.follows_on _ _ _ blocked.follows paused.follows),
      waits_more port.calls port.pauses _ _ _ _ i.3 (record { between = c.call.new.self; blocked = blocked.calls; paused = paused.pauses }),
    )
