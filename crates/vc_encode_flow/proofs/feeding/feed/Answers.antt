use Rattle.vc_flow.proofs.CallsHandOut.{first_stays}
use Rattle.vc_flow.proofs.Results.{on_ok}
use Rattle.vc_encode_flow.proofs.SourcesGoOn.{picture_queued}
use Rattle.vc_encode_flow.proofs.feeding.feed.Goals as goal

pub returns-clause-flow : goal.returns-clause-flow
returns-clause-flow g c = λ start f w. on_ok _ (λ q. picture_queued start f _ _ _ _ _ q w) c.queue_source.ensures.queues

pub returns-clause-hands : goal.returns-clause-hands
returns-clause-hands g c = λ start bytes h.
    let old = g.P.PayloadPort.events c.args.port.now in
    let new = g.P.PayloadPort.events c.queue_source.new.port in
    first_stays start bytes old new c.queue_source.ensures.bytes h
