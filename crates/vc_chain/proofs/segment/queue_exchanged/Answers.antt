use Rattle.std.proofs.Common.{refl, ap, ◌∙◌}
use Rattle.vc_port.specs.Payloads.{bytes_out}
use Rattle.vc_flow.proofs.CallsHandOut.{bytes_stay}
use Rattle.vc_flow.proofs.Results.{on_ok}
use Rattle.vc_chain.proofs.PicturesGoOver.{exchanged}
use Rattle.vc_chain.proofs.segment.queue_exchanged.Goals as goal

pub returns-clause-queues : goal.returns-clause-queues
returns-clause-queues g c = λ bytes b.
    let long = c.are_as_long.ensures c.if-not-are_as_long.false in
    let x = c.exchange.ensures in
    on_ok _ (λ d. exchanged _ _ _ _ _ _ _ _ _ _ bytes long c.requires.there x.mine x.events.0 d b) c.call_done.ensures.does

pub returns-clause-bytes : goal.returns-clause-bytes
returns-clause-bytes g c = bytes_stay _ _ _ _ _ _ c.call_done.ensures.made.1 refl ∙ ap bytes_out c.exchange.ensures.events.0
