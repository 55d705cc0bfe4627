use Rattle.std.proofs.Common.{refl, ap, ◌∙◌}
use Rattle.vc_port.specs.Payloads.{bytes_out}
use Rattle.vc_flow.specs.Calls.{QueuesSource}
use Rattle.vc_flow.proofs.CallsHandOut.{bytes_stay}
use Rattle.vc_flow.proofs.FilledIsQueued.{source_queued}
use Rattle.vc_flow.proofs.Results.{on_ok}
use Rattle.vc_flow.proofs.buffers.queue_source.Goals as goal

pub returns-clause-queues : goal.returns-clause-queues
returns-clause-queues g c =
    on_ok _ (source_queued _ _ _ _ _ _ _ _ _ (c.has_room.ensures c.if-not-has_room.false) c.fill.ensures.payloads c.fill.ensures.events) c.call_done.ensures.does

pub returns-clause-bytes : goal.returns-clause-bytes
returns-clause-bytes g c =
    bytes_stay _ _ _ _ _ _ c.call_done.ensures.made.1 refl ∙ ap bytes_out c.fill.ensures.events
