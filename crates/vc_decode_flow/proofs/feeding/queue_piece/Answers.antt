use Rattle.vc_flow.proofs.Results.{on_ok}
use Rattle.vc_decode_flow.proofs.CallsKeepAStream.{piece_queued}
use Rattle.vc_decode_flow.proofs.feeding.queue_piece.Goals as goal

pub returns-clause-stream : goal.returns-clause-stream
returns-clause-stream g c = λ start f n w. on_ok _ (λ q. piece_queued start _ _ f _ _ _ n q w) c.queue_source.ensures.queues
