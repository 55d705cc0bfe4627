use Rattle.std.proofs.Common.{refl}
use Rattle.vc_stream_laws.proofs.OpeningBeginsAStream.{stream_begins}
use Rattle.vc_flow.proofs.CallsHandOut.{bytes_stay}
use Rattle.vc_flow.proofs.Results.{on_ok}
use Rattle.vc_decode_flow.proofs.opening.stream_sources.Goals as goal

pub returns-clause-stream : goal.returns-clause-stream
returns-clause-stream g c = λ start w. on_ok _ (λ d. stream_begins start _ _ _ _ w d) c.call_done.ensures.does

pub returns-clause-bytes : goal.returns-clause-bytes
returns-clause-bytes g c = bytes_stay _ _ _ _ _ _ c.call_done.ensures.made.1 refl
