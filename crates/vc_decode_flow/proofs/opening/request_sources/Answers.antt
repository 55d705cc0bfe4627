use Rattle.std.proofs.Common.{refl}
use Rattle.vc_stream_laws.proofs.OpeningBeginsAStream.{buffers_opened}
use Rattle.vc_flow.proofs.CallsHandOut.{bytes_stay}
use Rattle.vc_flow.proofs.Results.{on_ok}
use Rattle.vc_decode_flow.proofs.opening.request_sources.Goals as goal

pub returns-clause-opened : goal.returns-clause-opened
returns-clause-opened g c = λ start limited w. on_ok _ (λ d. buffers_opened start _ _ limited _ _ _ _ w d.1) c.request_buffers.ensures.does

pub returns-clause-bytes : goal.returns-clause-bytes
returns-clause-bytes g c = bytes_stay _ _ _ _ _ _ c.request_buffers.ensures.made.1 refl
