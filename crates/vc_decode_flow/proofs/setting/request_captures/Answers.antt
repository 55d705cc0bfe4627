use Rattle.std.proofs.Common.{refl}
use Rattle.vc_flow.proofs.CallsHandOut.{bytes_stay}
use Rattle.vc_flow.proofs.Results.{on_ok}
use Rattle.vc_decode_flow.proofs.CallsKeepAStream.{quiet_keeps}
use Rattle.vc_decode_flow.proofs.setting.request_captures.Goals as goal

pub returns-clause-stream : goal.returns-clause-stream
returns-clause-stream g c = λ start f w. on_ok _ (λ d. quiet_keeps start _ _ f _ _ _ _ refl refl d.1 w) c.request_buffers.ensures.does

pub returns-clause-bytes : goal.returns-clause-bytes
returns-clause-bytes g c = bytes_stay _ _ _ _ _ _ c.request_buffers.ensures.made.1 refl
