use Rattle.std.proofs.Common.{refl}
use Rattle.vc_stream_laws.proofs.OpeningBeginsAStream.{opens}
use Rattle.vc_base.specs.declared.Kind.TheVariants.{Dec}
use Rattle.vc_flow.proofs.CallsAreGranted.{open_granted}
use Rattle.vc_flow.proofs.CallsHandOut.{bytes_stay}
use Rattle.vc_flow.proofs.Results.{on_ok}
use Rattle.vc_decode_flow.proofs.opening.open_slot.Goals as goal

pub call_granted-requires-clause-granted : goal.call_granted-requires-clause-granted
call_granted-requires-clause-granted g c = open_granted Dec _ _ c.requires.closed

pub returns-clause-opened : goal.returns-clause-opened
returns-clause-opened g c = on_ok _ (λ d. opens _ _ _ _ c.requires.closed d) c.call_granted.ensures.does

pub returns-clause-bytes : goal.returns-clause-bytes
returns-clause-bytes g c = bytes_stay _ _ _ _ _ _ c.call_granted.ensures.made.1 refl
