use Rattle.vc_stream_laws.proofs.CallsOfAClient.{quiet_calls_keep}
use Rattle.vc_stream_laws.proofs.laws.quiet_calls_keep.Goals as goal

pub returns : goal.returns
returns c = quiet_calls_keep
