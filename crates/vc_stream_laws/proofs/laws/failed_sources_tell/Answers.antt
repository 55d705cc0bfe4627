use Rattle.vc_stream_laws.proofs.CallsOfAClient.{failed_sources_tell}
use Rattle.vc_stream_laws.proofs.laws.failed_sources_tell.Goals as goal

pub returns : goal.returns
returns c = failed_sources_tell
