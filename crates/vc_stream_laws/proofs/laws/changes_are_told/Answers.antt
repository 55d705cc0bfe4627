use Rattle.vc_stream_laws.proofs.CallsOfAClient.{changes_are_told}
use Rattle.vc_stream_laws.proofs.laws.changes_are_told.Goals as goal

pub returns : goal.returns
returns c = changes_are_told
