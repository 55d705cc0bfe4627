use Rattle.vc_encode_flow.proofs.SharedBytesAreDefined.{none_tallied}
use Rattle.vc_encode_flow.proofs.tallying.Tally.none.Goals as goal

pub returns : goal.returns
returns c = none_tallied
