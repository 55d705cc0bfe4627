use Rattle.vc_stream_laws.proofs.CallsOfAClient.{pictures_are_taken}
use Rattle.vc_stream_laws.proofs.laws.pictures_are_taken.Goals as goal

pub returns : goal.returns
returns c = pictures_are_taken
