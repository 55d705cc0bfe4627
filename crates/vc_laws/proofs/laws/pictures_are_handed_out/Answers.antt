use Rattle.vc_laws.proofs.DoneBuffersHoldPictures.{pictures_are_handed_out, frames_are_handed_out}
use Rattle.vc_laws.proofs.laws.pictures_are_handed_out.Goals as goal

pub returns-clause-decoders : goal.returns-clause-decoders
returns-clause-decoders c = pictures_are_handed_out

pub returns-clause-encoders : goal.returns-clause-encoders
returns-clause-encoders c = frames_are_handed_out
