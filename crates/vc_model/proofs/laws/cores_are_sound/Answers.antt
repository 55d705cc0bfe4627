use Rattle.vc_model.proofs.CoresAreSound.{cores_are_sound}
use Rattle.vc_model.proofs.laws.cores_are_sound.Goals as goal

pub returns : goal.returns
returns c = cores_are_sound
