use Rattle.vc_laws.proofs.PicturesAreInFirst.{pictures_are_in_first}
use Rattle.vc_laws.proofs.laws.pictures_are_in_first.Goals as goal

pub returns : goal.returns
returns c = pictures_are_in_first
