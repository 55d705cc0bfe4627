use Rattle.vc_defs.proofs.DecodedIsPicture.{decoded_is_picture}
use Rattle.vc_defs.proofs.laws.decoded_is_picture.Goals as goal

pub returns : goal.returns
returns c = decoded_is_picture
