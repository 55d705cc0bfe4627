use Rattle.vc_laws.proofs.AllIsHandedOut.{decoders_hand_out_pictures}
use Rattle.vc_laws.proofs.laws.decoders_hand_out_pictures.Goals as goal

pub returns : goal.returns
returns c = decoders_hand_out_pictures
