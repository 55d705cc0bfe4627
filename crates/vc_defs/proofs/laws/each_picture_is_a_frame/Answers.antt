use Rattle.vc_defs.proofs.EachPictureIsAFrame.{each_picture_is_a_frame}
use Rattle.vc_defs.proofs.laws.each_picture_is_a_frame.Goals as goal

pub returns : goal.returns
returns c = each_picture_is_a_frame
