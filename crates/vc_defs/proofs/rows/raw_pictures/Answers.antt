-- Each row is computed.
use Rattle.std.proofs.Common.{refl}
use Rattle.vc_defs.specs.Raw.{raw_of, planes_of}
use Rattle.vc_defs.proofs.rows.raw_pictures.Goals as goal

pub returns : goal.returns
unfolding raw_of planes_of
returns c =
    record {
      in_yu12 = (refl, refl);
      in_nv12 = (refl, refl);
      in_yuyv = (refl, refl);
    }
