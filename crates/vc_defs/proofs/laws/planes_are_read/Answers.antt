use Rattle.vc_defs.proofs.BodiesAreRead.{plane_of_read, plane_is_read}
use Rattle.vc_defs.proofs.laws.planes_are_read.Goals as goal

pub returns : goal.returns
returns c =
    λ raw inter reference width height bytes samples rest ok. (
      plane_of_read bytes raw inter reference width height samples rest ok,
      plane_is_read bytes raw inter reference width height samples rest,
    )
