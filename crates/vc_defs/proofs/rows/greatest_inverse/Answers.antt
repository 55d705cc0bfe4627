use Rattle.std.proofs.Common.{refl}
use Rattle.vc_defs.specs.Walsh.{transformed, coefficient, walsh}
use Rattle.vc_defs.specs.Quantiser.{dequantised, shift_at}
use Rattle.vc_defs.proofs.rows.greatest_inverse.Goals as goal

pub returns : goal.returns
unfolding transformed coefficient walsh dequantised shift_at
returns c = refl
