-- A block shows what its inverse transform shows.
use Rattle.std.proofs.Common.{◌≡◌, ap, ℕ, List}
use Rattle.std.specs.Prelude.{ℤ, Bool, not}
use Rattle.vc_defs.specs.Walsh.{transformed}
use Rattle.vc_defs.specs.Quantiser.{dequantised}
use Rattle.vc_defs.specs.Planes.{samples_of}
use Rattle.vc_coder.specs.Blocks.{block_with, samples_from}

pub shown_is : (y values : List ℤ) (inter : Bool) (old : List ℕ) → y ≡ transformed (dequantised values (not inter)) → samples_from y inter old ≡ samples_of (block_with inter values) old
unfolding samples_from samples_of
shown_is y values inter old is = ap (λ z. samples_from z inter old) is
