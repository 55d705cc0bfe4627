use Rattle.std.proofs.Common.{◌∙◌, get_or}
use Rattle.std.specs.Prelude.{◌-ℤ◌, pos, unsigned_abs}
use Rattle.vc_plane.proofs.SumsByPlace.{same_sums}
use Rattle.vc_plane.proofs.choosing.distance_to_block.Goals as goal

pub returns : goal.returns
returns c = c.sum.ensures.value ∙ same_sums (λ k. get_or c.gaps.result k 0) (λ k. unsigned_abs (pos (get_or c.args.block.now k 0) -ℤ pos (get_or c.args.other.now k 0))) 64 c.gaps.ensures
