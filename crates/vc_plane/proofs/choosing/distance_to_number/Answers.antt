use Rattle.std.proofs.Common.{◌∙◌, ap, get_or, replicate}
use Rattle.std.specs.Prelude.{◌-ℤ◌, pos, unsigned_abs}
use Rattle.std.proofs.lemmas.List.{get_or-replicate}
use Rattle.vc_plane.proofs.SumsByPlace.{same_sums}
use Rattle.vc_plane.proofs.choosing.distance_to_number.Goals as goal

pub returns : goal.returns
returns c =
    c.distance_to_block.ensures
    ∙ same_sums (λ k. unsigned_abs (pos (get_or c.args.block.now k 0) -ℤ pos (get_or (replicate 64 c.args.other) k 0))) (λ k. unsigned_abs (pos (get_or c.args.block.now k 0) -ℤ pos c.args.other)) 64
    (λ k h. ap (λ n. unsigned_abs (pos (get_or c.args.block.now k 0) -ℤ pos n)) (get_or-replicate 64 k c.args.other 0 h))
