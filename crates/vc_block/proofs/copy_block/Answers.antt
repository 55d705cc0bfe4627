use Rattle.std.proofs.Common.{◌≡◌, ◌∙◌, ap, ℕ, ◌*◌, ◌/◌, ◌%◌, List}
use Rattle.vc_defs.specs.Planes.{blocks_across, block_of}
use Rattle.vc_block.specs.Places.{block_from}
use Rattle.vc_block.proofs.copy_block.Goals as goal

-- a block of a plane begins at its corner
from_corner : (plane block : List ℕ) (width height number left top : ℕ) → left ≡ 8 * (number % blocks_across width) → top ≡ 8 * (number / blocks_across width) → block ≡ block_from plane width height left top → block ≡ block_of plane width height number
unfolding block_from block_of
from_corner plane block width height number left top l t is =
    is ∙ ap (λ x. block_from plane width height x top) l ∙ ap (λ y. block_from plane width height (8 * (number % blocks_across width)) y) t

pub returns-then-top-height : goal.returns-then-top-height
returns-then-top-height c =
    from_corner c.args.plane.now c.copy_inner_block.new.block c.args.width c.args.height c.args.spot.now.number c.args.spot.now.left c.args.spot.now.top c.requires.spot.left c.requires.spot.top c.copy_inner_block.ensures

pub returns-else-left-width : goal.returns-else-left-width
returns-else-left-width c =
    from_corner c.args.plane.now c.copy_edge_block.new.block c.args.width c.args.height c.args.spot.now.number c.args.spot.now.left c.args.spot.now.top c.requires.spot.left c.requires.spot.top c.copy_edge_block.ensures
