-- Blocks that are shown in a plane.
use Rattle.std.specs.Prelude.{◌≡◌, ℕ, ◌*◌, ◌<◌, ◌≤◌, List, get_or}
use Rattle.vc_defs.specs.Planes.{Block, block_of, samples_of}
use Rattle.vc_block.specs.Places.{block_number, place_in_block}

-- the blocks from one number to another show one coded block, each over the reference's block of its number, and all
-- other samples are as before
pub record AreShown (old new : List ℕ) (width height from to : ℕ) (block : Block) : Type 0 where
  pub shown : (j : ℕ) → j < width * height → from ≤ block_number width j → block_number width j < to →
      get_or new j 0 ≡ get_or (samples_of block (block_of old width height (block_number width j))) (place_in_block width j) 0
  pub before : (j : ℕ) → block_number width j < from → get_or new j 0 ≡ get_or old j 0
  pub behind : (j : ℕ) → to ≤ block_number width j → get_or new j 0 ≡ get_or old j 0
