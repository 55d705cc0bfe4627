-- A coded block, and the samples that it shows.
use Rattle.std.specs.Prelude.{ℕ, List, get_or, map, ℤ, pos, ◌+ℤ◌, Bool}
use Rattle.std.specs.List.{range_with_len}
use Rattle.std.specs.Int.{int_shr}
use Rattle.vc_defs.specs.Planes.{Block, clamped, base_of}

-- a block of this type and these values
abbrev pub block_with : Bool → List ℤ → Block
block_with inter values = record { inter = inter; values = values }

-- the samples of a block from its inverse transform, over this block of the reference
unfoldable pub samples_from : List ℤ → Bool → List ℕ → List ℕ
samples_from y inter old = map (λ k. clamped (int_shr (get_or y k (pos 0)) 6 +ℤ base_of inter old k)) (range_with_len 0 64)
