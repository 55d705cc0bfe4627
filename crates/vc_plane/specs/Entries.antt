-- What stands where an entry of a plane is looked for.
use Rattle.std.specs.Prelude.{◌≡◌, ℕ, suc, ◌+◌, ◌-◌, ◌<◌, ◌≤◌, List, ℤ, Bool, length, drop, replicate}
use Rattle.std.specs.declared.option.Option.TheVariants.{None}
use Rattle.vc_defs.specs.Planes.{blocks_from, blocks_behind}
use Rattle.vc_coder.specs.Blocks.{block_with}

-- an entry stands there in a frame that may have P blocks or not, where so many blocks are left: it stands for a block
-- of this type and these values and for so many more like it, and has this end
pub record IsEntryRead (bytes : List ℕ) (at : ℕ) (frame : Bool) (left : ℕ) (inter : Bool) (repeats : ℕ) (values : List ℤ) (end : ℕ) : Type 0 where
  pub fits : repeats < left
  pub inside : (at ≤ end) × (end ≤ length bytes)
  pub step : (turns : ℕ) → blocks_from (suc turns) frame left (drop at bytes) ≡ blocks_behind (replicate (repeats + 1) (block_with inter values)) (blocks_from turns frame (left - (repeats + 1)) (drop end bytes))

-- no entry stands there
abbrev pub IsNoEntry : List ℕ → ℕ → Bool → ℕ → Type 0
IsNoEntry bytes at frame left = (turns : ℕ) → blocks_from (suc turns) frame left (drop at bytes) ≡ None
