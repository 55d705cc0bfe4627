-- What is kept between two calls, and how one call goes on where another stopped.
use Rattle.std.specs.Prelude.{◌≡◌, ℕ, ◌+◌, List, length}
use Rattle.vc_base.specs.declared.Stamp.{Stamp}
use Rattle.vc_defs.specs.Finds.{KeptBytes, FedStep}
use Rattle.vc_defs.specs.Laws.{IsTold, kept_at}
use Rattle.vc_resync.specs.declared.feeding.Found.{Found}
use Rattle.vc_resync.specs.Assembling.{AssemblyState, found_of, frame_of, assembly_after}

-- Some bytes were taken, all that they tell was told, but maybe a frame that is known at the last byte, and this is kept.
pub record IsKept (limit : ℕ) (kept : KeptBytes) : Type 0 where
  pub bytes : List ℕ
  pub stamps : List Stamp
  pub told : ℕ
  pub long : length stamps ≡ length bytes
  pub all_told : IsTold bytes limit told
  pub is : kept ≡ kept_at bytes stamps limit told

-- A call answers what another does that begins so many bytes later.
pub record SameAnswer (later : ℕ) (whole rest : FedStep) : Type 0 where
  pub moved : whole.moved ≡ later + rest.moved
  pub found : found_of whole.told ≡ found_of rest.told
  pub frame : frame_of whole.told whole.stamp ≡ frame_of rest.told rest.stamp
  pub kept : whole.kept ≡ rest.kept

-- a call answered so, and left the assembly so
pub record IsAnswered (step : FedStep) (count : ℕ) (found : Found) (before after : AssemblyState) : Type 0 where
  pub moved : count ≡ step.moved
  pub told : found ≡ found_of step.told
  pub leaves : after ≡ assembly_after before step
