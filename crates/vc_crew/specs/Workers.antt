-- What a worker did, and what its engine's counts tell of it.
use Rattle.std.specs.Prelude.{ℕ, ◌≡◌, ◌+◌, None, List, [], ◌∷◌}
use Rattle.vc_shared.specs.Handles.{DeviceId}
use Rattle.vc_shared.specs.Workers.{WorkerState, new_worker, IsWorker}
use Rattle.vc_shared.specs.AsStation.{station_job, worked}
use Rattle.vc_shared.specs.Following.{WorkerFollows}
use Rattle.vc_worker.specs.Turns.{Gained}

-- The seat is the same worker's, and has no job. What was added to what it did is claims, each with its finish, and the counts of
-- the engine rose by these.
pub record HasWorked (old new : WorkerState) (runs runs' faults faults' : ℕ) : Type 0 where
  pub follows : WorkerFollows old new
  pub gained : Gained (worked old) (worked new) runs runs' faults faults'
  pub ready : IsWorker new
  pub idle : station_job new ≡ None

-- The seats are those of the workers from this number on, each of which worked with the engine at its place. The engines behind
-- them are as they were.
abbrev pub HaveWorked : {E : Type 0} → (E → ℕ) → (E → ℕ) → DeviceId → ℕ → List WorkerState → List E → List E → Type 0
HaveWorked runs faults device number [] old new = new ≡ old
HaveWorked runs faults device number (s ∷ ss) (e ∷ es) (e' ∷ es') =
    HasWorked (new_worker device number) s (runs e) (runs e') (faults e) (faults e') × HaveWorked runs faults device (number + 1) ss es es'
HaveWorked runs faults device number (s ∷ ss) [] new = ⊥
HaveWorked runs faults device number (s ∷ ss) (e ∷ es) [] = ⊥
