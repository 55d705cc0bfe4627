-- What a claim and a finish by a worker of a desk came to.
use Rattle.std.specs.Prelude.{ℕ, ◌≡◌, Bool, true, Some, None, List, [], ◌∷◌, ◌++◌}
use Rattle.vc_base.specs.Device.{DeviceEvent, claim, finish}
use Rattle.vc_model.specs.Coder.{the_coder}
use Rattle.vc_model.specs.Runs.{JobData, finish_word}
use Rattle.vc_model.specs.Solo.{Claimed, Finished}
use Rattle.vc_model.specs.Devices.{Told, NoJob, job_of, device_step}
use Rattle.vc_core.specs.Jobs.{Tells}
use Rattle.vc_desk.specs.declared.desk.Desk.{Desk}
use Rattle.vc_desk.specs.declared.ends.ClaimEnd.{ClaimEnd}
use Rattle.vc_desk.specs.declared.ends.ClaimEnd.TheVariants.{Busy, Empty, Took}
use Rattle.vc_desk.specs.declared.ends.FinishEnd.{FinishEnd}
use Rattle.vc_desk.specs.declared.ends.FinishEnd.TheVariants.{Idle, Ended}
use Rattle.vc_desk.specs.Desks.{after, IsDesk}

-- The worker has a job already: nothing happened.
pub record WasBusy (n : ℕ) (history : List DeviceEvent) (worker : ℕ) (desk : Desk) : Type 0 where
  pub slot : ℕ
  pub busy : job_of (after n history) worker ≡ Some slot
  pub at : IsDesk n history desk

-- No slot waited.
pub record WasEmpty (n : ℕ) (history : List DeviceEvent) (worker : ℕ) (desk : Desk) : Type 0 where
  pub free : job_of (after n history) worker ≡ None
  pub waited : (after n history).waiting ≡ []
  pub reply : (device_step the_coder (after n history) (claim worker)).reply ≡ NoJob
  pub at : IsDesk n (history ++ claim worker ∷ []) desk

-- The front slot was claimed.
pub record HasTaken (n : ℕ) (history : List DeviceEvent) (worker slot : ℕ) (desk : Desk) : Type 0 where
  pub rest : List ℕ
  pub free : job_of (after n history) worker ≡ None
  pub waited : (after n history).waiting ≡ slot ∷ rest
  pub reply : (device_step the_coder (after n history) (claim worker)).reply ≡ Told slot Claimed
  pub at : IsDesk n (history ++ claim worker ∷ []) desk
  pub has : job_of (after n (history ++ claim worker ∷ [])) worker ≡ Some slot

-- what a claim came to
abbrev pub ClaimDone : ℕ → List DeviceEvent → ℕ → Desk → ClaimEnd → Type 0
ClaimDone n history worker desk Busy = WasBusy n history worker desk
ClaimDone n history worker desk Empty = WasEmpty n history worker desk
ClaimDone n history worker desk (Took slot) = HasTaken n history worker slot desk

-- The worker has no job: nothing happened.
pub record WasIdle (n : ℕ) (history : List DeviceEvent) (worker : ℕ) (desk : Desk) : Type 0 where
  pub idle : job_of (after n history) worker ≡ None
  pub at : IsDesk n history desk

-- The job of the slot, which the worker had, ended with this word, and with a fault or without.
pub record HasEnded (n : ℕ) (history : List DeviceEvent) (worker slot : ℕ) (word : List ℕ) (fault : Bool) (desk : Desk) : Type 0 where
  pub job : JobData
  pub had : job_of (after n history) worker ≡ Some slot
  pub word_is : word ≡ finish_word the_coder job fault
  pub reply : (device_step the_coder (after n history) (finish worker fault)).reply ≡ Told slot (Finished word)
  pub at : IsDesk n (history ++ finish worker fault ∷ []) desk

-- what a finish by an engine came to, which the engine counts
abbrev pub FinishDone : ℕ → List DeviceEvent → ℕ → Desk → ℕ → ℕ → ℕ → ℕ → FinishEnd → Type 0
FinishDone n history worker desk runs runs' faults faults' Idle =
    WasIdle n history worker desk × (runs' ≡ runs) × (faults' ≡ faults)
FinishDone n history worker desk runs runs' faults faults' (Ended slot word fault) =
    HasEnded n history worker slot word.now fault desk × Tells fault runs runs' faults faults'

-- what a finish with a fault came to, of a job that no engine ran
abbrev pub GivenUp : ℕ → List DeviceEvent → ℕ → Desk → FinishEnd → Type 0
GivenUp n history worker desk Idle = WasIdle n history worker desk
GivenUp n history worker desk (Ended slot word fault) = HasEnded n history worker slot word.now fault desk × (fault ≡ true)
