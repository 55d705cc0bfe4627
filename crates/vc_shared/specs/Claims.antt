-- What a claim and a finish by a worker come to.
use Rattle.std.specs.Prelude.{ℕ, ◌≡◌, Bool, true, false, Some, None}
use Rattle.vc_model.specs.Coder.{the_coder}
use Rattle.vc_model.specs.Runs.{JobData, finish_word}
use Rattle.vc_model.specs.Core.{brought_back}
use Rattle.vc_model.specs.Seats.{IsClaimed, FindsNothing, IsFinished}
use Rattle.vc_core.specs.declared.job.Job.{Job}
use Rattle.vc_core.specs.declared.job.Finished.{Finished}
use Rattle.vc_core.specs.Jobs.{IsJobOf, Brings, is_fault}
use Rattle.vc_port.specs.declared.station.Claimed.{Claimed}
use Rattle.vc_port.specs.declared.station.Claimed.TheVariants as gave
use Rattle.vc_shared.specs.Workers.{WorkerState, slot_had, job_had}

-- The claim is one more entry of the history. The job is the one that the device gives there, with its data, and the worker has
-- it now.
pub record ClaimsJob (old new : WorkerState) (claimed_job : Job) : Type 0 where
  pub slot : ℕ
  pub job : JobData
  pub claimed : IsClaimed the_coder old.device.slots old.worker old.seat new.seat slot job
  pub is_of : IsJobOf slot job claimed_job
  pub had : slot_had new ≡ Some slot
  pub given : job_had new ≡ Some job

-- The claim is no entry: the job list, as the seat has seen it now, is empty. The device is shut then, or it isn't.
pub record ClaimsNone (old new : WorkerState) (shut : Bool) : Type 0 where
  pub nothing : FindsNothing the_coder old.device.slots old.worker old.seat new.seat shut
  pub free : slot_had new ≡ None

-- what a claim comes to
abbrev pub IsClaim : WorkerState → WorkerState → Claimed → Type 0
IsClaim old new (gave.Job job) = ClaimsJob old new job
IsClaim old new gave.Empty = ClaimsNone old new false
IsClaim old new gave.Over = ClaimsNone old new true

-- What is brought back is of the job that the worker has, run or given up.
pub record IsOfItsJob (w : WorkerState) (finished : Finished) : Type 0 where
  pub slot : ℕ
  pub job : JobData
  pub had : slot_had w ≡ Some slot
  pub given : job_had w ≡ Some job
  pub brings : Brings slot (brought_back the_coder job (is_fault finished)) finished

-- The finish of the job that the worker had is one more entry, and the device tells its word there. The worker has none now.
pub record FinishesJob (old new : WorkerState) (fault : Bool) : Type 0 where
  pub slot : ℕ
  pub job : JobData
  pub had : slot_had old ≡ Some slot
  pub given : job_had old ≡ Some job
  pub finished : IsFinished the_coder old.device.slots old.worker old.seat new.seat slot fault (finish_word the_coder job fault)
  pub free : slot_had new ≡ None
