-- What a contract sees of a worker's seat: of which worker it is, what it knows of the history, and how its last claim ended.
use Rattle.std.specs.Prelude.{ℕ, ◌<◌, ◌≤◌, ◌+◌, Bool, false, Option, []}
use Rattle.vc_model.specs.Coder.{the_coder}
use Rattle.vc_model.specs.Runs.{JobData}
use Rattle.vc_model.specs.Devices.{job_of}
use Rattle.vc_model.specs.Standing.{IsHistory, worker_job}
use Rattle.vc_model.specs.Seats.{Seat, HasItsSteps}
use Rattle.vc_turn.specs.Place.{Place}
use Rattle.vc_shared.specs.declared.held.Sizes.{Sizes}
use Rattle.vc_shared.specs.Histories.{after}
use Rattle.vc_shared.specs.Handles.{DeviceId, seat_of, device_of, IsAtRest}

pub record WorkerState : Type 0 where
  pub device : DeviceId
  pub worker : ℕ
  pub seat : Seat
  pub over : Bool

-- the seat of the worker with this seat at the lock
abbrev pub worker_at : Place → Sizes → ℕ → Bool → WorkerState
worker_at p sizes worker over =
    record { device = device_of p sizes; worker = worker; seat = seat_of p; over = over }

-- a seat that has seen nothing
abbrev pub new_worker : DeviceId → ℕ → WorkerState
new_worker device worker =
    record { device = device; worker = worker; seat = record { seen = []; mine = [] }; over = false }

-- the slot whose job the worker has, as the seat has seen it last, or none; and the data of the job
abbrev pub slot_had : WorkerState → Option ℕ
slot_had w = job_of (after w.device.slots w.seat.seen) w.worker

abbrev pub job_had : WorkerState → Option JobData
job_had w = worker_job (after w.device.slots w.seat.seen) w.worker

-- What holds of every worker's seat: its worker is one of the device, it knows a history of the device, and the claims and
-- finishes of its worker there are its own entries.
pub record IsWorker (w : WorkerState) : Type 0 where
  pub within : w.worker < w.device.workers
  pub history : IsHistory the_coder w.device.slots w.seat.seen
  pub own : HasItsSteps w.worker w.seat

-- The seat is one of the worker.
pub record IsWorkerSeat (p : Place) (sizes : Sizes) (worker : ℕ) : Type 0 where
  pub rest : IsAtRest (sizes.slots + worker) (sizes.slots + sizes.workers) sizes.slots p
  pub within : worker < sizes.workers
  pub few : sizes.workers ≤ 64
