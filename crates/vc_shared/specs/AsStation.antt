-- A worker's seat as a station: what the worker did, in order, and the job that it has.
use Rattle.std.specs.Prelude.{ℕ, ◌==◌, if◌then◌else◌, Option, Some, None, List, [], ◌∷◌, ◌++◌}
use Rattle.vc_base.specs.Device.{DeviceEvent, claim, finish}
use Rattle.vc_model.specs.Coder.{the_coder}
use Rattle.vc_model.specs.Runs.{JobData}
use Rattle.vc_model.specs.Devices.{DeviceState, new_device, job_of, device_step}
use Rattle.vc_model.specs.Standing.{worker_job}
use Rattle.vc_port.specs.Stations.{StationJob, Worked, took, gave_back}
use Rattle.vc_shared.specs.Workers.{WorkerState, slot_had, job_had}

-- a job by its slot and its data
abbrev pub job_with : Option ℕ → Option JobData → Option StationJob
job_with None given = None
job_with (Some slot) None = None
job_with (Some slot) (Some given) = Some (record { slot = slot; given = given })

-- the job that the worker has in the device
abbrev pub job_in_device : DeviceState → ℕ → Option StationJob
job_in_device d worker = job_with (job_of d worker) (worker_job d worker)

-- the job that the worker has, as its seat has seen it last
abbrev pub station_job : WorkerState → Option StationJob
station_job w = job_with (slot_had w) (job_had w)

abbrev pub took_job : Option StationJob → List Worked
took_job None = []
took_job (Some job) = took job ∷ []

-- what the worker did at an event: `now` is the device after it
abbrev pub worked_at : ℕ → DeviceEvent → DeviceState → List Worked
worked_at worker (claim other) now = if other == worker then took_job (job_in_device now worker) else []
worked_at worker (finish other fault) now = if other == worker then gave_back fault ∷ [] else []
worked_at worker e now = []

abbrev pub worked_from : ℕ → DeviceState → List DeviceEvent → List Worked
worked_from worker d [] = []
worked_from worker d (e ∷ es) =
    let now = (device_step the_coder d e).device in worked_at worker e now ++ worked_from worker now es

-- what the worker did in what its seat has seen
abbrev pub worked : WorkerState → List Worked
worked w = worked_from w.worker (new_device w.device.slots) w.seat.seen
