-- Laws of cores and jobs.
use Rattle.std.specs.Prelude.{ℕ, ◌≡◌, Some, List}
use Rattle.vc_base.specs.Device.{DeviceEvent}
use Rattle.vc_base.specs.declared.Side.{Side}
use Rattle.vc_model.specs.Coder.{Coder}
use Rattle.vc_model.specs.Context.{Slot}
use Rattle.vc_model.specs.Devices.{new_device, job_of, device_after}
use Rattle.vc_model.specs.Runs.{JobData}
use Rattle.vc_model.specs.Standing.{CoreState, Stands, worker_job}
use Rattle.vc_queue.specs.Holds.{HoldState, held_payload, with_payload, HasRoom, written_over}
use Rattle.vc_core.specs.Jobs.{HasJob}
use Rattle.vc_context.specs.Payloads.{FitsSlot}

-- Where a core stands for a history, the data of a worker's job are those of the history.
abbrev pub JobsAreThere : Type 0
JobsAreThere =
    (coder : Coder) (n w : ℕ) (core : CoreState) (history : List DeviceEvent) (worker k : ℕ) (j : JobData) → Stands coder n w core history
    → job_of core worker ≡ Some k → worker_job (device_after coder (new_device n) history) worker ≡ Some j → HasJob core worker k j

-- Bytes that are written over the front of a held payload leave its size: a hold that fits a slot goes on fitting it.
abbrev pub WritingFits : Type 0
WritingFits =
    (s : Slot) (hold : HoldState) (side : Side) (index : ℕ) (bytes : List ℕ) → HasRoom (held_payload hold side index) bytes → FitsSlot s hold → FitsSlot s (with_payload hold side index (written_over (held_payload hold side index) bytes))
