-- The seats of a device as it is made.
use Rattle.std.specs.Prelude.{ℕ, ◌≡◌, ◌<◌, length, slice_get, Some, List}
use Rattle.vc_shared.specs.Handles.{DeviceId, HandleState, new_handle}
use Rattle.vc_shared.specs.Workers.{WorkerState, new_worker}

-- there are so many handles, and the one at place k is of slot k, has seen nothing and holds nothing
pub record AreNewHandles (device : DeviceId) (count : ℕ) (handles : List HandleState) : Type 0 where
  pub all : length handles ≡ count
  pub each : (k : ℕ) → k < count → slice_get handles k ≡ Some (new_handle device k)

-- there are so many seats, and the one at place w is of worker w and has seen nothing
pub record AreNewWorkers (device : DeviceId) (count : ℕ) (workers : List WorkerState) : Type 0 where
  pub all : length workers ≡ count
  pub each : (w : ℕ) → w < count → slice_get workers w ≡ Some (new_worker device w)
