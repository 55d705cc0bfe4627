-- What is known when a device is closed.
use Rattle.std.specs.Prelude.{ℕ, ◌≡◌, length, map, slice_get, Some, List, ◌++◌}
use Rattle.vc_model.specs.Coder.{the_coder}
use Rattle.vc_model.specs.Standing.{CoreState}
use Rattle.vc_model.specs.Seats.{handle_of, worker_of, OwnedSeat, IsOneHistory}
use Rattle.vc_base.specs.Device.{DeviceEvent}
use Rattle.vc_shared.specs.Handles.{DeviceId, HandleState}
use Rattle.vc_shared.specs.Workers.{WorkerState}

-- All seats of the slots of the device: the one at place k is of slot k.
pub record AreHandlesOf (device : DeviceId) (handles : List HandleState) : Type 0 where
  pub all : length handles ≡ device.slots
  pub each : (k : ℕ) (h : HandleState) → slice_get handles k ≡ Some h → (h.device ≡ device) × (h.slot ≡ k)

-- All seats of the workers of the device: the one at place w is of worker w.
pub record AreWorkersOf (device : DeviceId) (workers : List WorkerState) : Type 0 where
  pub all : length workers ≡ device.workers
  pub each : (w : ℕ) (s : WorkerState) → slice_get workers w ≡ Some s → (s.device ≡ device) × (s.worker ≡ w)

abbrev pub owned_handle : HandleState → OwnedSeat
owned_handle h = record { owner = handle_of h.slot; seat = h.seat }

abbrev pub owned_worker : WorkerState → OwnedSeat
owned_worker w = record { owner = worker_of w.worker; seat = w.seat }

-- whose each seat is, and what it knows
abbrev pub owned_seats : List HandleState → List WorkerState → List OwnedSeat
owned_seats handles workers = map owned_handle handles ++ map owned_worker workers

-- The core, of as many slots and workers as it has, stands for the one history. What each seat has seen is a beginning of it, each
-- entry of it is one entry of one seat, and each seat's entries are those that its owner made, in order.
pub record IsClosed (core : CoreState) (handles : List HandleState) (workers : List WorkerState) : Type 0 where
  pub history : List DeviceEvent
  pub one : IsOneHistory the_coder (length core.slots) (length core.workers) core history (owned_seats handles workers)
