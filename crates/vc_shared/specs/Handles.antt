-- What a contract sees of a handle: of which slot it is, what it knows of the history, and the payloads that its user holds.
use Rattle.std.specs.Prelude.{ℕ, ◌≡◌, ◌<◌, ◌+◌, false, List, []}
use Rattle.atomic_table.specs.Seated.{TableId}
use Rattle.vc_model.specs.Context.{Slot}
use Rattle.vc_model.specs.Solo.{SoloEvent}
use Rattle.vc_model.specs.Devices.{new_device, slot_of, projection}
use Rattle.vc_model.specs.Coder.{the_coder}
use Rattle.vc_model.specs.Standing.{IsHistory}
use Rattle.vc_model.specs.Seats.{Seat, HasItsCalls}
use Rattle.vc_turn.specs.Place.{Place, made_for}
use Rattle.vc_turn.specs.History.{places}
use Rattle.vc_queue.specs.Holds.{HoldState}
use Rattle.vc_context.specs.Payloads.{FitsSlot, empty_hold}
use Rattle.vc_shared.specs.declared.held.Sizes.{Sizes}
use Rattle.vc_shared.specs.Histories.{after, events_of, IsLog}

-- Which device it is, by its lock, and how many slots and workers it has.
pub record DeviceId : Type 0 where
  pub lock : TableId
  pub slots : ℕ
  pub workers : ℕ

-- the device behind this lock, with so many slots and workers
abbrev pub device_at : TableId → ℕ → ℕ → DeviceId
device_at lock slots workers = record { lock = lock; slots = slots; workers = workers }

pub record HandleState : Type 0 where
  pub device : DeviceId
  pub slot : ℕ
  pub seat : Seat
  pub hold : HoldState

-- what a seat knows: the history that it has seen, and the positions of its own entries
abbrev pub seat_of : Place → Seat
seat_of p = record { seen = events_of p.seen; mine = p.mine }

-- the device of a seat
abbrev pub device_of : Place → Sizes → DeviceId
device_of p sizes = device_at p.turn sizes.slots sizes.workers

-- the handle with this seat at the lock
abbrev pub handle_at : Place → Sizes → ℕ → HoldState → HandleState
handle_at p sizes slot hold = record { device = device_of p sizes; slot = slot; seat = seat_of p; hold = hold }

-- a handle that has seen nothing, and whose user holds nothing
abbrev pub new_handle : DeviceId → ℕ → HandleState
new_handle device slot =
    record { device = device; slot = slot; seat = record { seen = []; mine = [] }; hold = empty_hold }

-- the slot as the handle has seen it last
abbrev pub slot_seen : HandleState → Slot
slot_seen h = slot_of (after h.device.slots h.seat.seen) h.slot

-- what happened to the slot by itself: its calls, and the claims and finishes of its jobs
abbrev pub slot_events : HandleState → List SoloEvent
slot_events h = projection the_coder (new_device h.device.slots) h.seat.seen h.slot

-- What holds of every handle: its slot is one of the device, it knows a history of the device, the calls of its slot there are
-- among its own entries, and the payloads fit the slot.
pub record IsHandle (h : HandleState) : Type 0 where
  pub within : h.slot < h.device.slots
  pub history : IsHistory the_coder h.device.slots h.seat.seen
  pub own : HasItsCalls h.slot h.seat
  pub fits : FitsSlot (slot_seen h) h.hold

-- What holds of every seat: it is out of its turn and keeps no lists of others, and what it has seen is a history of the device.
pub record IsAtRest (number count slots : ℕ) (p : Place) : Type 0 where
  pub numbered : p.number ≡ number
  pub idle : p.serving ≡ false
  pub made : p.made ≡ made_for number count
  pub alone : p.kept ≡ []
  pub entries : IsLog slots p.seen
  pub places : places p.number p.seen ≡ p.mine

-- The seat is one of the slot, and the payloads fit the slot as the seat has seen it.
pub record IsSlotSeat (p : Place) (sizes : Sizes) (slot : ℕ) (hold : HoldState) : Type 0 where
  pub rest : IsAtRest slot (sizes.slots + sizes.workers) sizes.slots p
  pub within : slot < sizes.slots
  pub fits : FitsSlot (slot_of (after sizes.slots (events_of p.seen)) slot) hold
