-- The one history of a shared device (docs/DEVICE.md, "Many contexts"), as the lock keeps it: each entry has the number of the
-- seat that noted it.
use Rattle.std.specs.Prelude.{ℕ, ◌≡◌, ◌-◌, nat_lt, if◌then◌else◌, true, map, length, List, [], ◌∷◌}
use Rattle.vc_base.specs.Device.{DeviceEvent}
use Rattle.vc_model.specs.Coder.{the_coder}
use Rattle.vc_model.specs.Devices.{DeviceState, new_device, device_after}
use Rattle.vc_model.specs.Standing.{CoreState, Stands, IsHistory}
use Rattle.vc_model.specs.Seats.{Owner, handle_of, worker_of, may_add}
use Rattle.vc_turn.specs.declared.rule.Noted.{Noted}

-- the device of so many slots after a history
abbrev pub after : ℕ → List DeviceEvent → DeviceState
after slots history = device_after the_coder (new_device slots) history

-- what happened, without who noted it
abbrev pub events_of : List Noted → List DeviceEvent
events_of log = map (λ e. e.event) log

-- whose the seat with the number is: those of the slots come first, then those of the workers
abbrev pub owner_of : ℕ → ℕ → Owner
owner_of slots number = if nat_lt number slots then handle_of number else worker_of (number - slots)

-- each entry is one that the owner of its seat may add
abbrev pub AreOwn : ℕ → List Noted → Type 0
AreOwn slots [] = Unit {0}
AreOwn slots (e ∷ es) = (may_add (owner_of slots e.seat) e.event ≡ true) × AreOwn slots es

-- The entries are the steps of a device of so many slots, each by its owner.
pub record IsLog (slots : ℕ) (log : List Noted) : Type 0 where
  pub steps : IsHistory the_coder slots (events_of log)
  pub own : AreOwn slots log

-- A core of so many slots and workers stands for the log.
pub record StandsForLog (slots workers : ℕ) (core : CoreState) (log : List Noted) : Type 0 where
  pub stands : Stands the_coder slots workers core (events_of log)
  pub entries : IsLog slots log
  pub slot_count : length core.slots ≡ slots
  pub worker_count : length core.workers ≡ workers
