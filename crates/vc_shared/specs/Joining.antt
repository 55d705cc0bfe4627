-- How the seats of a device are joined into the seat of slot 0.
use Rattle.std.specs.Prelude.{ℕ, suc, ◌≡◌, ◌+◌, false, length, slice_get, map, Some, List, ◌++◌}
use Rattle.vc_model.specs.Seats.{Seat}
use Rattle.vc_turn.specs.declared.rule.Kept.{Kept}
use Rattle.vc_turn.specs.History.{places}
use Rattle.vc_turn.specs.Place.{Place}
use Rattle.vc_turn.specs.Rule.{At}
use Rattle.vc_shared.specs.Histories.{events_of, IsLog}
use Rattle.vc_shared.specs.Handles.{DeviceId, seat_of, IsAtRest}
use Rattle.vc_shared.specs.Workers.{WorkerState}
use Rattle.vc_shared.specs.Closing.{AreWorkersOf}

-- The seat at the lock of the device has the number, and knows this.
pub record IsSeatAt (device : DeviceId) (number : ℕ) (knows : Seat) (p : Place) : Type 0 where
  pub lock : p.turn ≡ device.lock
  pub rest : IsAtRest number (device.slots + device.workers) device.slots p
  pub known : seat_of p ≡ knows

-- What is kept at a place of the list is what the seat with the next number knew.
pub record IsKeptAt (slots : ℕ) (kept : List Kept) (place : ℕ) (knew : Seat) : Type 0 where
  pub lists : Kept
  pub at : At kept place lists
  pub number : lists.number ≡ suc place
  pub known : record { seen = events_of lists.seen; mine = lists.mine } ≡ knew
  pub entries : IsLog slots lists.seen
  pub own : places (suc place) lists.seen ≡ lists.mine

-- The seat of slot 0 knows what it knew, the first of these, and keeps what the seats with the next numbers knew, in order.
pub record HasJoined (device : DeviceId) (p : Place) (seats : List Seat) : Type 0 where
  pub lock : p.turn ≡ device.lock
  pub number : p.number ≡ 0
  pub idle : p.serving ≡ false
  pub made : p.made ≡ device.slots + device.workers
  pub entries : IsLog device.slots p.seen
  pub own : places 0 p.seen ≡ p.mine
  pub known : slice_get seats 0 ≡ Some (seat_of p)
  pub all : length p.kept + 1 ≡ length seats
  pub kept : (place : ℕ) (knew : Seat) → slice_get seats (suc place) ≡ Some knew → IsKeptAt device.slots p.kept place knew

-- With the seats of the workers joined too, the seat of slot 0 has joined all seats of the device.
abbrev pub JoinsWorkers : Place → List WorkerState → Place → Type 0
JoinsWorkers first workers p =
    (device : DeviceId) (seats : List Seat) → HasJoined device first seats → length seats ≡ device.slots → AreWorkersOf device workers → HasJoined device p (seats ++ map (λ w. w.seat) workers)
