-- What a caller knows of the history of a shared device: of a handle, which makes the calls of one slot, and of a worker's seat,
-- which claims and finishes jobs (docs/DEVICE.md, "Many contexts").
use Rattle.std.specs.Prelude.{ℕ, ◌≡◌, ◌+◌, Bool, true, false, ◌||◌, ◌==◌, nat_lt, if◌then◌else◌, take, length, map, get_or, slice_get, Option, Some, None, List, [], ◌∷◌, ◌++◌}
use Rattle.std.specs.List.{filter, flat_map, list_any}
use mathlib.Core.List.{IsPrefix}
use Rattle.vc_base.specs.declared.Call.{Call}
use Rattle.vc_base.specs.declared.Reply.{Reply}
use Rattle.vc_base.specs.declared.Reply.TheVariants.{Blocked}
use Rattle.vc_base.specs.Device.{DeviceEvent, call, claim, finish, shut}
use Rattle.vc_model.specs.Coder.{Coder}
use Rattle.vc_model.specs.Answer.{answer}
use Rattle.vc_model.specs.Runs.{JobData}
use Rattle.vc_model.specs.Solo.{Called, Answered, Claimed, Finished, solo_step, solo_slot}
use Rattle.vc_model.specs.Devices.{DeviceState, DeviceReply, Told, Empty, new_device, slot_of, job_of, device_step, device_after, device_run, projection}
use Rattle.vc_model.specs.Standing.{CoreState, Stands, IsHistory, worker_job}

-- Positions

-- the positions of the events that pass, counted from `at`
abbrev pub positions_from : (DeviceEvent → Bool) → ℕ → List DeviceEvent → List ℕ
positions_from own at [] = []
positions_from own at (e ∷ es) =
    if own e then at ∷ positions_from own (at + 1) es else positions_from own (at + 1) es

abbrev pub is_call_of : ℕ → DeviceEvent → Bool
is_call_of k (call j request bytes found) = j == k
is_call_of k (claim worker) = false
is_call_of k (finish worker fault) = false
is_call_of k shut = false

abbrev pub is_step_of : ℕ → DeviceEvent → Bool
is_step_of worker (call j request bytes found) = false
is_step_of worker (claim other) = other == worker
is_step_of worker (finish other fault) = other == worker
is_step_of worker shut = false

abbrev pub is_shut_event : DeviceEvent → Bool
is_shut_event (call j request bytes found) = false
is_shut_event (claim worker) = false
is_shut_event (finish worker fault) = false
is_shut_event shut = true

-- the positions of the calls of slot k in a history, and those of the claims and finishes of a worker
abbrev pub calls_at : ℕ → List DeviceEvent → List ℕ
calls_at k history = positions_from (is_call_of k) 0 history

abbrev pub steps_at : ℕ → List DeviceEvent → List ℕ
steps_at worker history = positions_from (is_step_of worker) 0 history

-- the device of n slots before the event at a position, and what was told at it
abbrev pub device_before : Coder → ℕ → List DeviceEvent → ℕ → DeviceState
device_before coder n history i = device_after coder (new_device n) (take i history)

abbrev pub reply_at : Coder → ℕ → List DeviceEvent → ℕ → DeviceReply
reply_at coder n history i = get_or (map (λ x. x.reply) (device_run coder (new_device n) history)) i Empty

-- Seats

-- What a seat knows: the history at the end of its last turn, and the positions of its own entries.
pub record Seat : Type 0 where
  pub seen : List DeviceEvent
  pub mine : List ℕ

abbrev pub is_call_event : Option DeviceEvent → Bool
is_call_event None = false
is_call_event (Some (call j request bytes found)) = true
is_call_event (Some (claim worker)) = false
is_call_event (Some (finish worker fault)) = false
is_call_event (Some shut) = false

-- those of the positions at which a call stands
abbrev pub calls_among : List DeviceEvent → List ℕ → List ℕ
calls_among history mine = filter (λ i. is_call_event (slice_get history i)) mine

-- The calls of its slot in the history that a handle has seen are the calls among its own entries.
abbrev pub HasItsCalls : ℕ → Seat → Type 0
HasItsCalls k seat = calls_at k seat.seen ≡ calls_among seat.seen seat.mine

-- The claims and finishes of its worker are the entries of a worker's seat.
abbrev pub HasItsSteps : ℕ → Seat → Type 0
HasItsSteps worker seat = steps_at worker seat.seen ≡ seat.mine

-- The seat saw more of the history and then added one entry: `before` is the history up to it.
pub record Adds (old new : Seat) (e : DeviceEvent) : Type 0 where
  pub before : List DeviceEvent
  pub seen : IsPrefix old.seen before
  pub added : new.seen ≡ before ++ e ∷ []
  pub mine : new.mine ≡ old.mine ++ length before ∷ []

-- The seat saw more of the history and added nothing.
pub record Looks (old new : Seat) : Type 0 where
  pub seen : IsPrefix old.seen new.seen
  pub mine : new.mine ≡ old.mine

-- A call of handle k that is answered otherwise than by Blocked: it is one more entry, and the device tells the answer there.
pub record IsAnswered (coder : Coder) (n k : ℕ) (old new : Seat) (request : Call) (bytes : List ℕ) (found : Bool) (reply : Reply) (handed : List ℕ) : Type 0 where
  pub adds : Adds old new (call k request bytes found)
  pub own : HasItsCalls k new
  pub history : IsHistory coder n new.seen
  pub told : (device_step coder (device_after coder (new_device n) adds.before) (call k request bytes found)).reply ≡ Told k (Answered reply handed)

-- A call that is answered by Blocked is no entry: the slot, as the handle last saw it, gives Blocked.
pub record IsBlocked (coder : Coder) (n k : ℕ) (old new : Seat) (request : Call) (bytes : List ℕ) (found : Bool) : Type 0 where
  pub looks : Looks old new
  pub own : HasItsCalls k new
  pub history : IsHistory coder n new.seen
  pub blocks : (answer (slot_of (device_after coder (new_device n) new.seen) k) request bytes found).reply ≡ Blocked

-- A Shut by handle k is one more entry.
pub record IsShutBy (coder : Coder) (n k : ℕ) (old new : Seat) : Type 0 where
  pub adds : Adds old new shut
  pub own : HasItsCalls k new
  pub history : IsHistory coder n new.seen

-- A claim that gives a job of slot k is one more entry, and the job's data are those of the device.
pub record IsClaimed (coder : Coder) (n worker : ℕ) (old new : Seat) (k : ℕ) (job : JobData) : Type 0 where
  pub adds : Adds old new (claim worker)
  pub own : HasItsSteps worker new
  pub history : IsHistory coder n new.seen
  pub told : (device_step coder (device_after coder (new_device n) adds.before) (claim worker)).reply ≡ Told k Claimed
  pub data_of_job : worker_job (device_after coder (new_device n) new.seen) worker ≡ Some job

-- A claim that finds nothing is no entry: the job list is empty. The device isn't shut then, or it is.
pub record FindsNothing (coder : Coder) (n worker : ℕ) (old new : Seat) (over : Bool) : Type 0 where
  pub looks : Looks old new
  pub own : HasItsSteps worker new
  pub history : IsHistory coder n new.seen
  pub empty : (device_after coder (new_device n) new.seen).waiting ≡ []
  pub shut : list_any is_shut_event new.seen ≡ over

-- A finish is one more entry, and the device tells its word there.
pub record IsFinished (coder : Coder) (n worker : ℕ) (old new : Seat) (k : ℕ) (fault : Bool) (word : List ℕ) : Type 0 where
  pub adds : Adds old new (finish worker fault)
  pub own : HasItsSteps worker new
  pub history : IsHistory coder n new.seen
  pub told : (device_step coder (device_after coder (new_device n) adds.before) (finish worker fault)).reply ≡ Told k (Finished word)

-- One history

-- Whose a seat is: the handle of a slot, or a worker.
pub data Owner : Type 0 where
  handle_of : (slot : ℕ) → Owner
  worker_of : (worker : ℕ) → Owner

pub record OwnedSeat : Type 0 where
  pub owner : Owner
  pub seat : Seat

-- what an owner may add
abbrev pub may_add : Owner → DeviceEvent → Bool
may_add (handle_of k) e = is_call_of k e || is_shut_event e
may_add (worker_of worker) e = is_step_of worker e

abbrev pub adds_at : Owner → Option DeviceEvent → Bool
adds_at owner None = false
adds_at owner (Some e) = may_add owner e

-- how often the position stands in the list
abbrev pub count_position : List ℕ → ℕ → ℕ
count_position [] i = 0
count_position (j ∷ js) i = (if j == i then 1 else 0) + count_position js i

abbrev pub Ascends : ℕ → List ℕ → Type 0
Ascends least [] = Unit {0}
Ascends least (i ∷ is) = (nat_lt i least ≡ false) × Ascends (i + 1) is

-- a seat saw a beginning of the history, and each of its entries is one that it may add, in order
pub record IsSeatOf (history : List DeviceEvent) (owned : OwnedSeat) : Type 0 where
  pub seen : IsPrefix owned.seat.seen history
  pub own : (i : ℕ) → list_any (λ j. j == i) owned.seat.mine ≡ true → adds_at owned.owner (slice_get history i) ≡ true
  pub ascends : Ascends 0 owned.seat.mine

abbrev pub AreSeatsOf : List DeviceEvent → List OwnedSeat → Type 0
AreSeatsOf history [] = Unit {0}
AreSeatsOf history (owned ∷ rest) = IsSeatOf history owned × AreSeatsOf history rest

-- the entries of all seats
abbrev pub all_mine : List OwnedSeat → List ℕ
all_mine seats = flat_map (λ owned. owned.seat.mine) seats

-- When a device is closed its core stands for one history, and each entry of it is one entry of one seat.
pub record IsOneHistory (coder : Coder) (n w : ℕ) (core : CoreState) (history : List DeviceEvent) (seats : List OwnedSeat) : Type 0 where
  pub stands : Stands coder n w core history
  pub is_history : IsHistory coder n history
  pub count : core.steps ≡ length history
  pub owned : AreSeatsOf history seats
  pub once : (i : ℕ) → count_position (all_mine seats) i ≡ (if nat_lt i (length history) then 1 else 0)

-- Laws

-- a step at the end of a history is one more step
abbrev pub HistoriesGrow : Type 0
HistoriesGrow =
    (coder : Coder) (n : ℕ) (history : List DeviceEvent) (e : DeviceEvent) → IsHistory coder n history
    → let d = device_after coder (new_device n) history in (device_step coder d e).device.steps ≡ d.steps + 1 → IsHistory coder n (history ++ e ∷ [])

-- the device before the last event of a history, and what was told at it
pub record LastIsKnown (coder : Coder) (n : ℕ) (history : List DeviceEvent) (e : DeviceEvent) : Type 0 where
  pub before : device_before coder n (history ++ e ∷ []) (length history) ≡ device_after coder (new_device n) history
  pub told : reply_at coder n (history ++ e ∷ []) (length history) ≡ (device_step coder (device_after coder (new_device n) history) e).reply

abbrev pub LastEvents : Type 0
LastEvents = (coder : Coder) (n : ℕ) (history : List DeviceEvent) (e : DeviceEvent) → LastIsKnown coder n history e

-- the position of the last event is one more of those that pass, where it passes
abbrev pub LastPositions : Type 0
LastPositions =
    (own : DeviceEvent → Bool) (history : List DeviceEvent) (e : DeviceEvent) → positions_from own 0 (history ++ e ∷ []) ≡ positions_from own 0 history ++ (if own e then length history ∷ [] else [])

-- the mark of Shut is there exactly where the history has one
abbrev pub ShutsAreSeen : Type 0
ShutsAreSeen =
    (coder : Coder) (n : ℕ) (history : List DeviceEvent) → (device_after coder (new_device n) history).is_shut ≡ list_any is_shut_event history

-- What a handle is answered is what its slot answers by itself, on its own calls, claims and finishes alone.
abbrev pub AnswersAreSolo : Type 0
AnswersAreSolo =
    (coder : Coder) (n k : ℕ) (history : List DeviceEvent) (request : Call) (bytes : List ℕ) (found : Bool) (reply : Reply) (handed : List ℕ)
    → (device_step coder (device_after coder (new_device n) history) (call k request bytes found)).reply ≡ Told k (Answered reply handed)
    → (solo_step coder (solo_slot coder None (projection coder (new_device n) history k)) (Called request bytes found)).told ≡ Answered reply handed

-- Each worker that has a job has it of a slot in which one runs, and no two workers have that of one slot.
pub record WorkersAreApart (d : DeviceState) : Type 0 where
  pub running : (worker k : ℕ) → job_of d worker ≡ Some k → (job : JobData) × (worker_job d worker ≡ Some job)
  pub apart : (worker other k : ℕ) → job_of d worker ≡ Some k → job_of d other ≡ Some k → worker ≡ other

abbrev pub JobsAreHeld : Type 0
JobsAreHeld = (coder : Coder) (n : ℕ) (history : List DeviceEvent) → WorkersAreApart (device_after coder (new_device n) history)
