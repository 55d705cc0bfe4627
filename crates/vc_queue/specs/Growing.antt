-- New buffers of a queue.
use Rattle.std.specs.Prelude.{ℕ, zero, suc, ◌≡◌, ◌<◌, ◌≤◌, ◌+◌, ◌==◌, ◌||◌, ◌&&◌, nat_lt, Bool, true, false, length, replicate, Option, Some, None, Result, List, [], ◌∷◌, ◌++◌}
use Rattle.vc_base.specs.declared.Side.{Side}
use Rattle.vc_base.specs.declared.Side.TheVariants.{Out, Cap}
use Rattle.vc_base.specs.declared.Errno.{Errno}
use Rattle.vc_base.specs.declared.Errno.TheVariants.{NoMem}
use Rattle.vc_base.specs.Buffers.{QueueState, buffer_count, new_buffers, zero_stamp}
use Rattle.vc_base.specs.Limits.{longest_buffer, most_buffers}
use Rattle.vc_queue.specs.declared.cells.Place.TheVariants.{Held}
use Rattle.vc_queue.specs.declared.cells.Cell.{Cell}
use Rattle.vc_queue.specs.Cells.{cell_at}
use Rattle.vc_queue.specs.Answers.{answer_of, after_of}
use Rattle.vc_queue.specs.Holds.{HoldState, side_of, held_payload}
use Rattle.vc_queue.specs.Payloads.{payload_at}
use Rattle.vc_queue.specs.Releasing.{other_side}

-- the refusal of a call that takes memory: want of it comes after every other test
abbrev pub with_memory : Bool → Option Errno → Option Errno
with_memory true refusal = refusal
with_memory false (Some errno) = Some errno
with_memory false None = Some NoMem

-- a queue with so many buffers cannot get `count` more of the size
abbrev pub cannot_grow : ℕ → ℕ → ℕ → Bool
cannot_grow buffers count size =
    (nat_lt size 1 || nat_lt longest_buffer size) || (nat_lt 0 count && (buffers == most_buffers))

-- The answer of a call that takes memory, and the queue after it. `found` says whether memory was found.
pub record AnswersWithMemory {A : Type 0} (refusal : Option Errno) (value : A) (after : QueueState) (result : Result A Errno) (old new : QueueState) : Type 0 where
  pub found : Bool
  pub answer : result ≡ answer_of (with_memory found refusal) value
  pub state : new ≡ after_of (with_memory found refusal) old after

-- the payloads of the first n buffers, and those of the other side, stay with the user
pub record KeepsFirst (side : Side) (n : ℕ) (old new : HoldState) : Type 0 where
  pub first : (i : ℕ) → i < n → held_payload new side i ≡ held_payload old side i
  pub other : side_of new (other_side side) ≡ side_of old (other_side side)

-- payloads of zeros, of one size, from an index on
abbrev pub HasNew : ℕ → ℕ → ℕ → List (Option (List ℕ)) → Type 0
HasNew first end size payloads =
    (i : ℕ) → first ≤ i → i < end → payload_at payloads i ≡ Some (replicate size 0)

-- the user holds payloads of zeros, of one size, of so many buffers from an index on
abbrev pub AreZero : Side → ℕ → ℕ → ℕ → HoldState → Type 0
AreZero side first number size hold =
    (i : ℕ) → i < number → held_payload hold side (first + i) ≡ Some (replicate size 0)

-- the cell of a new buffer
abbrev pub new_cell : ℕ → Cell
new_cell size = record { place = Held; size = size; used = 0; cursor = 0; stamp = zero_stamp; flags = 0; seq = 0; ordinal = 0 }

-- the first cells stay, and so many new ones follow
pub record AreMore (first number size : ℕ) (old new : List Cell) : Type 0 where
  pub room : length new ≡ first + number
  pub kept : (i : ℕ) → i < first → cell_at new i ≡ cell_at old i
  pub fresh : (i : ℕ) → first ≤ i → i < first + number → cell_at new i ≡ new_cell size

-- so many numbers, from the first on
abbrev pub numbers_from : ℕ → ℕ → List ℕ
numbers_from first zero = []
numbers_from first (suc number) = first ∷ numbers_from (first + 1) number

-- The user gets payloads of so many buffers, from the first index on. The others stay as they were.
pub record AreHandedOver (side : Side) (first number : ℕ) (payloads : List (Option (List ℕ))) (old new : HoldState) : Type 0 where
  pub given : (i : ℕ) → i < number → held_payload new side (first + i) ≡ payload_at payloads i
  pub kept : (i : ℕ) → i < first → held_payload new side i ≡ held_payload old side i
  pub beyond : (i : ℕ) → first + number ≤ i → held_payload new side i ≡ held_payload old side i
  pub other : side_of new (other_side side) ≡ side_of old (other_side side)

-- so many buffers more
abbrev pub added : QueueState → ℕ → ℕ → QueueState
added q size n = record q { held = q.held ++ new_buffers size (buffer_count q) n }

-- a queue without buffers
abbrev pub cleared : QueueState → QueueState
cleared q = record q { held = []; ready = []; job = []; done = [] }

-- no payload of the side is held
abbrev pub without_side : HoldState → Side → HoldState
without_side h Out = record h { out = replicate most_buffers None }
without_side h Cap = record h { cap = replicate most_buffers None }
