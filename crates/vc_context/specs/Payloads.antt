-- What a call does to the payloads that the user holds.
use Rattle.std.specs.Prelude.{ℕ, ◌≡◌, ◌≤◌, ◌<◌, ◌++◌, length, take, replicate, Some, None, List, [], ◌∷◌}
use Rattle.vc_base.specs.declared.Side.{Side}
use Rattle.vc_base.specs.declared.Side.TheVariants.{Out, Cap}
use Rattle.vc_base.specs.declared.Call.{Call}
use Rattle.vc_base.specs.declared.Call.TheVariants.{Close, ReqBufs, CreateBufs, QBuf, DqBuf, StreamOff}
use Rattle.vc_base.specs.declared.Reply.{Reply}
use Rattle.vc_base.specs.declared.Reply.TheVariants.{Done, Count, Created, Taken}
use Rattle.vc_base.specs.Buffers.{Buffer, known_bytes, new_queue}
use Rattle.vc_base.specs.Limits.{most_buffers}
use Rattle.vc_model.specs.Context.{Context, Slot, queue_of, sizeimage}
use Rattle.vc_queue.specs.Answers.{queued_bytes}
use Rattle.vc_queue.specs.Growing.{KeepsFirst, AreZero}
use Rattle.vc_queue.specs.Holds.{HoldState, Fits, with_payload}
use Rattle.vc_queue.specs.Releasing.{AllGoToUser}

-- no payload is held
abbrev pub empty_hold : HoldState
empty_hold = record { out = replicate most_buffers None; cap = replicate most_buffers None }

-- The payloads fit the context: the user holds one of the buffer's size exactly for each held buffer.
pub record FitsContext (c : Context) (hold : HoldState) : Type 0 where
  pub out : Fits c.out hold
  pub cap : Fits c.cap hold

-- no payload of a closed slot is held
pub record HoldsNothing (hold : HoldState) : Type 0 where
  pub out : Fits (new_queue Out) hold
  pub cap : Fits (new_queue Cap) hold

abbrev pub FitsSlot : Slot → HoldState → Type 0
FitsSlot None hold = HoldsNothing hold
FitsSlot (Some c) hold = FitsContext c hold

-- the bytes that a call hands over: at a QBuf on OUTPUT the first used bytes of the payload, else none
abbrev pub handed_over : Call → HoldState → List ℕ
handed_over (QBuf Out index used stamp) hold = queued_bytes Out hold index used
handed_over request hold = []

-- the buffers that StreamOff gives back
abbrev pub given_back : Slot → Side → List Buffer
given_back None side = []
given_back (Some c) side = (queue_of c side).ready ++ (queue_of c side).done

-- the bytes that DqBuf hands out: those of the front of done
abbrev pub front_bytes : List Buffer → List ℕ
front_bytes [] = []
front_bytes (b ∷ rest) = b.bytes

abbrev pub handed_out : Slot → Side → List ℕ
handed_out None side = []
handed_out (Some c) side = front_bytes (queue_of c side).done

-- The payload of the buffer goes to the user: it has room for the used bytes, and begins with the bytes
-- handed out. Of an OUTPUT buffer with ERROR only the size is known.
pub record HandsOut (side : Side) (index used flags : ℕ) (handed : List ℕ) (old new : HoldState) : Type 0 where
  pub payload : List ℕ
  pub moved : new ≡ with_payload old side index (Some payload)
  pub room : used ≤ length payload
  pub begins : known_bytes side flags (take used payload) ≡ handed

-- What the call does to the payloads that the user holds. A refusal and Blocked leave them.
abbrev pub Moves : Slot → Call → Reply → HoldState → HoldState → Type 0
Moves s Close Done old new = new ≡ empty_hold
Moves s (ReqBufs side count) (Count number) old new = KeepsFirst side 0 old new
Moves s (CreateBufs side count size) (Created first number) old new = KeepsFirst side first old new
Moves s (QBuf side index used stamp) Done old new = new ≡ with_payload old side index None
Moves s (DqBuf side block) (Taken index used flags seq stamp) old new =
    HandsOut side index used flags (handed_out s side) old new
Moves s (StreamOff side) Done old new = AllGoToUser side (given_back s side) old new
Moves s request reply old new = new ≡ old

-- The payloads of the buffers that the call made are zeros. Those of ReqBufs are as long as the format of the side says.
abbrev pub AreNewZeros : Context → Call → Reply → HoldState → Type 0
AreNewZeros c (ReqBufs side count) (Count number) hold = AreZero side 0 number (sizeimage c side) hold
AreNewZeros c (CreateBufs side count size) (Created first number) hold = AreZero side first number size hold
AreNewZeros c request reply hold = Unit {0}

abbrev pub HasNewZeros : Slot → Call → Reply → HoldState → Type 0
HasNewZeros None request reply hold = Unit {0}
HasNewZeros (Some c) request reply hold = AreNewZeros c request reply hold

-- a call that makes buffers asks for one at least
abbrev pub AsksForBuffers : Call → Type 0
AsksForBuffers (ReqBufs side count) = 0 < count
AsksForBuffers (CreateBufs side count size) = 0 < count
AsksForBuffers request = Unit {0}
