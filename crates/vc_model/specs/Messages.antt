-- The messages of the wire: how bytes are cut into messages, and what a message asks for (docs/FORMAT.md, "The wire"). All
-- numbers are big-endian.
use Rattle.std.specs.Prelude.{ℕ, zero, suc, ◌≡◌, ◌+◌, ◌-◌, Bool, true, false, not, ◌&&◌, ◌||◌, if◌then◌else◌, ◌==◌, nat_lt, nat_le, length, take, drop, Option}
use Rattle.std.specs.Prelude.{Some, None, option_and_then, List, [], ◌∷◌, ◌++◌}
use Rattle.std.specs.Int.{to_be_bytes, from_be_bytes, w32, w64}
use Rattle.std.specs.List.{list_all, find, flat_map}
use Rattle.vc_base.specs.declared.Side.{Side}
use Rattle.vc_base.specs.declared.Side.TheVariants.{Out, Cap}
use Rattle.vc_base.specs.declared.Kind.{Kind}
use Rattle.vc_base.specs.declared.Kind.TheVariants.{Copy, Enc, Dec}
use Rattle.vc_base.specs.declared.Stamp.{Stamp}
use Rattle.vc_base.specs.declared.Fourcc.{Fourcc}
use Rattle.vc_base.specs.declared.Format.{Format}
use Rattle.vc_base.specs.declared.Call.{Call}
use Rattle.vc_base.specs.declared.Call.TheVariants.{Open, Close, EnumFmt, GetFmt, TryFmt, SetFmt, ReqBufs, CreateBufs, QueryBuf, QBuf, DqBuf, StreamOn}
use Rattle.vc_base.specs.declared.Call.TheVariants.{StreamOff, Subscribe, Unsubscribe, DqEvent, DecCmd, EncCmd, GetCtrl, SetCtrl, Poll}
use Rattle.vc_base.specs.Buffers.{zero_stamp}
use Rattle.vc_model.specs.Script.{Asked, AsksCall, AsksClaim, AsksFinish}
use Rattle.vc_base.specs.Limits.{script_workers, longest_message}

-- Numbers

-- a number of 32 bits, and one of 64
abbrev pub number_bytes : ℕ → List ℕ
number_bytes n = to_be_bytes w32 n

abbrev pub wide_bytes : ℕ → List ℕ
wide_bytes n = to_be_bytes w64 n

abbrev pub number_at : List ℕ → ℕ → ℕ
number_at bytes at = from_be_bytes w32 (take 4 (drop at bytes))

abbrev pub wide_at : List ℕ → ℕ → ℕ
wide_at bytes at = from_be_bytes w64 (take 8 (drop at bytes))

-- Framing

abbrev pub is_length : ℕ → Bool
is_length n = nat_le 1 n && nat_le n longest_message

-- the four bytes of a length are there and it isn't in range
abbrev pub has_bad_length : List ℕ → Bool
has_bad_length bytes = nat_le 4 (length bytes) && not (is_length (number_at bytes 0))

-- the bytes begin with a whole message
abbrev pub has_message : List ℕ → Bool
has_message bytes =
    nat_le 4 (length bytes) && (is_length (number_at bytes 0) && nat_le (4 + number_at bytes 0) (length bytes))

-- the body of the message that the bytes begin with, and the bytes behind it
abbrev pub first_body : List ℕ → List ℕ
first_body bytes = take (number_at bytes 0) (drop 4 bytes)

abbrev pub behind_first : List ℕ → List ℕ
behind_first bytes = drop (4 + number_at bytes 0) bytes

-- The bodies of the messages of a byte list, and the rest.
pub record Messages : Type 0 where
  pub bodies : List (List ℕ)
  pub rest : List ℕ

abbrev pub with_body : List ℕ → Messages → Messages
with_body body m = record m { bodies = body ∷ m.bodies }

-- at most so many messages
abbrev pub messages_within : ℕ → List ℕ → Messages
messages_within zero bytes = record { bodies = []; rest = bytes }
messages_within (suc most) bytes =
    if has_message bytes then with_body (first_body bytes) (messages_within most (behind_first bytes)) else record { bodies = []; rest = bytes }

-- a message takes five bytes at least
abbrev pub messages : List ℕ → Messages
messages bytes = messages_within (length bytes) bytes

-- The messages of bytes that go on are those that were there, and then those of the rest and what comes behind it: how the
-- bytes are cut into pieces doesn't matter.
abbrev pub MessagesContinue : Type 0
MessagesContinue =
    (bytes further : List ℕ)
    → let first = messages bytes in let later = messages (first.rest ++ further) in messages (bytes ++ further) ≡ record { bodies = first.bodies ++ later.bodies; rest = later.rest }

-- What a piece of the bytes brings: more is needed, a message ended, or its length isn't in range.
pub data Framing : Type 0 where
  more : Framing
  whole : (body : List ℕ) → Framing
  bad_length : Framing

-- How much of a piece was taken, what is kept of the message that is begun, and what was told.
pub record Fed : Type 0 where
  pub taken : ℕ
  pub kept : List ℕ
  pub told : Framing

-- a piece behind the bytes that were kept of a message; they stand at its beginning
abbrev pub fed : List ℕ → List ℕ → Fed
fed kept piece =
    let all = kept ++ piece in
    if has_bad_length all then record { taken = 4 - length kept; kept = take 4 all; told = bad_length } else
    (if has_message all then record { taken = (4 + number_at all 0) - length kept; kept = []; told = whole (first_body all) } else
    record { taken = length piece; kept = all; told = more })

-- After a length out of range the same is told of every further piece, and no byte of it is taken.
abbrev pub BadLengthStays : Type 0
BadLengthStays =
    (kept piece further : List ℕ) → let f = fed kept piece in f.told ≡ bad_length → fed f.kept further ≡ record { taken = 0; kept = f.kept; told = bad_length }

-- What pieces come to: the bodies that were told in order, what is kept, and whether a length was told to be out of range.
pub record Feeding : Type 0 where
  pub bodies : List (List ℕ)
  pub kept : List ℕ
  pub is_bad : Bool

-- what was told of a piece, before what the rest of the piece comes to
abbrev pub told_before : Framing → List ℕ → Feeding → Feeding
told_before more kept later = record { bodies = []; kept = kept; is_bad = false }
told_before (whole body) kept later = record later { bodies = body ∷ later.bodies }
told_before bad_length kept later = record { bodies = []; kept = kept; is_bad = true }

-- a piece is fed again and again, each time what is left of it, at most so many times
abbrev pub fed_within : ℕ → List ℕ → List ℕ → Feeding
fed_within zero kept piece = record { bodies = []; kept = kept; is_bad = false }
fed_within (suc most) kept piece =
    let f = fed kept piece in told_before f.told f.kept (fed_within most f.kept (drop f.taken piece))

-- each message takes a byte of the piece at least
abbrev pub fed_whole : List ℕ → List ℕ → Feeding
fed_whole kept piece = fed_within (1 + length piece) kept piece

abbrev pub fed_before : Feeding → Feeding → Feeding
fed_before f later =
    record { bodies = f.bodies ++ later.bodies; kept = later.kept; is_bad = f.is_bad || later.is_bad }

-- one piece after another
abbrev pub fed_pieces : List ℕ → List (List ℕ) → Feeding
fed_pieces kept [] = record { bodies = []; kept = kept; is_bad = false }
fed_pieces kept (piece ∷ pieces) = let f = fed_whole kept piece in fed_before f (fed_pieces f.kept pieces)

-- Pieces of bytes tell what the bytes have, however they are cut: the bodies of the messages in order, and a length out of
-- range exactly where one stands behind them. The rest is kept, and of one with such a length these four bytes.
abbrev pub PiecesTellMessages : Type 0
PiecesTellMessages =
    (pieces : List (List ℕ))
    → let m = messages (flat_map (λ piece. piece) pieces) in
    let bad = has_bad_length m.rest in fed_pieces [] pieces ≡ record { bodies = m.bodies; kept = if bad then take 4 m.rest else m.rest; is_bad = bad }

-- Operations

abbrev pub kind_of : ℕ → Option Kind
kind_of n = if n == 0 then Some Copy else (if n == 1 then Some Enc else (if n == 2 then Some Dec else None))

abbrev pub side_of : ℕ → Option Side
side_of n = if n == 0 then Some Out else (if n == 1 then Some Cap else None)

abbrev pub is_fourcc : List ℕ → Bool
is_fourcc bytes = list_all (λ b. nat_le 33 b && nat_le b 126) bytes

-- the format that begins at a place of the body
abbrev pub format_at : List ℕ → ℕ → Option Format
format_at body at =
    let fourcc : Fourcc = record { 0 = take 4 (drop at body) } in
    let format : Format = record { fourcc = fourcc; width = number_at body (at + 4); height = number_at body (at + 8); size = number_at body (at + 12) } in
    if is_fourcc fourcc.0 then Some format else None

abbrev pub sized : ℕ → List ℕ → Option Call → Option Call
sized size body request = if length body == size then request else None

-- a call on a side, which is the first field
abbrev pub on_side : List ℕ → (Side → Call) → Option Call
on_side body request = option_and_then (λ side. Some (request side)) (side_of (number_at body 5))

abbrev pub on_format : List ℕ → (Side → Format → Call) → Option Call
on_format body request =
    option_and_then (λ side. option_and_then (λ format. Some (request side format)) (format_at body 9)) (side_of (number_at body 5))

abbrev pub with_kind : List ℕ → Option Call
with_kind body = option_and_then (λ kind. Some (Open kind)) (kind_of (number_at body 5))

abbrev pub stamp_at : List ℕ → ℕ → Stamp
stamp_at body at = record { 0 = wide_at body at }

-- OUTPUT's payload is what lies behind the index and the stamp
abbrev pub queue_output : List ℕ → Option Call
queue_output body =
    if nat_le 17 (length body) then Some (QBuf Out (number_at body 5) (length body - 17) (stamp_at body 9)) else None

-- One operation byte, and the call that a body with it asks for.
pub record Operation : Type 0 where
  pub code : ℕ
  pub request : List ℕ → Option Call

abbrev pub operation : ℕ → (List ℕ → Option Call) → Operation
operation code request = record { code = code; request = request }

-- a body is the operation byte, the slot and the fields
abbrev pub operations : List Operation
operations =
    operation 0x01 (λ b. sized 9 b (with_kind b))
    ∷ operation 0x02 (λ b. sized 5 b (Some Close))
    ∷ operation 0x03 (λ b. sized 13 b (on_side b (λ side. EnumFmt side (number_at b 9))))
    ∷ operation 0x04 (λ b. sized 9 b (on_side b (λ side. GetFmt side)))
    ∷ operation 0x05 (λ b. sized 25 b (on_format b (λ side format. TryFmt side format)))
    ∷ operation 0x06 (λ b. sized 25 b (on_format b (λ side format. SetFmt side format)))
    ∷ operation 0x07 (λ b. sized 13 b (on_side b (λ side. ReqBufs side (number_at b 9))))
    ∷ operation 0x08 (λ b. sized 13 b (on_side b (λ side. QueryBuf side (number_at b 9))))
    ∷ operation 0x09 (λ b. queue_output b)
    ∷ operation 0x0a (λ b. sized 9 b (Some (QBuf Cap (number_at b 5) 0 zero_stamp)))
    ∷ operation 0x0b (λ b. sized 9 b (on_side b (λ side. DqBuf side false)))
    ∷ operation 0x0c (λ b. sized 9 b (on_side b (λ side. DqBuf side true)))
    ∷ operation 0x0d (λ b. sized 9 b (on_side b (λ side. StreamOn side)))
    ∷ operation 0x0e (λ b. sized 9 b (on_side b (λ side. StreamOff side)))
    ∷ operation 0x0f (λ b. sized 9 b (Some (Subscribe (number_at b 5))))
    ∷ operation 0x10 (λ b. sized 9 b (Some (Unsubscribe (number_at b 5))))
    ∷ operation 0x11 (λ b. sized 5 b (Some (DqEvent false)))
    ∷ operation 0x12 (λ b. sized 5 b (Some (DqEvent true)))
    ∷ operation 0x13 (λ b. sized 9 b (Some (DecCmd (number_at b 5))))
    ∷ operation 0x14 (λ b. sized 9 b (Some (EncCmd (number_at b 5))))
    ∷ operation 0x15 (λ b. sized 9 b (Some (GetCtrl (number_at b 5))))
    ∷ operation 0x16 (λ b. sized 13 b (Some (SetCtrl (number_at b 5) (number_at b 9))))
    ∷ operation 0x17 (λ b. sized 5 b (Some Poll))
    ∷ operation 0x18 (λ b. sized 17 b (on_side b (λ side. CreateBufs side (number_at b 9) (number_at b 13))))
    ∷ []

-- the call that a body asks for, where it has an operation of the table
abbrev pub call_in : ℕ → List ℕ → Option Call
call_in code body = option_and_then (λ o. o.request body) (find (λ o. o.code == code) operations)

-- the bytes that a call queues
abbrev pub payload_in : Call → List ℕ → List ℕ
payload_in (QBuf Out index used stamp) body = drop 17 body
payload_in request body = []

abbrev pub asked_call : ℕ → List ℕ → Option Call → Option Asked
asked_call slot body None = None
asked_call slot body (Some request) = Some (AsksCall slot request (payload_in request body))

-- a claim or a finish of a worker
abbrev pub asked_work : List ℕ → Asked → Option Asked
asked_work body asked =
    if (length body == 5) && nat_lt (number_at body 1) script_workers then Some asked else None

abbrev pub asked_by : ℕ → ℕ → List ℕ → Option Asked
asked_by n code body =
    if code == 0x20 then asked_work body (AsksClaim (number_at body 1)) else
    (if code == 0x21 then asked_work body (AsksFinish (number_at body 1)) else
    (if nat_lt (number_at body 1) n then asked_call (number_at body 1) body (call_in code body) else None))

-- What a body asks of a device of n slots, where it is one of the table and its slot or worker is in range.
abbrev pub asked_in : ℕ → List ℕ → Option Asked
asked_in n [] = None
asked_in n (code ∷ fields) = asked_by n code (code ∷ fields)
