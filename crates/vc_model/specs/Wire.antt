-- The wire: the replies to messages, and which lists of replies a device may give (docs/FORMAT.md, "The wire").
use Rattle.std.specs.Prelude.{ℕ, ◌≡◌, ◌<◌, ◌≤◌, ◌+◌, ◌-◌, Bool, true, false, not, ◌&&◌, if◌then◌else◌, ◌==◌, is_none, bytes_eq, codes, length, get_or, take}
use Rattle.std.specs.Prelude.{drop, Option, Some, None, List, [], ◌∷◌, ◌++◌}
use Rattle.std.specs.List.{flat_map, list_all}
use Rattle.vc_base.specs.declared.Side.TheVariants.{Cap}
use Rattle.vc_base.specs.declared.Errno.TheVariants.{NoMem}
use Rattle.vc_base.specs.declared.Fourcc.{Fourcc}
use Rattle.vc_base.specs.declared.Call.{Call}
use Rattle.vc_base.specs.declared.Call.TheVariants.{DqBuf}
use Rattle.vc_base.specs.declared.Reply.{Reply}
use Rattle.vc_base.specs.declared.Reply.TheVariants.{Done, Desc, Fmt, Count, Created, Info, Taken, Happened, Value, Ready, Refused, Blocked}
use Rattle.vc_base.specs.Errnos.{errno_number}
use Rattle.vc_base.specs.Device.{DeviceEvent, call, claim, finish}
use Rattle.vc_defs.specs.Decoder.{DecodedResult, picture, damaged, changed, spent, step_outcome}
use Rattle.vc_model.specs.Coder.{Coder}
use Rattle.vc_model.specs.Context.{Context, Running}
use Rattle.vc_model.specs.Runs.{RunResult, copied, encoded, decoded, job_data, run_result}
use Rattle.vc_model.specs.Solo.{SoloEvent, Called, SoloReply, Answered, Claimed, Finished, SoloEntry, solo_run, solo_slot}
use Rattle.vc_model.specs.Devices.{DeviceState, DeviceReply, Told, NoJob, new_device, job_of, device_after, device_run, projection}
use Rattle.vc_model.specs.Places.{AreHonest}
use Rattle.vc_model.specs.Script.{Asked, AsksCall, AsksClaim, AsksFinish}
use Rattle.vc_base.specs.Limits.{most_slots, longest_buffer}
use Rattle.vc_model.specs.Messages.{number_bytes, wide_bytes, number_at, is_length, has_message, Messages, messages, asked_in}

-- Replies

abbrev pub truth_byte : Bool → List ℕ
truth_byte true = 1 ∷ []
truth_byte false = 0 ∷ []

-- the bytes that a call took from CAPTURE
abbrev pub taken_bytes : Call → List ℕ → List ℕ
taken_bytes (DqBuf Cap block) handed = handed
taken_bytes request handed = []

-- the body of the reply to a call
abbrev pub reply_body : Call → Reply → List ℕ → List ℕ
reply_body request Done handed = 0x00 ∷ []
reply_body request (Desc fourcc) handed = 0x01 ∷ fourcc.0
reply_body request (Fmt f) handed =
    0x02 ∷ (f.fourcc.0 ++ (number_bytes f.width ++ (number_bytes f.height ++ number_bytes f.size)))
reply_body request (Count count) handed = 0x03 ∷ number_bytes count
reply_body request (Info index size flags) handed =
    0x04 ∷ (number_bytes index ++ (number_bytes size ++ number_bytes flags))
reply_body request (Taken index used flags seq stamp) handed =
    0x05 ∷ (number_bytes index ++ (number_bytes used ++ (number_bytes flags ++ (wide_bytes seq ++ (wide_bytes stamp.0 ++ taken_bytes request handed)))))
reply_body request (Happened event seq changes pending) handed =
    0x06 ∷ (number_bytes event ++ (wide_bytes seq ++ (number_bytes changes ++ number_bytes pending)))
reply_body request (Value value) handed = 0x07 ∷ number_bytes value
reply_body request (Ready read write urgent) handed = 0x08 ∷ (truth_byte read ++ (truth_byte write ++ truth_byte urgent))
reply_body request (Created index count) handed = 0x09 ∷ (number_bytes index ++ number_bytes count)
reply_body request (Refused errno) handed = 0x40 ∷ number_bytes (errno_number errno)
reply_body request Blocked handed = 0x41 ∷ []

-- the byte of a finish's word: 0 to 6 for copied, encoded, picture, damaged, changed, spent, fault
abbrev pub place_in : List (List ℕ) → List ℕ → ℕ
place_in [] word = 0
place_in (w ∷ words) word = if bytes_eq w word then 0 else 1 + place_in words word

abbrev pub word_byte : List ℕ → ℕ
word_byte word =
    place_in (codes "copied" ∷ codes "encoded" ∷ codes "picture" ∷ codes "damaged" ∷ codes "changed" ∷ codes "spent" ∷ codes "fault" ∷ []) word

-- a body with its length before it
abbrev pub framed : List ℕ → List ℕ
framed body = number_bytes (length body) ++ body

-- What the messages of bytes are: each body with its length before it, one after another, then the rest; the lengths are in
-- range, and the rest begins with no whole message.
pub record AreTheMessages (bytes : List ℕ) (m : Messages) : Type 0 where
  pub all : flat_map framed m.bodies ++ m.rest ≡ bytes
  pub lengths : list_all (λ body. is_length (length body)) m.bodies ≡ true
  pub ended : has_message m.rest ≡ false

abbrev pub MessagesAreFramed : Type 0
MessagesAreFramed = (bytes : List ℕ) → ((i : ℕ) → get_or bytes i 0 < 256) → AreTheMessages bytes (messages bytes)

abbrev pub claimed_reply : ℕ → List ℕ
claimed_reply k = framed (0x50 ∷ number_bytes k)

abbrev pub finished_reply : ℕ → List ℕ → List ℕ
finished_reply k word = framed (0x53 ∷ (number_bytes k ++ word_byte word ∷ []))

-- what slot k is told at an event, as a reply
abbrev pub solo_reply : ℕ → SoloEvent → SoloReply → List ℕ
solo_reply k (Called request bytes found) (Answered reply handed) = framed (reply_body request reply handed)
solo_reply k e Claimed = claimed_reply k
solo_reply k e (Finished word) = finished_reply k word
solo_reply k e told = []

-- what the device told, as a reply
abbrev pub device_reply : DeviceEvent → DeviceReply → List ℕ
device_reply (call k request bytes found) (Told j (Answered reply handed)) = framed (reply_body request reply handed)
device_reply e (Told j Claimed) = claimed_reply j
device_reply e (Told j (Finished word)) = finished_reply j word
device_reply e NoJob = framed (0x51 ∷ [])
device_reply e reply = []

-- Events

-- memory was found, but where the reply says that it was not
abbrev pub found_by : List ℕ → Bool
found_by reply = not (bytes_eq reply (framed (0x40 ∷ number_bytes (errno_number NoMem))))

-- the engine gave up exactly where the reply is that of a finish with its byte
abbrev pub fault_by : List ℕ → Bool
fault_by reply =
    bytes_eq (take 1 (drop 4 reply)) (0x53 ∷ []) && bytes_eq (drop (length reply - 1) reply) (6 ∷ [])

-- the events of a body, where this was the reply to it
abbrev pub asked_events : DeviceState → Option Asked → List ℕ → List DeviceEvent
asked_events d (Some (AsksCall slot request bytes)) reply = call slot request bytes (found_by reply) ∷ []
asked_events d (Some (AsksClaim worker)) reply = if is_none (job_of d worker) then claim worker ∷ [] else []
asked_events d (Some (AsksFinish worker)) reply =
    if is_none (job_of d worker) then [] else finish worker (fault_by reply) ∷ []
asked_events d asked reply = []

-- the reply to a body that is no event: a busy worker's claim, an idle worker's finish, or one out of the table
abbrev pub reply_without : Option Asked → List ℕ
reply_without (Some (AsksClaim worker)) = framed (0x52 ∷ [])
reply_without (Some (AsksFinish worker)) = framed (0x54 ∷ [])
reply_without asked = framed (0x7f ∷ [])

abbrev pub body_reply : Coder → DeviceState → Option Asked → List DeviceEvent → List ℕ
body_reply coder d asked [] = reply_without asked
body_reply coder d asked (e ∷ es) = flat_map (λ x. device_reply x.event x.reply) (device_run coder d (e ∷ es))

-- the first reply of the output
abbrev pub first_reply : List ℕ → List ℕ
first_reply output = take (4 + number_at output 0) output

-- the events of the bodies, read off the replies
abbrev pub wire_events : Coder → ℕ → DeviceState → List (List ℕ) → List ℕ → List DeviceEvent
wire_events coder n d [] output = []
wire_events coder n d (body ∷ rest) output =
    let reply = first_reply output in
    let events = asked_events d (asked_in n body) reply in
    events ++ wire_events coder n (device_after coder d events) rest (drop (length reply) output)

-- the replies of a device at these events
abbrev pub wire_replies : Coder → ℕ → DeviceState → List (List ℕ) → List ℕ → List ℕ
wire_replies coder n d [] output = []
wire_replies coder n d (body ∷ rest) output =
    let reply = first_reply output in
    let events = asked_events d (asked_in n body) reply in
    body_reply coder d (asked_in n body) events ++ wire_replies coder n (device_after coder d events) rest (drop (length reply) output)

-- The output begins with what a device in this state replies to the first body, what follows with what it then replies to the
-- second, and so on; nothing stands behind the last reply.
abbrev pub RepliesFrom : Coder → ℕ → DeviceState → List (List ℕ) → List ℕ → Type 0
RepliesFrom coder n d [] output = output ≡ []
RepliesFrom coder n d (body ∷ rest) output =
    let reply = first_reply output in
    let events = asked_events d (asked_in n body) reply in
    (reply ≡ body_reply coder d (asked_in n body) events) × RepliesFrom coder n (device_after coder d events) rest (drop (length reply) output)

-- The output has for each message of the input, in order, the reply of a device of n slots, and nothing else.
abbrev pub Replies : Coder → ℕ → List ℕ → List ℕ → Type 0
Replies coder n input output = RepliesFrom coder n (new_device n) (messages input).bodies output

-- the events of an input, read off the replies
abbrev pub events_of_wire : Coder → ℕ → List ℕ → List ℕ → List DeviceEvent
events_of_wire coder n input output = wire_events coder n (new_device n) (messages input).bodies output

-- Such an output is all that the device replies at the events that are read off it.
abbrev pub RepliesAreWhole : Type 0
RepliesAreWhole =
    (coder : Coder) (n : ℕ) (input output : List ℕ) → Replies coder n input output → output ≡ wire_replies coder n (new_device n) (messages input).bodies output

-- there is a reply for each body, its length and a byte at least, and nothing behind the last one
abbrev pub HasReplies : List (List ℕ) → List ℕ → Type 0
HasReplies [] output = output ≡ []
HasReplies (body ∷ rest) output =
    let reply = first_reply output in (4 < length reply) × HasReplies rest (drop (length reply) output)

-- No message is without a reply.
abbrev pub EachIsReplied : Type 0
EachIsReplied =
    (coder : Coder) (n : ℕ) (input output : List ℕ) → Replies coder n input output → HasReplies (messages input).bodies output

-- The two choices that are free: whether memory is found for a call, and whether the engine gives up at a finish. What was
-- chosen at each message, read off the output.
abbrev pub choice_by : Option Asked → List ℕ → Bool
choice_by (Some (AsksCall slot request bytes)) reply = found_by reply
choice_by (Some (AsksFinish worker)) reply = fault_by reply
choice_by asked reply = true

abbrev pub choices_by : ℕ → List (List ℕ) → List ℕ → List Bool
choices_by n [] output = []
choices_by n (body ∷ rest) output =
    let reply = first_reply output in
    choice_by (asked_in n body) reply ∷ choices_by n rest (drop (length reply) output)

-- The input, the number of slots and the choices give the output.
abbrev pub ChoicesGiveReplies : Type 0
ChoicesGiveReplies =
    (coder : Coder) (n : ℕ) (input output other : List ℕ) → Replies coder n input output → Replies coder n input other
    → choices_by n (messages input).bodies output ≡ choices_by n (messages input).bodies other → output ≡ other

-- the events of a body by a choice, which is whether it fails: a call as out of memory, a finish by the engine
abbrev pub chosen_events : DeviceState → Option Asked → Bool → List DeviceEvent
chosen_events d (Some (AsksCall slot request bytes)) fails = call slot request bytes (not fails) ∷ []
chosen_events d (Some (AsksClaim worker)) fails = if is_none (job_of d worker) then claim worker ∷ [] else []
chosen_events d (Some (AsksFinish worker)) fails = if is_none (job_of d worker) then [] else finish worker fails ∷ []
chosen_events d asked fails = []

-- the replies to bodies by choices; behind the last choice nothing fails
abbrev pub chosen_replies : Coder → ℕ → DeviceState → List (List ℕ) → List Bool → List ℕ
chosen_replies coder n d [] choices = []
chosen_replies coder n d (body ∷ rest) choices =
    let events = chosen_events d (asked_in n body) (get_or choices 0 false) in
    body_reply coder d (asked_in n body) events ++ chosen_replies coder n (device_after coder d events) rest (drop 1 choices)

-- the bytes that the codec gives in a run
abbrev pub outcome_bytes : DecodedResult → List ℕ
outcome_bytes (picture bytes key stamp) = bytes
outcome_bytes (damaged stamp) = []
outcome_bytes (changed geometry) = []
outcome_bytes spent = []

abbrev pub coded_bytes : Fourcc → RunResult → List ℕ
coded_bytes fourcc (copied bytes) = []
coded_bytes fourcc (encoded frame) = frame.bytes
coded_bytes fourcc (decoded step) = outcome_bytes (step_outcome fourcc step)

-- No run of the codec gives more bytes than the longest buffer has.
abbrev pub RunsAreShort : Coder → Type 0
RunsAreShort coder =
    (events : List SoloEvent) (c : Context) (r : Running) → solo_slot coder None events ≡ Some c → c.running ≡ Some r
    → length (coded_bytes r.format.fourcc (run_result coder (job_data c r))) ≤ longest_buffer

-- Each input and choices have an output, where no run gives more than the longest buffer has: the length of every reply can then
-- be said in its four bytes.
abbrev pub ChoicesHaveReplies : Type 0
ChoicesHaveReplies =
    (coder : Coder) (n : ℕ) (input : List ℕ) (choices : List Bool) → RunsAreShort coder
    → Replies coder n input (chosen_replies coder n (new_device n) (messages input).bodies choices)

-- Slots

-- the reply has this first byte, and the slot that it names is slot k
abbrev pub names_slot : ℕ → ℕ → List ℕ → Bool
names_slot code k reply = bytes_eq (take 1 (drop 4 reply)) (code ∷ []) && (number_at reply 5 == k)

-- what slot k has of the reply to a body: all of it or nothing. A call names its slot itself, and the replies "claimed" and
-- "finished" name theirs; the others are of no slot.
abbrev pub own_part : ℕ → Option Asked → List ℕ → List ℕ
own_part k (Some (AsksCall slot request bytes)) reply = if slot == k then reply else []
own_part k (Some (AsksClaim worker)) reply = if names_slot 0x50 k reply then reply else []
own_part k (Some (AsksFinish worker)) reply = if names_slot 0x53 k reply then reply else []
own_part k asked reply = []

abbrev pub own_parts : ℕ → List (List ℕ) → List ℕ → List ℕ
own_parts k [] output = []
own_parts k (body ∷ rest) output =
    let reply = first_reply output in
    own_part k (asked_in most_slots body) reply ++ own_parts k rest (drop (length reply) output)

-- the replies of slot k in an output, read off it and the input alone
abbrev pub replies_of_slot : ℕ → List ℕ → List ℕ → List ℕ
replies_of_slot k input output = own_parts k (messages input).bodies output

-- the replies to the calls, claims and finishes of one slot by itself
abbrev pub slot_replies : ℕ → List SoloEntry → List ℕ
slot_replies k entries = flat_map (λ x. solo_reply k x.event x.told) entries

-- the events of a slot in an input
abbrev pub own_events_of_wire : Coder → ℕ → List ℕ → List ℕ → ℕ → List SoloEvent
own_events_of_wire coder n input output k = projection coder (new_device n) (events_of_wire coder n input output) k

-- On the wire the bytes that are queued are as many as each call says.
abbrev pub WireIsHonest : Type 0
WireIsHonest =
    (coder : Coder) (n : ℕ) (input output : List ℕ) (k : ℕ) → AreHonest (solo_run coder None (own_events_of_wire coder n input output k))

-- Each slot is replied to as by itself, on its own calls, claims and finishes alone.
abbrev pub SlotsAreRepliedTo : Type 0
SlotsAreRepliedTo =
    (coder : Coder) (n : ℕ) (input output : List ℕ) (k : ℕ) → n ≤ most_slots → k < n → Replies coder n input output
    → replies_of_slot k input output ≡ slot_replies k (solo_run coder None (own_events_of_wire coder n input output k))

-- Two inputs in which the same happens to a slot give the same replies of it.
abbrev pub SameEventsSameReplies : Type 0
SameEventsSameReplies =
    (coder : Coder) (n m : ℕ) (input others output replied : List ℕ) (k : ℕ) → n ≤ most_slots → k < n → m ≤ most_slots → k < m
    → Replies coder n input output → Replies coder m others replied
    → own_events_of_wire coder n input output k ≡ own_events_of_wire coder m others replied k
    → replies_of_slot k input output ≡ replies_of_slot k others replied
