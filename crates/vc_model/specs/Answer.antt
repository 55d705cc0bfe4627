-- What one context answers to a call: a case for each row of the table of calls (docs/DEVICE.md, "Calls"; the page of each ioctl). The tests of a row are
-- made in order, and the first that applies decides. A refusal and Blocked change nothing.
use Rattle.std.specs.Prelude.{ℕ, min, Bool, true, false, not, ◌&&◌, ◌||◌, if◌then◌else◌, ◌==◌, nat_lt, nat_le, is_none, is_some, Option, Some, None, List, [], ◌∷◌, slice_get}
use Rattle.vc_base.specs.declared.Side.{Side}
use Rattle.vc_base.specs.declared.Side.TheVariants.{Out, Cap}
use Rattle.vc_base.specs.declared.Kind.{Kind}
use Rattle.vc_base.specs.declared.Kind.TheVariants.{Copy, Enc, Dec}
use Rattle.vc_base.specs.declared.Stamp.{Stamp}
use Rattle.vc_base.specs.declared.Fourcc.{Fourcc}
use Rattle.vc_base.specs.declared.Format.{Format}
use Rattle.vc_base.specs.declared.Errno.{Errno}
use Rattle.vc_base.specs.declared.Errno.TheVariants.{NoEnt, Again, NoMem, Busy, Inval, NoTty}
use Rattle.vc_base.specs.declared.Call.{Call}
use Rattle.vc_base.specs.declared.Call.TheVariants.{Open, Close, EnumFmt, GetFmt, TryFmt, SetFmt, ReqBufs, CreateBufs, QueryBuf, QBuf, DqBuf, StreamOn}
use Rattle.vc_base.specs.declared.Call.TheVariants.{StreamOff, Subscribe, Unsubscribe, DqEvent, DecCmd, EncCmd, GetCtrl, SetCtrl, Poll}
use Rattle.vc_base.specs.declared.Reply.{Reply}
use Rattle.vc_base.specs.declared.Reply.TheVariants.{Done, Desc, Fmt, Count, Created, Value, Ready, Refused, Blocked}
use Rattle.vc_base.specs.Buffers.{Buffer, is_empty, buffer_count, refuse_if, reqbufs_refusal, reqbufs_after, create_refusal, create_after, created}
use Rattle.vc_base.specs.Buffers.{querybuf_reply, qbuf_refusal, qbuf_after, dqbuf_refusal, dqbuf_after, taken, long_enough, streamon_refusal, streamon_after}
use Rattle.vc_base.specs.Buffers.{streamoff_after}
use Rattle.vc_base.specs.Limits.{most_buffers, start_command, stop_command, gop_control, iqp_control, pqp_control, least_capture_control, least_output_control, most_gop, most_quantiser}
use Rattle.vc_base.specs.Events.{event_refusal, subscribe_after, unsubscribe_after, event_reply, take_event_after}
use Rattle.vc_model.specs.Formats.{formats_listed, formats_for}
use Rattle.vc_model.specs.Coder.{reset}
use Rattle.vc_defs.specs.Encoder.{RunRates}
use Rattle.vc_model.specs.Context.{Context, Slot, drain, change, PhaseState, run, owe, last, stopped, fresh_context, is_dec, is_enc, queue_of, with_queue, format_of, sizeimage, is_stopped, settle}
use Rattle.vc_model.specs.Phases.{is_stopped_by_drain}

-- What a call leads to: the slot after it, the reply, and the bytes that are handed out.
pub record Answer : Type 0 where
  pub slot : Slot
  pub reply : Reply
  pub bytes : List ℕ

-- the reply, with the slot as it was
abbrev pub unchanged : Context → Reply → Answer
unchanged c reply = record { slot = Some c; reply = reply; bytes = [] }

abbrev pub refused : Context → Errno → Answer
refused c errno = unchanged c (Refused errno)

-- the reply, with the context after the effect, which settles
abbrev pub answered : Context → Reply → Answer
answered c reply = record { slot = Some (settle c); reply = reply; bytes = [] }

-- a refusal where there is one, else the effect
abbrev pub unless : Context → Option Errno → Answer → Answer
unless c (Some errno) effect = refused c errno
unless c None effect = effect

-- out of memory (ENOMEM) is an answer after every other test
abbrev pub if_found : Context → Bool → Answer → Answer
if_found c true effect = effect
if_found c false effect = refused c NoMem

-- Blocked while a job runs (docs/DEVICE.md, "What is our own"; the kernel waits in VIDIOC_STREAMOFF)
abbrev pub unless_running : Context → Answer → Answer
unless_running c effect = if is_none c.running then effect else unchanged c Blocked

-- Formats (VIDIOC_ENUM_FMT; VIDIOC_G_FMT, VIDIOC_S_FMT and VIDIOC_TRY_FMT)

abbrev pub desc_answer : Context → Option Fourcc → Answer
desc_answer c None = refused c Inval
desc_answer c (Some fourcc) = unchanged c (Desc fourcc)

abbrev pub format_answer : Context → Side → Answer
format_answer c side = unchanged c (Fmt (format_of c.formats side))

abbrev pub try_answer : Context → Side → Format → Answer
try_answer c side want =
    unchanged c (Fmt (format_of (formats_for c.kind side c.formats want) side))

abbrev pub set_refusal : Context → Side → Option Errno
set_refusal c Out = refuse_if (nat_lt 0 (buffer_count c.out) || nat_lt 0 (buffer_count c.cap)) Busy None
set_refusal c Cap = refuse_if (nat_lt 0 (buffer_count c.cap)) Busy None

-- what a new format of OUTPUT does beside: a decoder has no geometry, an encoder begins anew
abbrev pub after_new_format : Kind → Side → Context → Context
after_new_format Copy side c = c
after_new_format Enc Out c = record c { codec = reset c.codec }
after_new_format Enc Cap c = c
after_new_format Dec Out c = record c { geometry = None }
after_new_format Dec Cap c = c

abbrev pub set_answer : Context → Side → Format → Answer
set_answer c side want =
    let formats = formats_for c.kind side c.formats want in
    unless c (set_refusal c side) (answered (after_new_format c.kind side (record c { formats = formats })) (Fmt (format_of formats side)))

-- Buffers (VIDIOC_REQBUFS, VIDIOC_CREATE_BUFS, VIDIOC_QUERYBUF, VIDIOC_QBUF, VIDIOC_DQBUF)

-- what ReqBufs does beside: on OUTPUT the codec state is reset, and a decoder has no geometry
abbrev pub after_new_buffers : Kind → Side → Context → Context
after_new_buffers Copy side c = c
after_new_buffers Enc Out c = record c { codec = reset c.codec }
after_new_buffers Enc Cap c = c
after_new_buffers Dec Out c = record c { codec = reset c.codec; geometry = None }
after_new_buffers Dec Cap c = c

abbrev pub reqbufs_answer : Context → Side → ℕ → Bool → Answer
reqbufs_answer c side count found =
    let q = queue_of c side in
    unless c (reqbufs_refusal q) (if_found c found (answered (after_new_buffers c.kind side (with_queue c side (reqbufs_after q count (sizeimage c side)))) (Count (min count most_buffers))))

abbrev pub create_answer : Context → Side → ℕ → ℕ → Bool → Answer
create_answer c side count length found =
    let q = queue_of c side in
    unless c (create_refusal q count length) (if_found c found (answered (with_queue c side (create_after q count length)) (Created (buffer_count q) (created q count))))

abbrev pub query_answer : Context → Option Reply → Answer
query_answer c None = refused c Inval
query_answer c (Some reply) = unchanged c reply

-- an encoder takes whole pictures only (docs/DEVICE.md, "What is our own")
abbrev pub is_no_whole_picture : Context → Side → ℕ → Bool
is_no_whole_picture c Out used = is_enc c.kind && not (used == sizeimage c Out)
is_no_whole_picture c Cap used = false

abbrev pub qbuf_answer : Context → Side → ℕ → ℕ → Stamp → List ℕ → Answer
qbuf_answer c side index used stamp bytes =
    let q = queue_of c side in
    unless c (qbuf_refusal q index used (sizeimage c side))
    (unless c (refuse_if (is_no_whole_picture c side used) Inval None) (answered (with_queue c side (qbuf_after q index used stamp bytes)) Done))

-- whether the user took the LAST buffer
abbrev pub is_ended : Context → Side → Bool
is_ended c Out = false
is_ended c Cap = is_stopped c.phase

-- where waiting would help the reply is Blocked (O_NONBLOCK, VIDIOC_DQBUF and VIDIOC_DQEVENT)
abbrev pub unless_or_block : Context → Option Errno → Bool → Answer → Answer
unless_or_block c None block effect = effect
unless_or_block c (Some Again) block effect = if block then unchanged c Blocked else refused c Again
unless_or_block c (Some NoEnt) block effect = if block then unchanged c Blocked else refused c NoEnt
unless_or_block c (Some errno) block effect = refused c errno

-- the user took the final entry of CAPTURE's done list in phase Last ("Drain" of both chapters)
abbrev pub stop_at_last : Context → PhaseState → Bool → Context
stop_at_last c (last drain) true = record c { phase = stopped drain; mark = None }
stop_at_last c (last change) true = record c { phase = stopped change }
stop_at_last c phase emptied = c

abbrev pub after_taking : Context → Side → Context
after_taking c Out = c
after_taking c Cap = stop_at_last c c.phase (is_empty c.cap.done)

-- the front of done goes to the user, with its bytes
abbrev pub taken_answer : Context → Side → List Buffer → Answer
taken_answer c side [] = refused c Again
taken_answer c side (b ∷ rest) =
    record (answered (after_taking (with_queue c side (dqbuf_after (queue_of c side))) side) (taken b)) { bytes = b.bytes }

abbrev pub dqbuf_answer : Context → Side → Bool → Answer
dqbuf_answer c side block =
    let q = queue_of c side in
    unless_or_block c (dqbuf_refusal q (is_ended c side)) block (taken_answer c side q.done)

-- Streaming (VIDIOC_STREAMON, VIDIOC_STREAMOFF)

abbrev pub streamon_answer : Context → Side → Answer
streamon_answer c side =
    let q = queue_of c side in
    unless c (streamon_refusal q (sizeimage c side)) (answered (with_queue c side (streamon_after q)) Done)

-- a stop by a drain is over, and a stop by a change stays (docs/DEVICE.md, "What is our own")
abbrev pub without_drain_stop : PhaseState → PhaseState
without_drain_stop run = run
without_drain_stop (owe drain) = run
without_drain_stop (owe change) = owe change
without_drain_stop (last drain) = run
without_drain_stop (last change) = last change
without_drain_stop (stopped drain) = run
without_drain_stop (stopped change) = stopped change

-- the seek of a decoder ("Seek" of the stateful decoder)
abbrev pub after_output_off : Kind → Context → Context
after_output_off Copy c = c
after_output_off Enc c = c
after_output_off Dec c = record c { codec = reset c.codec }

-- the mark stays where the context stopped by a change (docs/DEVICE.md, "What is our own")
abbrev pub mark_after_restart : PhaseState → Option ℕ → Option ℕ
mark_after_restart run mark = None
mark_after_restart (owe drain) mark = None
mark_after_restart (owe change) mark = mark
mark_after_restart (last drain) mark = None
mark_after_restart (last change) mark = mark
mark_after_restart (stopped drain) mark = None
mark_after_restart (stopped change) mark = mark

-- an encoder begins anew when CAPTURE stops streaming ("Reset" of the stateful encoder)
abbrev pub after_capture_off : Kind → Context → Context
after_capture_off Copy c = c
after_capture_off Enc c = record c { codec = reset c.codec }
after_capture_off Dec c = c

abbrev pub streamoff_effect : Context → Side → Context
streamoff_effect c Out =
    after_output_off c.kind (record c { out = streamoff_after c.out; mark = None; phase = without_drain_stop c.phase })
streamoff_effect c Cap =
    if c.cap.streams then after_capture_off c.kind (record c { cap = streamoff_after c.cap; mark = mark_after_restart c.phase c.mark; phase = run }) else record c { cap = streamoff_after c.cap }

abbrev pub streamoff_answer : Context → Side → Answer
streamoff_answer c side = unless_running c (answered (streamoff_effect c side) Done)

-- Events (VIDIOC_SUBSCRIBE_EVENT, VIDIOC_UNSUBSCRIBE_EVENT, VIDIOC_DQEVENT)

abbrev pub subscribe_answer : Context → ℕ → Answer
subscribe_answer c event =
    unless c (event_refusal c.kind event) (answered (record c { events = subscribe_after c.events event }) Done)

abbrev pub unsubscribe_answer : Context → ℕ → Answer
unsubscribe_answer c event =
    unless c (event_refusal c.kind event) (answered (record c { events = unsubscribe_after c.events event }) Done)

abbrev pub dqevent_answer : Context → Bool → Answer
dqevent_answer c block =
    unless_or_block c (refuse_if (is_empty c.events.pending) NoEnt None) block (answered (record c { events = take_event_after c.events }) (event_reply c.events.pending))

-- STOP and START (VIDIOC_DECODER_CMD, VIDIOC_ENCODER_CMD; "Drain" of both chapters)

abbrev pub both_stream : Context → Bool
both_stream c = c.out.streams && c.cap.streams

abbrev pub stop_answer : Context → Answer
stop_answer c =
    if not (both_stream c) then unchanged c Done else
    (if is_some c.mark then refused c Busy else
    (if is_stopped_by_drain c.phase then unchanged c Done else
    answered (record c { mark = Some c.out.next_ordinal }) Done))

abbrev pub start_is_early : PhaseState → Option ℕ → Bool
start_is_early run mark = is_some mark
start_is_early (owe cause) mark = true
start_is_early (last cause) mark = true
start_is_early (stopped cause) mark = false

abbrev pub start_answer : Context → Answer
start_answer c =
    if not (both_stream c) then unchanged c Done else
    (if start_is_early c.phase c.mark then refused c Busy else
    (if not (long_enough c.cap (sizeimage c Cap)) then refused c Inval else
    answered (record c { phase = run }) Done))

abbrev pub command_answer : Context → ℕ → Answer
command_answer c cmd =
    if cmd == start_command then start_answer c else (if cmd == stop_command then stop_answer c else refused c Inval)

-- Controls (VIDIOC_G_CTRL, VIDIOC_S_CTRL; "Encoding Parameter Changes" of the stateful encoder)

-- the value of a control, where the kind has it (docs/DEVICE.md, "What is our own")
abbrev pub control_of : Kind → RunRates → ℕ → Option ℕ
control_of Copy rates id = None
control_of Enc rates id =
    if id == gop_control then Some rates.gop else
    (if id == iqp_control then Some rates.iqp else
    (if id == pqp_control then Some rates.pqp else
    (if id == least_output_control then Some 1 else None)))
control_of Dec rates id = if id == least_capture_control then Some 1 else None

-- the rates with a control set, where the kind has it, it is writable and the value is in range
abbrev pub with_control : Kind → RunRates → ℕ → ℕ → Option RunRates
with_control Copy rates id value = None
with_control Enc rates id value =
    if (id == gop_control) && (nat_le 1 value && nat_le value most_gop) then Some (record rates { gop = value }) else
    (if (id == iqp_control) && (nat_le 1 value && nat_le value most_quantiser) then Some (record rates { iqp = value }) else
    (if (id == pqp_control) && (nat_le 1 value && nat_le value most_quantiser) then Some (record rates { pqp = value }) else None))
with_control Dec rates id value = None

abbrev pub value_answer : Context → Option ℕ → Answer
value_answer c None = refused c Inval
value_answer c (Some value) = unchanged c (Value value)

abbrev pub control_answer : Context → Option RunRates → Answer
control_answer c None = refused c Inval
control_answer c (Some rates) = answered (record c { rates = rates }) Done

-- Poll ("V4L2 poll()")

abbrev pub readiness : Context → Reply
readiness c =
    Ready (not (is_empty c.cap.done) || is_stopped c.phase) (not (is_empty c.out.done)) (not (is_empty c.events.pending))

-- The answer of an open context.
unfoldable pub context_answer : Context → Call → List ℕ → Bool → Answer
context_answer c (Open kind) bytes found = refused c Busy
context_answer c Close bytes found =
    unless_running c (record { slot = None; reply = Done; bytes = [] })
context_answer c (EnumFmt side index) bytes found =
    desc_answer c (slice_get (formats_listed c.kind side c.formats) index)
context_answer c (GetFmt side) bytes found = format_answer c side
context_answer c (TryFmt side want) bytes found = try_answer c side want
context_answer c (SetFmt side want) bytes found = set_answer c side want
context_answer c (ReqBufs side count) bytes found = reqbufs_answer c side count found
context_answer c (CreateBufs side count length) bytes found = create_answer c side count length found
context_answer c (QueryBuf side index) bytes found = query_answer c (querybuf_reply (queue_of c side) index)
context_answer c (QBuf side index used stamp) bytes found = qbuf_answer c side index used stamp bytes
context_answer c (DqBuf side block) bytes found = dqbuf_answer c side block
context_answer c (StreamOn side) bytes found = streamon_answer c side
context_answer c (StreamOff side) bytes found = streamoff_answer c side
context_answer c (Subscribe event) bytes found = subscribe_answer c event
context_answer c (Unsubscribe event) bytes found = unsubscribe_answer c event
context_answer c (DqEvent block) bytes found = dqevent_answer c block
context_answer c (DecCmd cmd) bytes found = if is_dec c.kind then command_answer c cmd else refused c NoTty
context_answer c (EncCmd cmd) bytes found = if is_enc c.kind then command_answer c cmd else refused c NoTty
context_answer c (GetCtrl id) bytes found = value_answer c (control_of c.kind c.rates id)
context_answer c (SetCtrl id value) bytes found = control_answer c (with_control c.kind c.rates id value)
context_answer c Poll bytes found = unchanged c (readiness c)

-- The answer of a closed slot: only Open is a call for it.
unfoldable pub closed_answer : Call → Bool → Answer
closed_answer (Open kind) true = record { slot = Some (fresh_context kind); reply = Done; bytes = [] }
closed_answer (Open kind) false = record { slot = None; reply = Refused NoMem; bytes = [] }
closed_answer request found = record { slot = None; reply = Refused NoTty; bytes = [] }

-- the answer of a slot to a call
unfoldable pub answer : Slot → Call → List ℕ → Bool → Answer
answer None request bytes found = closed_answer request found
answer (Some c) request bytes found = context_answer c request bytes found
