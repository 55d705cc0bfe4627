-- No call changes which job runs in a slot. Each row changes queues, formats, events or phase, and the field of the
-- running job is written by claims and finishes alone.
use Rattle.std.proofs.Common.{ℕ, ◌≡◌, ◌==◌, Bool, true, false, not, cond, ◌&&◌, is_none, is_some, Option, Some, None, List, [], ◌∷◌, refl, ◌∙◌}
use Rattle.vc_model.proofs.AnswersKeepSound.{none_is}
use Rattle.vc_base.specs.declared.Side.{Side}
use Rattle.vc_base.specs.declared.Side.TheVariants.{Out, Cap}
use Rattle.vc_base.specs.declared.Kind.{Kind}
use Rattle.vc_base.specs.declared.Kind.TheVariants.{Copy, Enc, Dec}
use Rattle.vc_base.specs.declared.Fourcc.{Fourcc}
use Rattle.vc_base.specs.declared.Errno.{Errno}
use Rattle.vc_base.specs.declared.Errno.TheVariants.{NoEnt, Again, NoMem, Busy, Inval, NoTty, Pipe}
use Rattle.vc_base.specs.declared.Call.{Call}
use Rattle.vc_base.specs.declared.Call.TheVariants.{Open, Close, EnumFmt, GetFmt, TryFmt, SetFmt, ReqBufs, CreateBufs, QueryBuf, QBuf, DqBuf, StreamOn, StreamOff, Subscribe, Unsubscribe, DqEvent, DecCmd, EncCmd, GetCtrl, SetCtrl, Poll}
use Rattle.vc_base.specs.declared.Reply.{Reply}
use Rattle.vc_base.specs.declared.Reply.TheVariants.{Done, Blocked}
use Rattle.vc_base.specs.Buffers.{Buffer, QueueState, is_empty, with_index, held_refusal, refuse_if, create_refusal, create_after, qbuf_after, dqbuf_after}
use Rattle.vc_base.specs.Buffers.{dqbuf_refusal, reqbufs_after, streamon_refusal, streamon_after, streamoff_after, long_enough}
use Rattle.vc_model.specs.Formats.{formats_for}
use Rattle.vc_defs.specs.Encoder.{RunRates}
use Rattle.vc_model.specs.Context.{Context, Slot, Running, Cause, drain, change, PhaseState, run, owe, last, stopped, queue_of, with_queue, is_dec, is_enc, is_run, is_drained, sizeimage, settle, settle_drain, settle_last, give_last}
use Rattle.vc_model.specs.Answer.{Answer, unchanged, refused, unless, if_found, unless_or_block, desc_answer, set_refusal, after_new_format, after_new_buffers}
use Rattle.vc_model.specs.Answer.{query_answer, is_no_whole_picture, taken_answer, after_taking, stop_at_last, is_ended, streamoff_effect, without_drain_stop}
use Rattle.vc_model.specs.Answer.{after_output_off, mark_after_restart, after_capture_off, both_stream, stop_answer, start_is_early, start_answer}
use Rattle.vc_model.specs.Answer.{command_answer, value_answer, control_answer, context_answer, answer}
use Rattle.vc_model.specs.Phases.{is_stopped_by_drain}

-- the slot is closed, or its context has this job
unfoldable pub Lasts : Option Running → Slot → Type 0
Lasts o None = o ≡ None
Lasts o (Some c) = c.running ≡ o

-- Settling

given_runs : (c : Context) (cause : Cause) (ready : List Buffer) → (give_last c cause ready).running ≡ c.running
given_runs c cause [] = refl
given_runs c drain (b ∷ rest) = refl
given_runs c change (b ∷ rest) = refl

owed_runs : (c : Context) (phase : PhaseState) → (settle_last c phase).running ≡ c.running
owed_runs c run = refl
owed_runs c (owe cause) = given_runs c cause c.cap.ready
owed_runs c (last cause) = refl
owed_runs c (stopped cause) = refl

drained_runs : (c : Context) (b : Bool) → (cond b (record c { phase = owe drain }) c).running ≡ c.running
drained_runs c true = refl
drained_runs c false = refl

pub settle_runs : (c : Context) → (settle c).running ≡ c.running
unfolding settle
settle_runs c =
    owed_runs (settle_drain c) (settle_drain c).phase ∙ drained_runs c (is_run c.phase && (c.cap.streams && (is_none c.running && is_drained c.out.ready c.mark)))

-- Refusals

unless_lasts : (c : Context) (o : Option Errno) (a : Answer) → Lasts c.running a.slot → Lasts c.running (unless c o a).slot
unfolding Lasts
unless_lasts c None a h = h
unless_lasts c (Some e) a h = refl

found_lasts : (c : Context) (found : Bool) (a : Answer) → Lasts c.running a.slot → Lasts c.running (if_found c found a).slot
unfolding Lasts
found_lasts c true a h = h
found_lasts c false a h = refl

block_lasts : (c : Context) (o : Option Errno) (block : Bool) (a : Answer) → Lasts c.running a.slot → Lasts c.running (unless_or_block c o block a).slot
unfolding Lasts
block_lasts c None block a h = h
block_lasts c (Some Again) true a h = refl
block_lasts c (Some Again) false a h = refl
block_lasts c (Some NoEnt) true a h = refl
block_lasts c (Some NoEnt) false a h = refl
block_lasts c (Some NoMem) block a h = refl
block_lasts c (Some Busy) block a h = refl
block_lasts c (Some Inval) block a h = refl
block_lasts c (Some NoTty) block a h = refl
block_lasts c (Some Pipe) block a h = refl

either_lasts : (c : Context) (b : Bool) (x y : Answer) → Lasts c.running x.slot → Lasts c.running y.slot → Lasts c.running (cond b x y).slot
either_lasts c true x y h k = h
either_lasts c false x y h k = k

-- the effect leaves the job, and settling too
settled_lasts : (c x : Context) → x.running ≡ c.running → Lasts c.running (Some (settle x))
unfolding Lasts
settled_lasts c x e = settle_runs x ∙ e

-- Effects

format_runs : (kind : Kind) (side : Side) (c : Context) → (after_new_format kind side c).running ≡ c.running
format_runs Copy side c = refl
format_runs Enc Out c = refl
format_runs Enc Cap c = refl
format_runs Dec Out c = refl
format_runs Dec Cap c = refl

buffers_runs : (kind : Kind) (side : Side) (c : Context) → (after_new_buffers kind side c).running ≡ c.running
buffers_runs Copy side c = refl
buffers_runs Enc Out c = refl
buffers_runs Enc Cap c = refl
buffers_runs Dec Out c = refl
buffers_runs Dec Cap c = refl

pub queue_runs : (c : Context) (side : Side) (q : QueueState) → (with_queue c side q).running ≡ c.running
queue_runs c Out q = refl
queue_runs c Cap q = refl

last_runs : (c : Context) (phase : PhaseState) (emptied : Bool) → (stop_at_last c phase emptied).running ≡ c.running
last_runs c run emptied = refl
last_runs c (owe cause) emptied = refl
last_runs c (last drain) true = refl
last_runs c (last drain) false = refl
last_runs c (last change) true = refl
last_runs c (last change) false = refl
last_runs c (stopped cause) emptied = refl

taking_runs : (c : Context) (side : Side) → (after_taking c side).running ≡ c.running
taking_runs c Out = refl
taking_runs c Cap = last_runs c c.phase (is_empty c.cap.done)

taken_lasts : (c : Context) (side : Side) (ds : List Buffer) → Lasts c.running (taken_answer c side ds).slot
unfolding Lasts
taken_lasts c side [] = refl
taken_lasts c side (b ∷ rest) =
    settle_runs (after_taking (with_queue c side (dqbuf_after (queue_of c side))) side) ∙ (taking_runs (with_queue c side (dqbuf_after (queue_of c side))) side ∙ queue_runs c side (dqbuf_after (queue_of c side)))

output_runs : (kind : Kind) (c : Context) → (after_output_off kind c).running ≡ c.running
output_runs Copy c = refl
output_runs Enc c = refl
output_runs Dec c = refl

capture_runs : (kind : Kind) (c : Context) → (after_capture_off kind c).running ≡ c.running
capture_runs Copy c = refl
capture_runs Enc c = refl
capture_runs Dec c = refl

off_split : (c : Context) (b : Bool) → (cond b (after_capture_off c.kind (record c { cap = streamoff_after c.cap; mark = mark_after_restart c.phase c.mark; phase = run })) (record c { cap = streamoff_after c.cap })).running ≡ c.running
off_split c true =
    capture_runs c.kind (record c { cap = streamoff_after c.cap; mark = mark_after_restart c.phase c.mark; phase = run })
off_split c false = refl

off_runs : (c : Context) (side : Side) → (streamoff_effect c side).running ≡ c.running
off_runs c Out =
    output_runs c.kind (record c { out = streamoff_after c.out; mark = None; phase = without_drain_stop c.phase })
off_runs c Cap = off_split c c.cap.streams

-- Rows

desc_lasts : (c : Context) (o : Option Fourcc) → Lasts c.running (desc_answer c o).slot
unfolding Lasts
desc_lasts c None = refl
desc_lasts c (Some f) = refl

query_lasts : (c : Context) (o : Option Reply) → Lasts c.running (query_answer c o).slot
unfolding Lasts
query_lasts c None = refl
query_lasts c (Some r) = refl

value_lasts : (c : Context) (o : Option ℕ) → Lasts c.running (value_answer c o).slot
unfolding Lasts
value_lasts c None = refl
value_lasts c (Some v) = refl

control_lasts : (c : Context) (o : Option RunRates) → Lasts c.running (control_answer c o).slot
unfolding Lasts
control_lasts c None = refl
control_lasts c (Some rates) = settle_runs (record c { rates = rates })

same_lasts : (c : Context) → Lasts c.running (Some c)
unfolding Lasts
same_lasts c = refl

command_lasts : (c : Context) (cmd : ℕ) → Lasts c.running (command_answer c cmd).slot
command_lasts c cmd =
    either_lasts c (cmd == 0) (start_answer c) (cond (cmd == 1) (stop_answer c) (refused c Inval))
    (either_lasts c (not (both_stream c)) _ _ (same_lasts c)
    (either_lasts c (start_is_early c.phase c.mark) _ _ (same_lasts c)
    (either_lasts c (not (long_enough c.cap (sizeimage c Cap))) _ _ (same_lasts c) (settled_lasts c (record c { phase = run }) refl))))
    (either_lasts c (cmd == 1) (stop_answer c) (refused c Inval)
    (either_lasts c (not (both_stream c)) _ _ (same_lasts c)
    (either_lasts c (is_some c.mark) _ _ (same_lasts c) (either_lasts c (is_stopped_by_drain c.phase) _ _ (same_lasts c) (settled_lasts c (record c { mark = Some c.out.next_ordinal }) refl))))
    (same_lasts c))

close_lasts : (c : Context) (b : Bool) → is_none c.running ≡ b → Lasts c.running (cond b (record { slot = None; reply = Done; bytes = [] }) (unchanged c Blocked)).slot
unfolding Lasts
close_lasts c true e = none_is c.running e
close_lasts c false e = refl

row_lasts : (c : Context) (request : Call) (bytes : List ℕ) (found : Bool) → Lasts c.running (context_answer c request bytes found).slot
unfolding context_answer
row_lasts c (Open kind) bytes found = same_lasts c
row_lasts c Close bytes found = close_lasts c (is_none c.running) refl
row_lasts c (EnumFmt side index) bytes found = desc_lasts c _
row_lasts c (GetFmt side) bytes found = same_lasts c
row_lasts c (TryFmt side want) bytes found = same_lasts c
row_lasts c (SetFmt side want) bytes found =
    unless_lasts c (set_refusal c side) _
    (settled_lasts c (after_new_format c.kind side (record c { formats = formats_for c.kind side c.formats want }))
    (format_runs c.kind side (record c { formats = formats_for c.kind side c.formats want })))
row_lasts c (ReqBufs side count) bytes found =
    unless_lasts c _ _
    (found_lasts c found _
    (settled_lasts c (after_new_buffers c.kind side (with_queue c side (reqbufs_after (queue_of c side) count (sizeimage c side))))
    (buffers_runs c.kind side (with_queue c side (reqbufs_after (queue_of c side) count (sizeimage c side))) ∙ queue_runs c side _)))
row_lasts c (CreateBufs side count length) bytes found =
    unless_lasts c (create_refusal (queue_of c side) count length) _
    (found_lasts c found _ (settled_lasts c (with_queue c side (create_after (queue_of c side) count length)) (queue_runs c side (create_after (queue_of c side) count length))))
row_lasts c (QueryBuf side index) bytes found = query_lasts c _
row_lasts c (QBuf side index used stamp) bytes found =
    unless_lasts c (held_refusal (queue_of c side).side (with_index index (queue_of c side).held) used (sizeimage c side)) _
    (unless_lasts c (refuse_if (is_no_whole_picture c side used) Inval None) _
    (settled_lasts c (with_queue c side (qbuf_after (queue_of c side) index used stamp bytes)) (queue_runs c side (qbuf_after (queue_of c side) index used stamp bytes))))
row_lasts c (DqBuf side block) bytes found =
    block_lasts c (dqbuf_refusal (queue_of c side) (is_ended c side)) block _ (taken_lasts c side (queue_of c side).done)
row_lasts c (StreamOn side) bytes found =
    unless_lasts c (streamon_refusal (queue_of c side) (sizeimage c side)) _ (settled_lasts c (with_queue c side (streamon_after (queue_of c side))) (queue_runs c side (streamon_after (queue_of c side))))
row_lasts c (StreamOff side) bytes found =
    either_lasts c (is_none c.running) _ _ (settled_lasts c (streamoff_effect c side) (off_runs c side)) (same_lasts c)
row_lasts c (Subscribe event) bytes found = unless_lasts c _ _ (settled_lasts c _ refl)
row_lasts c (Unsubscribe event) bytes found = unless_lasts c _ _ (settled_lasts c _ refl)
row_lasts c (DqEvent block) bytes found = block_lasts c _ block _ (settled_lasts c _ refl)
row_lasts c (DecCmd cmd) bytes found = either_lasts c (is_dec c.kind) _ _ (command_lasts c cmd) (same_lasts c)
row_lasts c (EncCmd cmd) bytes found = either_lasts c (is_enc c.kind) _ _ (command_lasts c cmd) (same_lasts c)
row_lasts c (GetCtrl id) bytes found = value_lasts c _
row_lasts c (SetCtrl id value) bytes found = control_lasts c _
row_lasts c Poll bytes found = same_lasts c

pub answer_lasts : (c : Context) (request : Call) (bytes : List ℕ) (found : Bool) → Lasts c.running (answer (Some c) request bytes found).slot
unfolding answer
answer_lasts c request bytes found = row_lasts c request bytes found
