-- An encoder's OUTPUT format is always in range: it is at Open, SetFmt sets the nearest that is, and nothing else sets it, since
-- only a decoder's runs bring formats.
use Rattle.std.proofs.Common.{ℕ, ◌≡◌, ◌≤◌, ◌+◌, ◌*◌, ◌%◌, ◌==◌, Bool, true, false, not, cond, ◌&&◌, is_none, is_some, Option, Some, None, List, [], ◌∷◌, length, refl, sym, ◌∙◌, subst, arith}
use Rattle.vc_base.specs.declared.Stamp.{Stamp}
use Rattle.vc_base.specs.declared.Side.{Side}
use Rattle.vc_base.specs.declared.Side.TheVariants.{Out, Cap}
use Rattle.vc_base.specs.declared.Kind.{Kind}
use Rattle.vc_base.specs.declared.Kind.TheVariants.{Copy, Enc, Dec}
use Rattle.vc_base.specs.declared.Fourcc.{Fourcc}
use Rattle.vc_base.specs.declared.Format.{Format}
use Rattle.vc_base.specs.declared.Errno.{Errno}
use Rattle.vc_base.specs.declared.Errno.TheVariants.{NoEnt, Again, NoMem, Busy, Inval, NoTty, Pipe}
use Rattle.vc_base.specs.declared.Call.{Call}
use Rattle.vc_base.specs.declared.Call.TheVariants.{Open, Close, EnumFmt, GetFmt, TryFmt, SetFmt, ReqBufs, CreateBufs, QueryBuf, QBuf, DqBuf, StreamOn, StreamOff, Subscribe, Unsubscribe, DqEvent, DecCmd, EncCmd, GetCtrl, SetCtrl, Poll}
use Rattle.vc_base.specs.declared.Reply.{Reply}
use Rattle.vc_base.specs.declared.Reply.TheVariants.{Done, Created, Blocked}
use Rattle.vc_base.specs.Buffers.{Buffer, QueueState, buffer_count, is_empty, refuse_if, with_index, held_refusal, long_enough, reqbufs_after, create_refusal}
use Rattle.vc_base.specs.Buffers.{create_after, created, qbuf_after, dqbuf_after, streamon_refusal, streamon_after, streamoff_after, dqbuf_refusal, lend_after}
use Rattle.vc_base.specs.Buffers.{retire_after, zero_stamp}
use Rattle.vc_base.specs.Limits.{last_flag, error_flag, source_change_event, resolution_change}
use Rattle.vc_base.specs.Events.{EventState, raise_after}
use Rattle.vc_defs.specs.declared.Layout.{Layout}
use Rattle.vc_defs.specs.declared.Layout.TheVariants.{Grey, C420, C422}
use Rattle.vc_defs.specs.Raw.{grey, yu12, nv12, yuyv, layout_of}
use Rattle.vc_defs.specs.Decoder.{DecodedStep, DecodedResult, picture, damaged, changed, spent, step_outcome}
use Rattle.vc_defs.specs.Encoder.{RunRates}
use Rattle.vc_model.specs.Formats.{FormatPair, formats_at_open, formats_for, formats_found, clamp, listed_or, width_for, height_for}
use Rattle.vc_model.specs.Coder.{Coder, CodecState, encoder, decoder, reset}
use Rattle.vc_model.specs.Context.{Context, Slot, Running, RunSort, Cause, drain, change, PhaseState, run, owe, last, stopped, queue_of, with_queue, is_dec, is_enc}
use Rattle.vc_model.specs.Context.{is_drained, sizeimage, raise_end, settle, settle_drain, settle_last, give_last}
use Rattle.vc_model.specs.Answer.{Answer, unchanged, refused, answered, unless, if_found, unless_or_block, desc_answer, set_answer, set_refusal}
use Rattle.vc_model.specs.Answer.{after_new_format, reqbufs_answer, after_new_buffers, create_answer, query_answer, qbuf_answer, is_no_whole_picture}
use Rattle.vc_model.specs.Answer.{taken_answer, after_taking, stop_at_last, is_ended, streamon_answer, streamoff_answer, streamoff_effect, without_drain_stop}
use Rattle.vc_model.specs.Answer.{after_output_off, mark_after_restart, after_capture_off, both_stream, stop_answer, start_is_early, start_answer}
use Rattle.vc_model.specs.Answer.{command_answer, value_answer, control_answer, context_answer, closed_answer, answer}
use Rattle.vc_model.specs.Phases.{is_stopped_by_drain}
use Rattle.vc_model.specs.Runs.{is_claimable, sort_of, claim_front, after_claim, JobData, job_data, RunResult, copied, encoded, decoded, run_result}
use Rattle.vc_model.specs.Runs.{source_done, source_back, dest_done, dest_back, type_flag, source_moved, decoded_effect, run_effect, fault_effect, after_finish}
use Rattle.vc_model.specs.Solo.{SoloEvent, Called, Claims, Finishes, solo_step, solo_slot, claim_step, solo_finish, finish_step}
use Rattle.vc_model.specs.Sound.{IsSoundButUnsettled, IsOrderedSlot}
use Rattle.vc_model.proofs.EventsKeepSound.{run_fits, HasResult, step_sound}

abbrev pub InRange : Format → Type 0
InRange format = (format.width ≤ 4096) × (format.height ≤ 2160)

-- an encoder's OUTPUT format is in range
abbrev pub HasSizes : Kind → FormatPair → Type 0
HasSizes Copy formats = Unit {0}
HasSizes Enc formats = InRange formats.out
HasSizes Dec formats = Unit {0}

IsSized : Context → Type 0
IsSized c = HasSizes c.kind c.formats

-- Formats

clamped : (least most n : ℕ) → least ≤ most → clamp least most n ≤ most
clamped least most n h = omega arith

even_raised : (n m : ℕ) → n ≤ 2 * m → n + n % 2 ≤ 2 * m
even_raised n m h = omega arith

width_fits : (layout : Layout) (n : ℕ) → width_for layout n ≤ 4096
width_fits Grey n = clamped 16 4096 n (omega arith)
width_fits C420 n = even_raised (clamp 16 4096 n) 2048 (clamped 16 4096 n (omega arith))
width_fits C422 n = even_raised (clamp 16 4096 n) 2048 (clamped 16 4096 n (omega arith))

height_fits : (layout : Layout) (n : ℕ) → height_for layout n ≤ 2160
height_fits Grey n = clamped 16 2160 n (omega arith)
height_fits C420 n = even_raised (clamp 16 2160 n) 1080 (clamped 16 2160 n (omega arith))
height_fits C422 n = clamped 16 2160 n (omega arith)

formats_sized : (kind : Kind) (side : Side) (present : FormatPair) (want : Format) → HasSizes kind present → HasSizes kind (formats_for kind side present want)
formats_sized Copy side present want h = tt
formats_sized Enc Out present want h =
    let layout = layout_of (listed_or (grey ∷ yu12 ∷ nv12 ∷ yuyv ∷ []) want.fourcc yu12) in (width_fits layout want.width, height_fits layout want.height)
formats_sized Enc Cap present want h = h
formats_sized Dec Out present want h = tt
formats_sized Dec Cap present want h = tt

opened_sized : (kind : Kind) → HasSizes kind (formats_at_open kind)
opened_sized Copy = tt
opened_sized Enc = (omega arith, omega arith)
opened_sized Dec = tt

-- Settling

raised_sized : (cause : Cause) (c : Context) → IsSized c → IsSized (raise_end cause c)
unfolding IsSized
raised_sized drain c w = w
raised_sized change c w = w

given_sized : (c : Context) (cause : Cause) (ready : List Buffer) → IsSized c → IsSized (give_last c cause ready)
unfolding IsSized
given_sized c cause [] w = w
given_sized c cause (b ∷ rest) w =
    raised_sized cause (record c { cap = retire_after (lend_after c.cap) 0 [] last_flag zero_stamp; phase = last cause }) w

owed_sized : (c : Context) (phase : PhaseState) → IsSized c → IsSized (settle_last c phase)
owed_sized c run w = w
owed_sized c (owe cause) w = given_sized c cause c.cap.ready w
owed_sized c (last cause) w = w
owed_sized c (stopped cause) w = w

drained_sized : (c : Context) (b : Bool) → IsSized c → IsSized (cond b (record c { phase = owe drain }) c)
unfolding IsSized
drained_sized c true w = w
drained_sized c false w = w

settle_sized : (c : Context) → IsSized c → IsSized (settle c)
unfolding settle
settle_sized c w = let d = settle_drain c in owed_sized d d.phase (drained_sized c _ w)

-- Answers

SizedSlot : Slot → Type 0
SizedSlot None = Unit {0}
SizedSlot (Some c) = IsSized c

here : (c : Context) → IsSized c → SizedSlot (Some c)
unfolding SizedSlot
here c w = w

then_settled : (x : Context) → IsSized x → SizedSlot (Some (settle x))
unfolding SizedSlot
then_settled x w = settle_sized x w

unless_sized : (c : Context) (o : Option Errno) (a : Answer) → IsSized c → SizedSlot a.slot → SizedSlot (unless c o a).slot
unless_sized c None a w h = h
unless_sized c (Some e) a w h = here c w

found_sized : (c : Context) (found : Bool) (a : Answer) → IsSized c → SizedSlot a.slot → SizedSlot (if_found c found a).slot
found_sized c true a w h = h
found_sized c false a w h = here c w

block_sized : (c : Context) (o : Option Errno) (block : Bool) (a : Answer) → IsSized c → SizedSlot a.slot → SizedSlot (unless_or_block c o block a).slot
block_sized c None block a w h = h
block_sized c (Some Again) true a w h = here c w
block_sized c (Some Again) false a w h = here c w
block_sized c (Some NoEnt) true a w h = here c w
block_sized c (Some NoEnt) false a w h = here c w
block_sized c (Some NoMem) block a w h = here c w
block_sized c (Some Busy) block a w h = here c w
block_sized c (Some Inval) block a w h = here c w
block_sized c (Some NoTty) block a w h = here c w
block_sized c (Some Pipe) block a w h = here c w

either : (b : Bool) (a d : Answer) → SizedSlot a.slot → SizedSlot d.slot → SizedSlot (cond b a d).slot
either true a d n m = n
either false a d n m = m

desc_sized : (c : Context) (o : Option Fourcc) → IsSized c → SizedSlot (desc_answer c o).slot
desc_sized c None w = here c w
desc_sized c (Some f) w = here c w

new_format_sized : (kind : Kind) (side : Side) (x : Context) → IsSized x → IsSized (after_new_format kind side x)
unfolding IsSized
new_format_sized Copy side x w = w
new_format_sized Enc Out x w = w
new_format_sized Enc Cap x w = w
new_format_sized Dec Out x w = w
new_format_sized Dec Cap x w = w

with_formats : (c : Context) (side : Side) (want : Format) → IsSized c → IsSized (record c { formats = formats_for c.kind side c.formats want })
unfolding IsSized
with_formats c side want w = formats_sized c.kind side c.formats want w

set_sized : (c : Context) (side : Side) (want : Format) → IsSized c → SizedSlot (set_answer c side want).slot
set_sized c side want w =
    unless_sized c (set_refusal c side) _ w (then_settled _ (new_format_sized c.kind side _ (with_formats c side want w)))

new_buffers_sized : (kind : Kind) (side : Side) (x : Context) → IsSized x → IsSized (after_new_buffers kind side x)
unfolding IsSized
new_buffers_sized Copy side x w = w
new_buffers_sized Enc Out x w = w
new_buffers_sized Enc Cap x w = w
new_buffers_sized Dec Out x w = w
new_buffers_sized Dec Cap x w = w

queue_sized : (c : Context) (side : Side) (q : QueueState) → IsSized c → IsSized (with_queue c side q)
unfolding IsSized
queue_sized c Out q w = w
queue_sized c Cap q w = w

reqbufs_sized : (c : Context) (side : Side) (count : ℕ) (found : Bool) → IsSized c → SizedSlot (reqbufs_answer c side count found).slot
reqbufs_sized c side count found w =
    let q = reqbufs_after (queue_of c side) count (sizeimage c side) in
    let x = with_queue c side q in
    unless_sized c (refuse_if (queue_of c side).streams Busy None) _ w (found_sized c found _ w (then_settled (after_new_buffers c.kind side x) (new_buffers_sized c.kind side x (queue_sized c side q w))))

create_sized : (c : Context) (side : Side) (count size : ℕ) (found : Bool) → IsSized c → SizedSlot (create_answer c side count size found).slot
create_sized c side count size found w =
    let q = queue_of c side in
    let x = with_queue c side (create_after q count size) in
    let a = answered x (Created (buffer_count q) (created q count)) in
    unless_sized c (create_refusal q count size) (if_found c found a) w (found_sized c found a w (then_settled x (queue_sized c side (create_after q count size) w)))

query_sized : (c : Context) (o : Option Reply) → IsSized c → SizedSlot (query_answer c o).slot
query_sized c None w = here c w
query_sized c (Some reply) w = here c w

streamon_sized : (c : Context) (side : Side) → IsSized c → SizedSlot (streamon_answer c side).slot
streamon_sized c side w =
    let q = streamon_after (queue_of c side) in
    unless_sized c (streamon_refusal (queue_of c side) (sizeimage c side)) (answered (with_queue c side q) Done) w (then_settled (with_queue c side q) (queue_sized c side q w))

qbuf_sized : (c : Context) (side : Side) (index used : ℕ) (stamp : Stamp) (bytes : List ℕ) → IsSized c → SizedSlot (qbuf_answer c side index used stamp bytes).slot
qbuf_sized c side index used stamp bytes w =
    let q = queue_of c side in
    let x = with_queue c side (qbuf_after q index used stamp bytes) in
    let o = refuse_if (is_no_whole_picture c side used) Inval None in
    unless_sized c (held_refusal q.side (with_index index q.held) used (sizeimage c side)) (unless c o (answered x Done)) w
    (unless_sized c o (answered x Done) w (then_settled x (queue_sized c side (qbuf_after q index used stamp bytes) w)))

-- DqBuf

stop_sized : (x : Context) (p : PhaseState) (b : Bool) → IsSized x → IsSized (stop_at_last x p b)
unfolding IsSized
stop_sized x run b w = w
stop_sized x (owe cause) b w = w
stop_sized x (last drain) true w = w
stop_sized x (last drain) false w = w
stop_sized x (last change) true w = w
stop_sized x (last change) false w = w
stop_sized x (stopped cause) b w = w

take_sized : (c : Context) (side : Side) (ds : List Buffer) → IsSized c → SizedSlot (taken_answer c side ds).slot
take_sized c side [] w = here c w
take_sized c Out (b ∷ rest) w = then_settled (record c { out = dqbuf_after c.out }) (queue_sized c Out (dqbuf_after c.out) w)
take_sized c Cap (b ∷ rest) w =
    let x = record c { cap = dqbuf_after c.cap } in
    then_settled (after_taking x Cap) (stop_sized x x.phase (is_empty x.cap.done) (queue_sized c Cap (dqbuf_after c.cap) w))

-- StreamOff

output_off_sized : (kind : Kind) (x : Context) → IsSized x → IsSized (after_output_off kind x)
unfolding IsSized
output_off_sized Copy x w = w
output_off_sized Enc x w = w
output_off_sized Dec x w = w

capture_off_sized : (kind : Kind) (x : Context) → IsSized x → IsSized (after_capture_off kind x)
unfolding IsSized
capture_off_sized Copy x w = w
capture_off_sized Enc x w = w
capture_off_sized Dec x w = w

-- other queues, phase, mark, events and rates
moved_sized : (c : Context) (out cap : QueueState) (phase : PhaseState) (mark : Option ℕ) (events : EventState) (rates : RunRates) → IsSized c → IsSized (record c { out = out; cap = cap; phase = phase; mark = mark; events = events; rates = rates })
unfolding IsSized
moved_sized c out cap phase mark events rates w = w

capture_split : (c : Context) (b : Bool) → IsSized c → IsSized (cond b (after_capture_off c.kind (record c { cap = streamoff_after c.cap; mark = mark_after_restart c.phase c.mark; phase = run })) (record c { cap = streamoff_after c.cap }))
capture_split c true w =
    capture_off_sized c.kind (record c { cap = streamoff_after c.cap; mark = mark_after_restart c.phase c.mark; phase = run })
    (moved_sized c c.out (streamoff_after c.cap) run (mark_after_restart c.phase c.mark) c.events c.rates w)
capture_split c false w = queue_sized c Cap (streamoff_after c.cap) w

off_sized : (c : Context) (side : Side) → IsSized c → IsSized (streamoff_effect c side)
off_sized c Out w =
    output_off_sized c.kind (record c { out = streamoff_after c.out; mark = None; phase = without_drain_stop c.phase })
    (moved_sized c (streamoff_after c.out) c.cap (without_drain_stop c.phase) None c.events c.rates w)
off_sized c Cap w = capture_split c c.cap.streams w

streamoff_sized : (c : Context) (side : Side) → IsSized c → SizedSlot (streamoff_answer c side).slot
streamoff_sized c side w =
    either (is_none c.running) (answered (streamoff_effect c side) Done) (unchanged c Blocked) (then_settled (streamoff_effect c side) (off_sized c side w)) (here c w)

-- Events, commands and controls

with_events : (c : Context) (events : EventState) → IsSized c → IsSized (record c { events = events })
with_events c events w = moved_sized c c.out c.cap c.phase c.mark events c.rates w

events_sized : (c : Context) (o : Option Errno) (events : EventState) (reply : Reply) → IsSized c → SizedSlot (unless c o (answered (record c { events = events }) reply)).slot
events_sized c o events reply w =
    unless_sized c o (answered (record c { events = events }) reply) w (then_settled (record c { events = events }) (with_events c events w))

taken_event_sized : (c : Context) (o : Option Errno) (block : Bool) (events : EventState) (reply : Reply) → IsSized c → SizedSlot (unless_or_block c o block (answered (record c { events = events }) reply)).slot
taken_event_sized c o block events reply w =
    block_sized c o block (answered (record c { events = events }) reply) w (then_settled (record c { events = events }) (with_events c events w))

stop_answer_sized : (c : Context) → IsSized c → SizedSlot (stop_answer c).slot
stop_answer_sized c w =
    let x = record c { mark = Some c.out.next_ordinal } in
    either (not (both_stream c)) (unchanged c Done) _ (here c w)
    (either (is_some c.mark) (refused c Busy) _ (here c w)
    (either (is_stopped_by_drain c.phase) (unchanged c Done) (answered x Done) (here c w) (then_settled x (moved_sized c c.out c.cap c.phase (Some c.out.next_ordinal) c.events c.rates w))))

start_sized : (c : Context) → IsSized c → SizedSlot (start_answer c).slot
start_sized c w =
    let x = record c { phase = run } in
    either (not (both_stream c)) (unchanged c Done) _ (here c w)
    (either (start_is_early c.phase c.mark) (refused c Busy) _ (here c w)
    (either (not (long_enough c.cap (sizeimage c Cap))) (refused c Inval) (answered x Done) (here c w) (then_settled x (moved_sized c c.out c.cap run c.mark c.events c.rates w))))

command_sized : (c : Context) (cmd : ℕ) → IsSized c → SizedSlot (command_answer c cmd).slot
command_sized c cmd w =
    either (cmd == 0) (start_answer c) _ (start_sized c w) (either (cmd == 1) (stop_answer c) (refused c Inval) (stop_answer_sized c w) (here c w))

value_sized : (c : Context) (o : Option ℕ) → IsSized c → SizedSlot (value_answer c o).slot
value_sized c None w = here c w
value_sized c (Some v) w = here c w

control_sized : (c : Context) (o : Option RunRates) → IsSized c → SizedSlot (control_answer c o).slot
control_sized c None w = here c w
control_sized c (Some rates) w =
    then_settled (record c { rates = rates }) (moved_sized c c.out c.cap c.phase c.mark c.events rates w)

context_sized : (c : Context) (request : Call) (bytes : List ℕ) (found : Bool) → IsSized c → SizedSlot (context_answer c request bytes found).slot
unfolding context_answer SizedSlot
context_sized c (Open kind) bytes found w = w
context_sized c Close bytes found w =
    either (is_none c.running) (record { slot = None; reply = Done; bytes = [] }) (unchanged c Blocked) tt w
context_sized c (EnumFmt on index) bytes found w = desc_sized c _ w
context_sized c (GetFmt on) bytes found w = w
context_sized c (TryFmt on want) bytes found w = w
context_sized c (SetFmt on want) bytes found w = set_sized c on want w
context_sized c (ReqBufs on count) bytes found w = reqbufs_sized c on count found w
context_sized c (CreateBufs on count length) bytes found w = create_sized c on count length found w
context_sized c (QueryBuf on index) bytes found w = query_sized c _ w
context_sized c (QBuf on index used stamp) bytes found w = qbuf_sized c on index used stamp bytes w
context_sized c (DqBuf from block) bytes found w =
    block_sized c (dqbuf_refusal (queue_of c from) (is_ended c from)) block (taken_answer c from (queue_of c from).done) w (take_sized c from (queue_of c from).done w)
context_sized c (StreamOn on) bytes found w = streamon_sized c on w
context_sized c (StreamOff on) bytes found w = streamoff_sized c on w
context_sized c (Subscribe event) bytes found w = events_sized c _ _ Done w
context_sized c (Unsubscribe event) bytes found w = events_sized c _ _ Done w
context_sized c (DqEvent block) bytes found w = taken_event_sized c _ block _ _ w
context_sized c (DecCmd cmd) bytes found w =
    either (is_dec c.kind) (command_answer c cmd) (refused c NoTty) (command_sized c cmd w) w
context_sized c (EncCmd cmd) bytes found w =
    either (is_enc c.kind) (command_answer c cmd) (refused c NoTty) (command_sized c cmd w) w
context_sized c (GetCtrl id) bytes found w = value_sized c _ w
context_sized c (SetCtrl id value) bytes found w = control_sized c _ w
context_sized c Poll bytes found w = w

closed_sized : (request : Call) (found : Bool) → SizedSlot (closed_answer request found).slot
unfolding closed_answer SizedSlot IsSized
closed_sized (Open kind) true = opened_sized kind
closed_sized (Open kind) false = tt
closed_sized request found = tt

answer_sized : (s : Slot) (request : Call) (bytes : List ℕ) (found : Bool) → SizedSlot s → SizedSlot (answer s request bytes found).slot
unfolding answer SizedSlot
answer_sized None request bytes found w = closed_sized request found
answer_sized (Some c) request bytes found w = context_sized c request bytes found w

-- Claims

claimed_sized : (c : Context) (sort : RunSort) (ready : List Buffer) → IsSized c → IsSized (claim_front c sort ready)
unfolding IsSized
claimed_sized c sort [] w = w
claimed_sized c sort (b ∷ rest) w = w

claim_step_sized : (s : Slot) (b : Bool) → SizedSlot s → SizedSlot (claim_step s b).slot
unfolding SizedSlot after_claim
claim_step_sized None b w = tt
claim_step_sized (Some c) true w = claimed_sized c (sort_of c.kind c.geometry) c.out.ready w
claim_step_sized (Some c) false w = w

-- Finishes

done_sized : (c : Context) (j : JobData) (flags : ℕ) → IsSized c → IsSized (source_done c j flags)
unfolding IsSized
done_sized c j flags w = w

moved_source_sized : (c : Context) (j : JobData) (cursor : ℕ) (b : Bool) → IsSized c → IsSized (source_moved c j cursor b)
unfolding IsSized
moved_source_sized c j cursor true w = w
moved_source_sized c j cursor false w = w

dest_split_sized :
    (c : Context) (used : ℕ) (bytes : List ℕ) (flags : ℕ) (stamp : Stamp) (b : Bool) → IsSized c
    → IsSized (cond b (raise_end drain (record c { cap = retire_after c.cap used bytes (flags + last_flag) stamp; phase = last drain })) (record c { cap = retire_after c.cap used bytes flags stamp }))
unfolding IsSized
dest_split_sized c used bytes flags stamp true w = w
dest_split_sized c used bytes flags stamp false w = w

dest_sized : (c : Context) (dest : List Buffer) (used_up : Bool) (used : ℕ) (bytes : List ℕ) (flags : ℕ) (stamp : Stamp) → IsSized c → IsSized (dest_done c dest used_up used bytes flags stamp)
dest_sized c [] used_up used bytes flags stamp w = w
dest_sized c (b ∷ rest) used_up used bytes flags stamp w = dest_split_sized c used bytes flags stamp (used_up && is_drained c.out.ready c.mark) w

with_codec : (c : Context) (codec : CodecState) → IsSized c → IsSized (record c { codec = codec })
unfolding IsSized
with_codec c codec w = w

without_running : (c : Context) → IsSized c → IsSized (record c { running = None })
unfolding IsSized
without_running c w = w

-- a decoder has no sizes to keep
decoder_sized : (c : Context) → c.kind ≡ Dec → IsSized c
unfolding IsSized
decoder_sized c e = subst (λ k. HasSizes k c.formats) (sym e) tt

back_kind : (c : Context) (dest : List Buffer) → (dest_back c dest).kind ≡ c.kind
back_kind c [] = refl
back_kind c (b ∷ rest) = refl

change_sized : (x : Context) (b : Bool) → IsSized x → IsSized (cond b (record x { phase = owe change }) x)
unfolding IsSized
change_sized x true w = w
change_sized x false w = w

decoded_sized : (c : Context) (j : JobData) (cursor : ℕ) (result : DecodedResult) → c.kind ≡ Dec → IsSized (decoded_effect c j cursor result)
decoded_sized c j cursor (picture bytes key stamp) e =
    let up = cursor == j.source.used in
    dest_sized (source_moved c j cursor up) j.dest up (length bytes) bytes (type_flag key) stamp (moved_source_sized c j cursor up (decoder_sized c e))
decoded_sized c j cursor (damaged stamp) e =
    let up = cursor == j.source.used in
    dest_sized (source_moved c j cursor up) j.dest up 0 [] error_flag stamp (moved_source_sized c j cursor up (decoder_sized c e))
decoded_sized c j cursor (changed geometry) e =
    let here = dest_back (source_back c j cursor) j.dest in
    let x = record here { geometry = Some geometry; formats = formats_found here.formats geometry; events = raise_after here.events source_change_event resolution_change } in
    change_sized x x.cap.streams (decoder_sized x (back_kind (source_back c j cursor) j.dest ∙ e))
decoded_sized c j cursor spent e = decoder_sized (dest_back (source_done c j 0) j.dest) (back_kind (source_done c j 0) j.dest ∙ e)

dec_kind : (kind : Kind) (step : DecodedStep) → HasResult kind (decoded step) → kind ≡ Dec
unfolding HasResult
dec_kind Copy step h = absurd h
dec_kind Enc step h = absurd h
dec_kind Dec step h = refl

run_sized : (c : Context) (j : JobData) (result : RunResult) → HasResult c.kind result → IsSized c → IsSized (run_effect c j result)
run_sized c j (copied bytes) h w =
    dest_sized (source_done c j 0) j.dest true (length bytes) bytes 0 j.source.stamp (done_sized c j 0 w)
run_sized c j (encoded frame) h w =
    let x = record c { codec = encoder frame.state } in
    dest_sized (source_done x j 0) j.dest true (length frame.bytes) frame.bytes (type_flag frame.key) j.source.stamp (done_sized x j 0 (with_codec c (encoder frame.state) w))
run_sized c j (decoded step) h w =
    decoded_sized (record c { codec = decoder step.state }) j (j.source.cursor + step.moved) (step_outcome j.format.fourcc step) (dec_kind c.kind step h)

fault_sized : (c : Context) (j : JobData) → IsSized c → IsSized (fault_effect c j)
fault_sized c j w =
    let x = record c { codec = reset c.codec } in
    dest_sized (source_done x j error_flag) j.dest true 0 [] error_flag j.source.stamp (done_sized x j error_flag (with_codec c (reset c.codec) w))

finish_sized : (coder : Coder) (c : Context) (r : Running) (fault : Bool) → IsSoundButUnsettled c → IsSized c → IsSized (after_finish coder c r fault)
unfolding after_finish run_result
finish_sized coder c r true x w =
    let y = record c { running = None } in settle_sized (fault_effect y (job_data c r)) (fault_sized y (job_data c r) (without_running c w))
finish_sized coder c r false x w =
    let y = record c { running = None } in
    let j = job_data c r in
    settle_sized (run_effect y j (run_result coder j)) (run_sized y j (run_result coder j) (run_fits coder j c.kind r.sort x.has_codec) (without_running c w))

finish_job_sized : (coder : Coder) (c : Context) (o : Option Running) (fault : Bool) → IsSoundButUnsettled c → IsSized c → SizedSlot (solo_finish coder c o fault).slot
unfolding SizedSlot
finish_job_sized coder c None fault x w = w
finish_job_sized coder c (Some r) fault x w = finish_sized coder c r fault x w

finish_step_sized : (coder : Coder) (s : Slot) (fault : Bool) → IsOrderedSlot s → SizedSlot s → SizedSlot (finish_step coder s fault).slot
unfolding SizedSlot
finish_step_sized coder None fault x w = tt
finish_step_sized coder (Some c) fault x w = finish_job_sized coder c c.running fault x.firm w

-- Every step, and every run

step_sized : (coder : Coder) (s : Slot) (e : SoloEvent) → IsOrderedSlot s → SizedSlot s → SizedSlot (solo_step coder s e).slot
unfolding solo_step
step_sized coder s (Called request bytes found) x w = answer_sized s request bytes found w
step_sized coder s Claims x w = claim_step_sized s (is_claimable s) w
step_sized coder s (Finishes fault) x w = finish_step_sized coder s fault x w

slot_sized : (coder : Coder) (s : Slot) (es : List SoloEvent) → IsOrderedSlot s → SizedSlot s → SizedSlot (solo_slot coder s es)
slot_sized coder s [] x w = w
slot_sized coder s (e ∷ es) x w =
    slot_sized coder (solo_step coder s e).slot es (step_sound coder s e x) (step_sized coder s e x w)

open_sized : (c : Context) → SizedSlot (Some c) → HasSizes c.kind c.formats
unfolding SizedSlot IsSized
open_sized c w = w

none_sized : SizedSlot None
unfolding SizedSlot
none_sized = tt

pub always_in_range : (coder : Coder) (events : List SoloEvent) (c : Context) → solo_slot coder None events ≡ Some c → HasSizes c.kind c.formats
always_in_range coder events c e = open_sized c (subst SizedSlot e (slot_sized coder None events tt none_sized))
