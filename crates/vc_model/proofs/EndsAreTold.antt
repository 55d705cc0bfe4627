-- The step that gives the LAST buffer of a drain raises the event of its end. Only settling and a finish come to that
-- end, and both raise the event where they give the buffer; every other row leaves the phase or changes no event.
use Rattle.std.proofs.Common.{ℕ, ◌≡◌, ◌+◌, ◌==◌, Bool, true, false, not, cond, ◌&&◌, is_none, is_some, Option, Some, None, List, [], ◌∷◌, length, refl, sym, ap, ◌∙◌, subst}
use Rattle.std.proofs.lemmas.Bool.{false≢true}
use Rattle.vc_base.specs.declared.Stamp.{Stamp}
use Rattle.vc_base.specs.declared.Side.{Side}
use Rattle.vc_base.specs.declared.Side.TheVariants.{Out, Cap}
use Rattle.vc_base.specs.declared.Kind.{Kind}
use Rattle.vc_base.specs.declared.Kind.TheVariants.{Copy, Enc, Dec}
use Rattle.vc_base.specs.declared.Fourcc.{Fourcc}
use Rattle.vc_base.specs.declared.Format.{Format}
use Rattle.vc_base.specs.declared.Errno.{Errno}
use Rattle.vc_base.specs.declared.Errno.TheVariants.{NoEnt, Again, NoMem, Busy, Inval, NoTty, Pipe}
use Rattle.vc_base.specs.declared.Call.{Call}
use Rattle.vc_base.specs.declared.Call.TheVariants.{Open, Close, EnumFmt, GetFmt, TryFmt, SetFmt, ReqBufs, CreateBufs, QueryBuf, QBuf, DqBuf, StreamOn, StreamOff, Subscribe, Unsubscribe, DqEvent, DecCmd, EncCmd, GetCtrl, SetCtrl, Poll}
use Rattle.vc_base.specs.declared.Reply.{Reply}
use Rattle.vc_base.specs.declared.Reply.TheVariants.{Done, Created, Blocked}
use Rattle.vc_base.specs.Buffers.{Buffer, QueueState, buffer_count, is_empty, refuse_if, with_index, held_refusal, long_enough, create_refusal, create_after}
use Rattle.vc_base.specs.Buffers.{created, qbuf_after, dqbuf_after, streamon_refusal, streamon_after, streamoff_after, dqbuf_refusal, retire_after}
use Rattle.vc_base.specs.Limits.{last_flag, error_flag, source_change_event, eos_event}
use Rattle.vc_base.specs.Events.{EventState}
use Rattle.vc_model.specs.Formats.{FormatPair, formats_found}
use Rattle.vc_model.specs.Coder.{Coder, encoder, decoder, reset}
use Rattle.vc_defs.specs.Decoder.{DecodedResult, picture, damaged, changed, spent, step_outcome}
use Rattle.vc_defs.specs.Encoder.{RunRates}
use Rattle.vc_model.specs.Context.{Context, Slot, Running, RunSort, Cause, drain, change, PhaseState, run, owe, last, stopped, queue_of, with_queue, is_dec}
use Rattle.vc_model.specs.Context.{is_enc, is_drained, sizeimage, raise_end, settle, settle_owed, settle_last, give_last}
use Rattle.vc_model.specs.Answer.{Answer, unchanged, refused, answered, unless, if_found, unless_or_block, desc_answer, set_answer, set_refusal}
use Rattle.vc_model.specs.Answer.{after_new_format, reqbufs_answer, after_new_buffers, create_answer, query_answer, qbuf_answer, is_no_whole_picture}
use Rattle.vc_model.specs.Answer.{taken_answer, after_taking, stop_at_last, is_ended, streamon_answer, streamoff_answer, streamoff_effect, without_drain_stop}
use Rattle.vc_model.specs.Answer.{after_output_off, mark_after_restart, after_capture_off, both_stream, stop_answer, start_is_early, start_answer}
use Rattle.vc_model.specs.Answer.{command_answer, value_answer, control_answer, context_answer, answer}
use Rattle.vc_model.specs.Phases.{is_stopped_by_drain}
use Rattle.vc_model.specs.Runs.{is_claimable, sort_of, claim_front, after_claim, JobData, job_data, RunResult, copied, encoded, decoded, run_result}
use Rattle.vc_model.specs.Runs.{source_done, source_back, dest_done, dest_back, type_flag, source_moved, decoded_effect, run_effect, after_finish}
use Rattle.vc_model.specs.Solo.{SoloEvent, Called, Claims, Finishes, solo_step, claim_step, solo_finish}
use Rattle.vc_base.specs.Events.{raise_after}
use Rattle.vc_model.specs.Context.{is_run}
use Rattle.vc_model.specs.Drains.{is_last_by_drain, gives_last, EndsAreTold}
use Rattle.vc_model.specs.Sound.{HasItsBuffers, drain_not_noted, IsSettled, IsOrdered, IsOrderedSlot}
use Rattle.vc_model.proofs.PartsOfTests.{and_left, and_right, and_false, not_true}
use Rattle.vc_model.proofs.SettlingSettles.{settles_once}
use Rattle.vc_model.proofs.EventsKeepSound.{always_ordered}

abbrev Told : Context → Context → Type 0
Told c x = gives_last c x ≡ true → x.events ≡ raise_after c.events eos_event 0

clash : (b : Bool) → (b && not b) ≡ true → ⊥
clash true e = false≢true e
clash false e = false≢true e

-- a step that leaves the phase
same_phase : (c x : Context) → x.phase ≡ c.phase → Told c x
same_phase c x p g =
    absurd (clash (is_last_by_drain c.phase) (ap (λ q. is_last_by_drain q && not (is_last_by_drain c.phase)) (sym p) ∙ g))

-- a step after which the phase is not Last by Drain
other_phase : (c x : Context) → is_last_by_drain x.phase ≡ false → Told c x
other_phase c x p g =
    absurd (false≢true (sym p ∙ and_left (is_last_by_drain x.phase) (not (is_last_by_drain c.phase)) g))

-- Settling

given_told : (d : Context) (cause : Cause) (ready : List Buffer) → d.phase ≡ owe cause → is_last_by_drain (give_last d cause ready).phase ≡ true → (give_last d cause ready).events ≡ raise_after d.events eos_event 0
given_told d cause [] p l = absurd (false≢true (ap is_last_by_drain (sym p) ∙ l))
given_told d drain (b ∷ rest) p l = refl
given_told d change (b ∷ rest) p l = absurd (false≢true l)

owed_told : (d : Context) (phase : PhaseState) → d.phase ≡ phase → is_last_by_drain phase ≡ false → is_last_by_drain (settle_last d phase).phase ≡ true → (settle_last d phase).events ≡ raise_after d.events eos_event 0
owed_told d run p n l = absurd (false≢true (sym n ∙ (ap is_last_by_drain (sym p) ∙ l)))
owed_told d (owe cause) p n l = given_told d cause d.cap.ready p l
owed_told d (last cause) p n l = absurd (false≢true (sym n ∙ (ap is_last_by_drain (sym p) ∙ l)))
owed_told d (stopped cause) p n l = absurd (false≢true (sym n ∙ (ap is_last_by_drain (sym p) ∙ l)))

drained_told :
    (x : Context) (b : Bool) → is_last_by_drain x.phase ≡ false
    → is_last_by_drain (settle_owed (cond b (record x { phase = owe drain }) x)).phase ≡ true
    → (settle_owed (cond b (record x { phase = owe drain }) x)).events ≡ raise_after x.events eos_event 0
drained_told x true n l = owed_told (record x { phase = owe drain }) (owe drain) refl refl l
drained_told x false n l = owed_told x x.phase refl n l

-- what an effect leaves of events and phase
record Quiet (c x : Context) : Type 0 where
  pub events : x.events ≡ c.events
  pub phase : is_last_by_drain x.phase ≡ true → is_last_by_drain c.phase ≡ true

same : (c x : Context) → x.events ≡ c.events → x.phase ≡ c.phase → Quiet c x
same c x e p = record { events = e; phase = λ l. ap is_last_by_drain (sym p) ∙ l }

not_last : (c x : Context) → Quiet c x → is_last_by_drain c.phase ≡ false → (b : Bool) → is_last_by_drain x.phase ≡ b → b ≡ false
not_last c x q n true e = absurd (false≢true (sym n ∙ q.phase e))
not_last c x q n false e = refl

quiet_told : (c x : Context) → Quiet c x → Told c (settle x)
unfolding settle
quiet_told c x q g =
    let n = not_true (is_last_by_drain c.phase) (and_right (is_last_by_drain (settle x).phase) (not (is_last_by_drain c.phase)) g) in
    let l = and_left (is_last_by_drain (settle x).phase) (not (is_last_by_drain c.phase)) g in
    drained_told x _ (not_last c x q n (is_last_by_drain x.phase) refl) l ∙ ap (λ e. raise_after e eos_event 0) q.events

-- Answers

SlotTold : Context → Slot → Type 0
SlotTold c None = Unit {0}
SlotTold c (Some x) = Told c x

here : (c : Context) → SlotTold c (Some c)
unfolding SlotTold
here c = same_phase c c refl

then_settled : (c x : Context) → Quiet c x → SlotTold c (Some (settle x))
unfolding SlotTold
then_settled c x q = quiet_told c x q

unless_told : (c : Context) (o : Option Errno) (a : Answer) → SlotTold c a.slot → SlotTold c (unless c o a).slot
unless_told c None a n = n
unless_told c (Some e) a n = here c

found_told : (c : Context) (found : Bool) (a : Answer) → SlotTold c a.slot → SlotTold c (if_found c found a).slot
found_told c true a n = n
found_told c false a n = here c

block_told : (c : Context) (o : Option Errno) (block : Bool) (a : Answer) → SlotTold c a.slot → SlotTold c (unless_or_block c o block a).slot
block_told c None block a n = n
block_told c (Some Again) true a n = here c
block_told c (Some Again) false a n = here c
block_told c (Some NoEnt) true a n = here c
block_told c (Some NoEnt) false a n = here c
block_told c (Some NoMem) block a n = here c
block_told c (Some Busy) block a n = here c
block_told c (Some Inval) block a n = here c
block_told c (Some NoTty) block a n = here c
block_told c (Some Pipe) block a n = here c

either : (c : Context) (b : Bool) (a d : Answer) → SlotTold c a.slot → SlotTold c d.slot → SlotTold c (cond b a d).slot
either c true a d n m = n
either c false a d n m = m

desc_told : (c : Context) (o : Option Fourcc) → SlotTold c (desc_answer c o).slot
desc_told c None = here c
desc_told c (Some f) = here c

new_format_quiet : (kind : Kind) (side : Side) (c : Context) (formats : FormatPair) → Quiet c (after_new_format kind side (record c { formats = formats }))
new_format_quiet Copy side c formats = same c (record c { formats = formats }) refl refl
new_format_quiet Enc Out c formats = same c (record c { formats = formats; codec = reset c.codec }) refl refl
new_format_quiet Enc Cap c formats = same c (record c { formats = formats }) refl refl
new_format_quiet Dec Out c formats = same c (record c { formats = formats; geometry = None }) refl refl
new_format_quiet Dec Cap c formats = same c (record c { formats = formats }) refl refl

set_told : (c : Context) (side : Side) (want : Format) → SlotTold c (set_answer c side want).slot
set_told c side want = unless_told c (set_refusal c side) _ (then_settled c _ (new_format_quiet c.kind side c _))

with_quiet : (c : Context) (side : Side) (q : QueueState) → (with_queue c side q).events ≡ c.events
with_quiet c Out q = refl
with_quiet c Cap q = refl

with_phase : (c : Context) (side : Side) (q : QueueState) → (with_queue c side q).phase ≡ c.phase
with_phase c Out q = refl
with_phase c Cap q = refl

queue_quiet : (c : Context) (side : Side) (q : QueueState) → Quiet c (with_queue c side q)
queue_quiet c side q = same c (with_queue c side q) (with_quiet c side q) (with_phase c side q)

new_buffers_quiet : (kind : Kind) (side : Side) (c x : Context) → Quiet c x → Quiet c (after_new_buffers kind side x)
new_buffers_quiet Copy side c x q = q
new_buffers_quiet Enc Out c x q = record { events = q.events; phase = q.phase }
new_buffers_quiet Enc Cap c x q = q
new_buffers_quiet Dec Out c x q = record { events = q.events; phase = q.phase }
new_buffers_quiet Dec Cap c x q = q

reqbufs_told : (c : Context) (side : Side) (count : ℕ) (found : Bool) → SlotTold c (reqbufs_answer c side count found).slot
reqbufs_told c side count found =
    unless_told c (refuse_if (queue_of c side).streams Busy None) _ (found_told c found _ (then_settled c _ (new_buffers_quiet c.kind side c _ (queue_quiet c side _))))

create_told : (c : Context) (side : Side) (count size : ℕ) (found : Bool) → SlotTold c (create_answer c side count size found).slot
create_told c side count size found =
    let q = queue_of c side in
    let a = answered (with_queue c side (create_after q count size)) (Created (buffer_count q) (created q count)) in
    unless_told c (create_refusal q count size) (if_found c found a) (found_told c found a (then_settled c _ (queue_quiet c side (create_after q count size))))

query_told : (c : Context) (o : Option Reply) → SlotTold c (query_answer c o).slot
query_told c None = here c
query_told c (Some reply) = here c

qbuf_told : (c : Context) (side : Side) (index used : ℕ) (stamp : Stamp) (bytes : List ℕ) → SlotTold c (qbuf_answer c side index used stamp bytes).slot
qbuf_told c side index used stamp bytes =
    let q = queue_of c side in
    let a = answered (with_queue c side (qbuf_after q index used stamp bytes)) Done in
    let r = refuse_if (is_no_whole_picture c side used) Inval None in
    unless_told c (held_refusal q.side (with_index index q.held) used (sizeimage c side)) (unless c r a) (unless_told c r a (then_settled c _ (queue_quiet c side (qbuf_after q index used stamp bytes))))

stop_quiet : (c x : Context) (p : PhaseState) (b : Bool) → x.events ≡ c.events → x.phase ≡ c.phase → Quiet c (stop_at_last x p b)
stop_quiet c x run b e q = same c x e q
stop_quiet c x (owe cause) b e q = same c x e q
stop_quiet c x (last drain) true e q = record { events = e; phase = λ (l : false ≡ true). absurd (false≢true l) }
stop_quiet c x (last drain) false e q = same c x e q
stop_quiet c x (last change) true e q = record { events = e; phase = λ (l : false ≡ true). absurd (false≢true l) }
stop_quiet c x (last change) false e q = same c x e q
stop_quiet c x (stopped cause) b e q = same c x e q

take_told : (c : Context) (side : Side) (ds : List Buffer) → SlotTold c (taken_answer c side ds).slot
take_told c side [] = here c
take_told c Out (b ∷ rest) = then_settled c _ (queue_quiet c Out (dqbuf_after c.out))
take_told c Cap (b ∷ rest) =
    let x = record c { cap = dqbuf_after c.cap } in
    then_settled c (after_taking x Cap) (stop_quiet c x x.phase (is_empty x.cap.done) refl refl)

on_told : (c : Context) (side : Side) → SlotTold c (streamon_answer c side).slot
on_told c side =
    unless_told c (streamon_refusal (queue_of c side) (sizeimage c side)) (answered (with_queue c side (streamon_after (queue_of c side))) Done) (then_settled c _ (queue_quiet c side (streamon_after (queue_of c side))))

restart_last : (p : PhaseState) → is_last_by_drain (without_drain_stop p) ≡ true → is_last_by_drain p ≡ true
restart_last run e = absurd (false≢true e)
restart_last (owe drain) e = absurd (false≢true e)
restart_last (owe change) e = absurd (false≢true e)
restart_last (last drain) e = absurd (false≢true e)
restart_last (last change) e = absurd (false≢true e)
restart_last (stopped drain) e = absurd (false≢true e)
restart_last (stopped change) e = absurd (false≢true e)

output_off_quiet : (kind : Kind) (c x : Context) → Quiet c x → Quiet c (after_output_off kind x)
output_off_quiet Copy c x q = q
output_off_quiet Enc c x q = q
output_off_quiet Dec c x q = record { events = q.events; phase = q.phase }

capture_off_quiet : (kind : Kind) (c x : Context) → Quiet c x → Quiet c (after_capture_off kind x)
capture_off_quiet Copy c x q = q
capture_off_quiet Enc c x q = record { events = q.events; phase = q.phase }
capture_off_quiet Dec c x q = q

capture_quiet : (c : Context) (b : Bool) → Quiet c (cond b (after_capture_off c.kind (record c { cap = streamoff_after c.cap; mark = mark_after_restart c.phase c.mark; phase = run })) (record c { cap = streamoff_after c.cap }))
capture_quiet c true =
    capture_off_quiet c.kind c (record c { cap = streamoff_after c.cap; mark = mark_after_restart c.phase c.mark; phase = run }) (record { events = refl; phase = λ (l : false ≡ true). absurd (false≢true l) })
capture_quiet c false = same c (record c { cap = streamoff_after c.cap }) refl refl

off_quiet : (c : Context) (side : Side) → Quiet c (streamoff_effect c side)
off_quiet c Out =
    output_off_quiet c.kind c (record c { out = streamoff_after c.out; mark = None; phase = without_drain_stop c.phase }) (record { events = refl; phase = restart_last c.phase })
off_quiet c Cap = capture_quiet c c.cap.streams

off_told : (c : Context) (side : Side) → SlotTold c (streamoff_answer c side).slot
off_told c side =
    either c (is_none c.running) (answered (streamoff_effect c side) Done) (unchanged c Blocked) (then_settled c _ (off_quiet c side)) (here c)

-- the calls on events change nothing else, so settling does nothing
events_told : (c : Context) (events : EventState) → IsSettled c → SlotTold c (Some (settle (record c { events = events })))
unfolding SlotTold
events_told c events s =
    let x = record c { events = events } in
    same_phase c (settle x) (ap (λ y. y.phase) ((settles_once x).again (record { noted = s.noted; given = s.given })))

event_call_told : (c : Context) (o : Option Errno) (events : EventState) (reply : Reply) → IsSettled c → SlotTold c (unless c o (answered (record c { events = events }) reply)).slot
event_call_told c o events reply s = unless_told c o (answered (record c { events = events }) reply) (events_told c events s)

event_take_told : (c : Context) (o : Option Errno) (block : Bool) (events : EventState) (reply : Reply) → IsSettled c → SlotTold c (unless_or_block c o block (answered (record c { events = events }) reply)).slot
event_take_told c o block events reply s =
    block_told c o block (answered (record c { events = events }) reply) (events_told c events s)

stop_told : (c : Context) → SlotTold c (stop_answer c).slot
stop_told c =
    let x = record c { mark = Some c.out.next_ordinal } in
    either c (not (both_stream c)) (unchanged c Done) _ (here c)
    (either c (is_some c.mark) (refused c Busy) _ (here c) (either c (is_stopped_by_drain c.phase) (unchanged c Done) (answered x Done) (here c) (then_settled c x (same c x refl refl))))

start_told : (c : Context) → SlotTold c (start_answer c).slot
start_told c =
    let x = record c { phase = run } in
    either c (not (both_stream c)) (unchanged c Done) _ (here c)
    (either c (start_is_early c.phase c.mark) (refused c Busy) _ (here c)
    (either c (not (long_enough c.cap (sizeimage c Cap))) (refused c Inval) (answered x Done) (here c)
    (then_settled c x (record { events = refl; phase = λ (l : false ≡ true). absurd (false≢true l) }))))

command_told : (c : Context) (cmd : ℕ) → SlotTold c (command_answer c cmd).slot
command_told c cmd =
    either c (cmd == 0) (start_answer c) _ (start_told c) (either c (cmd == 1) (stop_answer c) (refused c Inval) (stop_told c) (here c))

value_told : (c : Context) (o : Option ℕ) → SlotTold c (value_answer c o).slot
value_told c None = here c
value_told c (Some v) = here c

control_told : (c : Context) (o : Option RunRates) → SlotTold c (control_answer c o).slot
control_told c None = here c
control_told c (Some rates) = then_settled c (record c { rates = rates }) (same c (record c { rates = rates }) refl refl)

context_told : (c : Context) (request : Call) (bytes : List ℕ) (found : Bool) → IsSettled c → SlotTold c (context_answer c request bytes found).slot
unfolding context_answer SlotTold
context_told c (Open kind) bytes found s = here c
context_told c Close bytes found s =
    either c (is_none c.running) (record { slot = None; reply = Done; bytes = [] }) (unchanged c Blocked) tt (here c)
context_told c (EnumFmt on index) bytes found s = desc_told c _
context_told c (GetFmt on) bytes found s = here c
context_told c (TryFmt on want) bytes found s = here c
context_told c (SetFmt on want) bytes found s = set_told c on want
context_told c (ReqBufs on count) bytes found s = reqbufs_told c on count found
context_told c (CreateBufs on count length) bytes found s = create_told c on count length found
context_told c (QueryBuf on index) bytes found s = query_told c _
context_told c (QBuf on index used stamp) bytes found s = qbuf_told c on index used stamp bytes
context_told c (DqBuf from block) bytes found s =
    block_told c (dqbuf_refusal (queue_of c from) (is_ended c from)) block (taken_answer c from (queue_of c from).done) (take_told c from (queue_of c from).done)
context_told c (StreamOn on) bytes found s = on_told c on
context_told c (StreamOff on) bytes found s = off_told c on
context_told c (Subscribe event) bytes found s = event_call_told c _ _ Done s
context_told c (Unsubscribe event) bytes found s = event_call_told c _ _ Done s
context_told c (DqEvent block) bytes found s = event_take_told c _ block _ _ s
context_told c (DecCmd cmd) bytes found s =
    either c (is_dec c.kind) (command_answer c cmd) (refused c NoTty) (command_told c cmd) (here c)
context_told c (EncCmd cmd) bytes found s =
    either c (is_enc c.kind) (command_answer c cmd) (refused c NoTty) (command_told c cmd) (here c)
context_told c (GetCtrl id) bytes found s = value_told c _
context_told c (SetCtrl id value) bytes found s = control_told c _
context_told c Poll bytes found s = here c

-- Claims and finishes

claimed_told : (c : Context) (sort : RunSort) (ready : List Buffer) → Told c (claim_front c sort ready)
claimed_told c sort [] = same_phase c c refl
claimed_told c sort (b ∷ rest) = same_phase c (claim_front c sort (b ∷ rest)) refl

claim_told : (c : Context) (b : Bool) → SlotTold c (claim_step (Some c) b).slot
unfolding after_claim SlotTold
claim_told c true = claimed_told c (sort_of c.kind c.geometry) c.out.ready
claim_told c false = same_phase c c refl

-- the destination of a run in a context with the events and the phase of c
dest_split_told :
    (c x : Context) (used : ℕ) (bytes : List ℕ) (flags : ℕ) (stamp : Stamp) → x.events ≡ c.events → x.phase ≡ c.phase → (b : Bool)
    → Told c
    (settle (cond b (raise_end drain (record x { cap = retire_after x.cap used bytes (flags + last_flag) stamp; phase = last drain })) (record x { cap = retire_after x.cap used bytes flags stamp })))
unfolding settle
dest_split_told c x used bytes flags stamp e p true g = ap (λ v. raise_after v eos_event 0) e
dest_split_told c x used bytes flags stamp e p false g =
    quiet_told c (record x { cap = retire_after x.cap used bytes flags stamp }) (same c (record x { cap = retire_after x.cap used bytes flags stamp }) e p) g

dest_told : (c x : Context) (dest : List Buffer) (used_up : Bool) (used : ℕ) (bytes : List ℕ) (flags : ℕ) (stamp : Stamp) → x.events ≡ c.events → x.phase ≡ c.phase → Told c (settle (dest_done x dest used_up used bytes flags stamp))
dest_told c x [] used_up used bytes flags stamp e p = quiet_told c x (same c x e p)
dest_told c x (b ∷ rest) used_up used bytes flags stamp e p =
    dest_split_told c x used bytes flags stamp e p (used_up && is_drained x.out.ready x.mark)

moved_events : (c : Context) (j : JobData) (cursor : ℕ) (b : Bool) → ((source_moved c j cursor b).events ≡ c.events) × ((source_moved c j cursor b).phase ≡ c.phase)
moved_events c j cursor true = (refl, refl)
moved_events c j cursor false = (refl, refl)

back_events : (c : Context) (dest : List Buffer) → ((dest_back c dest).events ≡ c.events) × ((dest_back c dest).phase ≡ c.phase)
back_events c [] = (refl, refl)
back_events c (b ∷ rest) = (refl, refl)

-- a change is no end of a drain
change_given : (y : Context) (ready : List Buffer) → y.phase ≡ owe change → is_last_by_drain (give_last y change ready).phase ≡ false
change_given y [] p = ap is_last_by_drain p
change_given y (b ∷ rest) p = refl

is_in_run : (p : PhaseState) → is_run p ≡ true → p ≡ run
is_in_run run e = refl
is_in_run (owe cause) e = absurd (false≢true e)
is_in_run (last cause) e = absurd (false≢true e)
is_in_run (stopped cause) e = absurd (false≢true e)

no_stream : (p s r d : Bool) → s ≡ false → (p && (s && (r && d))) ≡ false
no_stream true s r d e = and_false s (r && d) e
no_stream false s r d e = refl

quiet_owed : (y : Context) (phase : PhaseState) → phase ≡ run → settle_last y phase ≡ y
quiet_owed y run e = refl
quiet_owed y (owe cause) e = absurd (cc)
quiet_owed y (last cause) e = refl
quiet_owed y (stopped cause) e = refl

quiet_drain : (y : Context) (b : Bool) → b ≡ false → y.phase ≡ run → settle_owed (cond b (record y { phase = owe drain }) y) ≡ y
quiet_drain y true n p = absurd (false≢true (sym n))
quiet_drain y false n p = quiet_owed y y.phase p

change_told : (c y : Context) (b : Bool) → y.cap.streams ≡ b → y.phase ≡ c.phase → is_run c.phase ≡ true → Told c (settle (cond b (record y { phase = owe change }) y))
unfolding settle
change_told c y true s p r =
    other_phase c (settle (record y { phase = owe change })) (change_given (record y { phase = owe change }) y.cap.ready refl)
change_told c y false s p r =
    let still = quiet_drain y (drain_not_noted y) (no_stream (is_run y.phase) y.cap.streams (is_none y.running) (is_drained y.out.ready y.mark) s) (p ∙ is_in_run c.phase r) in
    same_phase c (settle y) (ap (λ z. z.phase) still ∙ p)

decoded_told : (c x : Context) (j : JobData) (cursor : ℕ) (result : DecodedResult) → x.events ≡ c.events → x.phase ≡ c.phase → is_run c.phase ≡ true → Told c (settle (decoded_effect x j cursor result))
decoded_told c x j cursor (picture bytes key stamp) e p r =
    let m = moved_events x j cursor (cursor == j.source.used) in
    dest_told c (source_moved x j cursor (cursor == j.source.used)) j.dest (cursor == j.source.used) (length bytes) bytes (type_flag key) stamp (m.0 ∙ e) (m.1 ∙ p)
decoded_told c x j cursor (damaged stamp) e p r =
    let m = moved_events x j cursor (cursor == j.source.used) in
    dest_told c (source_moved x j cursor (cursor == j.source.used)) j.dest (cursor == j.source.used) 0 [] error_flag stamp (m.0 ∙ e) (m.1 ∙ p)
decoded_told c x j cursor (changed geometry) e p r =
    let y = dest_back (source_back x j cursor) j.dest in
    let b = back_events (source_back x j cursor) j.dest in
    let z = record y { geometry = Some geometry; formats = formats_found y.formats geometry; events = raise_after y.events source_change_event 1 } in
    change_told c z z.cap.streams refl (b.1 ∙ p) r
decoded_told c x j cursor spent e p r =
    let b = back_events (source_done x j 0) j.dest in
    quiet_told c (dest_back (source_done x j 0) j.dest) (same c (dest_back (source_done x j 0) j.dest) (b.0 ∙ e) (b.1 ∙ p))

run_told : (c x : Context) (j : JobData) (result : RunResult) → x.events ≡ c.events → x.phase ≡ c.phase → is_run c.phase ≡ true → Told c (settle (run_effect x j result))
run_told c x j (copied bytes) e p r = dest_told c (source_done x j 0) j.dest true (length bytes) bytes 0 j.source.stamp e p
run_told c x j (encoded frame) e p r =
    dest_told c (source_done (record x { codec = encoder frame.state }) j 0) j.dest true (length frame.bytes) frame.bytes (type_flag frame.key) j.source.stamp e p
run_told c x j (decoded step) e p r =
    decoded_told c (record x { codec = decoder step.state }) j (j.source.cursor + step.moved) (step_outcome j.format.fourcc step) e p r

finish_told : (coder : Coder) (c : Context) (r : Running) (fault : Bool) → is_run c.phase ≡ true → Told c (after_finish coder c r fault)
unfolding after_finish
finish_told coder c r true p =
    dest_told c (source_done (record c { running = None; codec = reset c.codec }) (job_data c r) error_flag) c.cap.job true 0 [] error_flag (job_data c r).source.stamp refl refl
finish_told coder c r false p =
    run_told c (record c { running = None }) (job_data c r) (run_result coder (job_data c r)) refl refl p

finish_job_told : (coder : Coder) (c : Context) (o : Option Running) (fault : Bool) → HasItsBuffers c o → SlotTold c (solo_finish coder c o fault).slot
unfolding SlotTold
finish_job_told coder c None fault h = same_phase c c refl
finish_job_told coder c (Some r) fault h = finish_told coder c r fault h.0

step_told : (coder : Coder) (c : Context) (e : SoloEvent) → IsOrdered c → SlotTold c (solo_step coder (Some c) e).slot
unfolding solo_step answer
step_told coder c (Called request bytes found) s = context_told c request bytes found s.settled
step_told coder c Claims s = claim_told c (is_claimable (Some c))
step_told coder c (Finishes fault) s = finish_job_told coder c c.running fault s.firm.has_buffers

pub ends_are_told : EndsAreTold
unfolding SlotTold
ends_are_told coder events e before after at next =
    subst (SlotTold before) next (step_told coder before e (subst IsOrderedSlot at (always_ordered coder events)))
