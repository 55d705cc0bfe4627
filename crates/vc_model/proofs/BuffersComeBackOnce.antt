-- A buffer comes back to the user at most once before it is queued again, and ReqBufs and Close drop all buffers. A
-- buffer is not held in one place at most; what brings it back takes it from there, and only QBuf puts it there
-- again.
use Rattle.std.proofs.Common.{ℕ, ◌≡◌, ◌≤◌, ◌+◌, ◌==◌, eqb, nat_lt, Bool, true, false, not, cond, ◌&&◌, is_none, is_some, Option, Some, None, List, [], ◌∷◌, length, refl, sym, ap, ◌∙◌, arith}
use Rattle.std.proofs.lemmas.Bool.{ltb-true, eqb-false, ne_eqb}
use Rattle.std.specs.Prelude.{min}
use Rattle.vc_base.specs.Buffers.{reqbufs_refusal}
use Rattle.vc_base.specs.Limits.{most_buffers, last_flag, error_flag, source_change_event}
use Rattle.vc_base.specs.declared.Reply.TheVariants.{Count}
use Rattle.vc_base.specs.declared.Stamp.{Stamp}
use Rattle.vc_base.specs.declared.Side.{Side}
use Rattle.vc_base.specs.declared.Side.TheVariants.{Out, Cap}
use Rattle.vc_base.specs.declared.Kind.{Kind}
use Rattle.vc_base.specs.declared.Kind.TheVariants.{Copy, Enc, Dec}
use Rattle.vc_base.specs.declared.Fourcc.{Fourcc}
use Rattle.vc_base.specs.declared.Format.{Format}
use Rattle.vc_base.specs.declared.Errno.{Errno}
use Rattle.vc_base.specs.declared.Errno.TheVariants.{NoEnt, Again, NoMem, Busy, Inval, NoTty, Pipe}
use Rattle.vc_base.specs.declared.Call.{Call}
use Rattle.vc_base.specs.declared.Call.TheVariants.{Open, Close, EnumFmt, GetFmt, TryFmt, SetFmt, ReqBufs, CreateBufs, QueryBuf, QBuf, DqBuf, StreamOn, StreamOff, Subscribe, Unsubscribe, DqEvent, DecCmd, EncCmd, GetCtrl, SetCtrl, Poll}
use Rattle.vc_base.specs.declared.Reply.{Reply}
use Rattle.vc_base.specs.declared.Reply.TheVariants.{Done, Created, Blocked}
use Rattle.vc_base.specs.Buffers.{Buffer, QueueState, buffer_count, is_empty, refuse_if, with_index, queued_buffer, queue_held, held_refusal, take_front}
use Rattle.vc_base.specs.Buffers.{long_enough, reqbufs_after, create_refusal, create_after, created, qbuf_after, dqbuf_after, streamon_refusal, streamon_after}
use Rattle.vc_base.specs.Buffers.{streamoff_after, dqbuf_refusal, lend_front, lend_after, give_back_from, retire_from, retire_after, zero_stamp, known_bytes}
use Rattle.vc_base.specs.Events.{EventState, raise_after}
use Rattle.vc_model.specs.Formats.{FormatPair, formats_found}
use Rattle.vc_model.specs.Coder.{Coder, encoder, decoder, reset}
use Rattle.vc_defs.specs.Decoder.{DecodedResult, picture, damaged, changed, spent, step_outcome}
use Rattle.vc_defs.specs.Encoder.{RunRates}
use Rattle.vc_model.specs.Context.{Context, Slot, Running, RunSort, copy, encode, decode, probe, Cause, drain, change, PhaseState, run, owe, last, stopped}
use Rattle.vc_model.specs.Context.{fresh_context, queue_of, with_queue, is_dec, is_enc, is_drained, sizeimage, raise_end, settle, settle_drain, settle_last}
use Rattle.vc_model.specs.Context.{give_last}
use Rattle.vc_model.specs.Answer.{Answer, unchanged, refused, answered, unless, if_found, unless_or_block, desc_answer, set_answer, set_refusal}
use Rattle.vc_model.specs.Answer.{after_new_format, reqbufs_answer, after_new_buffers, create_answer, query_answer, qbuf_answer, is_no_whole_picture}
use Rattle.vc_model.specs.Answer.{taken_answer, after_taking, stop_at_last, is_ended, streamon_answer, streamoff_effect, without_drain_stop, after_output_off}
use Rattle.vc_model.specs.Answer.{mark_after_restart, after_capture_off, both_stream, stop_answer, start_is_early, start_answer, command_answer, value_answer}
use Rattle.vc_model.specs.Answer.{control_answer, context_answer, closed_answer, answer}
use Rattle.vc_model.specs.Phases.{is_stopped_by_drain}
use Rattle.vc_model.specs.Runs.{is_claimable, sort_of, cap_after_claim, claim_front, after_claim, JobData, job_data, RunResult, copied, encoded, decoded}
use Rattle.vc_model.specs.Runs.{run_result, source_done, source_back, dest_done, dest_back, type_flag, source_moved, decoded_effect, run_effect, fault_effect}
use Rattle.vc_model.specs.Runs.{after_finish}
use Rattle.vc_model.specs.Solo.{SoloEvent, Called, Claims, Finishes, solo_step, solo_slot, claim_step, solo_finish, finish_step}
use Rattle.vc_model.specs.Sound.{count_index, IsSoundButUnsettled, IsOrdered, IsOrderedSlot}
use Rattle.vc_model.specs.Places.{ready_or_done, BuffersAreDropped, same_side, not_held, not_held_in, call_returns, comes_back, call_queues, is_queued, returns_in, IsNotQueued, BackOnce}
use Rattle.vc_model.proofs.QueuesKeepSound.{count-append, count_parts, find_index, once_at_most}
use Rattle.vc_model.proofs.CallsKeepFirm.{without_job}
use Rattle.vc_model.proofs.EventsKeepSound.{step_sound, always_ordered}

-- One queue

lend_away : (q : QueueState) (ready : List Buffer) (i : ℕ) → q.ready ≡ ready → not_held (lend_front q ready) i ≤ not_held q i
lend_away q [] i e = omega arith
lend_away q (b ∷ rest) i e = let c = ap (λ l. count_index l i) e in omega arith

retire_away : (q : QueueState) (job : List Buffer) (used : ℕ) (bytes : List ℕ) (flags : ℕ) (stamp : Stamp) (i : ℕ) → q.job ≡ job → not_held (retire_from q job used bytes flags stamp) i ≤ not_held q i
retire_away q [] used bytes flags stamp i e = omega arith
retire_away q (b ∷ bs) used bytes flags stamp i e =
    let c = ap (λ l. count_index l i) e in
    let p = count-append q.done (record b { used = used; bytes = known_bytes q.side flags bytes; flags = flags; stamp = stamp; seq = q.next_seq } ∷ []) i in
    omega arith

give_back_away : (q : QueueState) (job : List Buffer) (cursor : ℕ) (bytes : List ℕ) (i : ℕ) → q.job ≡ job → not_held (give_back_from q job cursor bytes) i ≤ not_held q i
give_back_away q [] cursor bytes i e = omega arith
give_back_away q (b ∷ bs) cursor bytes i e = let c = ap (λ l. count_index l i) e in omega arith

-- Two contexts: in the later one the user lacks no more buffers

record NotMore (c x : Context) : Type 0 where
  pub out : (i : ℕ) → not_held x.out i ≤ not_held c.out i
  pub cap : (i : ℕ) → not_held x.cap i ≤ not_held c.cap i

and_then : (c x y : Context) → NotMore c x → NotMore x y → NotMore c y
and_then c x y a b =
    record { out = λ i. let p = a.out i in let q = b.out i in omega arith; cap = λ i. let p = a.cap i in let q = b.cap i in omega arith }

-- the same queues
same_queues : (c x : Context) → x.out ≡ c.out → x.cap ≡ c.cap → NotMore c x
same_queues c x o k =
    record { out = λ i. let e = ap (λ q. not_held q i) o in omega arith; cap = λ i. let e = ap (λ q. not_held q i) k in omega arith }

raised : (cause : Cause) (c : Context) → NotMore c (raise_end cause c)
raised drain c = same_queues c (raise_end drain c) refl refl
raised change c = same_queues c c refl refl

given_away : (c : Context) (cause : Cause) (ready : List Buffer) → c.cap.ready ≡ ready → NotMore c (give_last c cause ready)
given_away c cause [] e = same_queues c c refl refl
given_away c cause (b ∷ rest) e =
    let x = record c { cap = retire_after (lend_after c.cap) 0 [] last_flag zero_stamp; phase = last cause } in
    and_then c x (raise_end cause x)
    (record
    { out = λ i. omega arith; cap = λ i. let p = lend_away c.cap c.cap.ready i refl in let q = retire_away (lend_after c.cap) (lend_after c.cap).job 0 [] last_flag zero_stamp i refl in omega arith })
    (raised cause x)

owed_away : (c : Context) (phase : PhaseState) → NotMore c (settle_last c phase)
owed_away c run = same_queues c c refl refl
owed_away c (owe cause) = given_away c cause c.cap.ready refl
owed_away c (last cause) = same_queues c c refl refl
owed_away c (stopped cause) = same_queues c c refl refl

drained_away : (c : Context) (b : Bool) → NotMore c (cond b (record c { phase = owe drain }) c)
drained_away c true = same_queues c (record c { phase = owe drain }) refl refl
drained_away c false = same_queues c c refl refl

settle_away : (c : Context) → NotMore c (settle c)
unfolding settle
settle_away c =
    let d = settle_drain c in
    and_then c d (settle_last d d.phase) (drained_away c _) (owed_away d d.phase)

-- Answers

SlotLess : Context → Slot → Type 0
SlotLess c None = Unit {0}
SlotLess c (Some x) = NotMore c x

here : (c : Context) → SlotLess c (Some c)
unfolding SlotLess
here c = same_queues c c refl refl

then_settled : (c x : Context) → NotMore c x → SlotLess c (Some (settle x))
unfolding SlotLess
then_settled c x n = and_then c x (settle x) n (settle_away x)

of_slot : (c : Context) (s : Slot) → SlotLess c s → (side : Side) (i : ℕ) → not_held_in side i s ≤ not_held_in side i (Some c)
unfolding SlotLess
of_slot c None n side i = omega arith
of_slot c (Some x) n Out i = n.out i
of_slot c (Some x) n Cap i = n.cap i

unless_less : (c : Context) (o : Option Errno) (a : Answer) → SlotLess c a.slot → SlotLess c (unless c o a).slot
unless_less c None a n = n
unless_less c (Some e) a n = here c

found_less : (c : Context) (found : Bool) (a : Answer) → SlotLess c a.slot → SlotLess c (if_found c found a).slot
found_less c true a n = n
found_less c false a n = here c

block_less : (c : Context) (o : Option Errno) (block : Bool) (a : Answer) → SlotLess c a.slot → SlotLess c (unless_or_block c o block a).slot
block_less c None block a n = n
block_less c (Some Again) true a n = here c
block_less c (Some Again) false a n = here c
block_less c (Some NoEnt) true a n = here c
block_less c (Some NoEnt) false a n = here c
block_less c (Some NoMem) block a n = here c
block_less c (Some Busy) block a n = here c
block_less c (Some Inval) block a n = here c
block_less c (Some NoTty) block a n = here c
block_less c (Some Pipe) block a n = here c

either : (c : Context) (b : Bool) (a d : Answer) → SlotLess c a.slot → SlotLess c d.slot → SlotLess c (cond b a d).slot
either c true a d n m = n
either c false a d n m = m

desc_less : (c : Context) (o : Option Fourcc) → SlotLess c (desc_answer c o).slot
desc_less c None = here c
desc_less c (Some f) = here c

new_format_less : (kind : Kind) (side : Side) (c : Context) (formats : FormatPair) → NotMore c (after_new_format kind side (record c { formats = formats }))
new_format_less Copy side c formats = same_queues c (record c { formats = formats }) refl refl
new_format_less Enc Out c formats = same_queues c (record c { formats = formats; codec = reset c.codec }) refl refl
new_format_less Enc Cap c formats = same_queues c (record c { formats = formats }) refl refl
new_format_less Dec Out c formats = same_queues c (record c { formats = formats; geometry = None }) refl refl
new_format_less Dec Cap c formats = same_queues c (record c { formats = formats }) refl refl

set_less : (c : Context) (side : Side) (want : Format) → SlotLess c (set_answer c side want).slot
set_less c side want =
    unless_less c (set_refusal c side) _ (then_settled c _ (new_format_less c.kind side c _))

new_buffers_less : (kind : Kind) (side : Side) (x : Context) → NotMore x (after_new_buffers kind side x)
new_buffers_less Copy side x = same_queues x x refl refl
new_buffers_less Enc Out x = same_queues x (record x { codec = reset x.codec }) refl refl
new_buffers_less Enc Cap x = same_queues x x refl refl
new_buffers_less Dec Out x = same_queues x (record x { codec = reset x.codec; geometry = None }) refl refl
new_buffers_less Dec Cap x = same_queues x x refl refl

dropped_less : (c : Context) (side : Side) (count size : ℕ) → NotMore c (with_queue c side (reqbufs_after (queue_of c side) count size))
dropped_less c Out count size = record { out = λ i. omega arith; cap = λ i. omega arith }
dropped_less c Cap count size = record { out = λ i. omega arith; cap = λ i. omega arith }

reqbufs_less : (c : Context) (side : Side) (count : ℕ) (found : Bool) → SlotLess c (reqbufs_answer c side count found).slot
reqbufs_less c side count found =
    let x = with_queue c side (reqbufs_after (queue_of c side) count (sizeimage c side)) in
    unless_less c (refuse_if (queue_of c side).streams Busy None) _
    (found_less c found _
    (then_settled c (after_new_buffers c.kind side x) (and_then c x (after_new_buffers c.kind side x) (dropped_less c side count (sizeimage c side)) (new_buffers_less c.kind side x))))

created_less : (c : Context) (side : Side) (count size : ℕ) → NotMore c (with_queue c side (create_after (queue_of c side) count size))
created_less c Out count size = record { out = λ i. omega arith; cap = λ i. omega arith }
created_less c Cap count size = record { out = λ i. omega arith; cap = λ i. omega arith }

create_less : (c : Context) (side : Side) (count size : ℕ) (found : Bool) → SlotLess c (create_answer c side count size found).slot
create_less c side count size found =
    let q = queue_of c side in
    unless_less c (create_refusal q count size)
    (if_found c found (answered (with_queue c side (create_after q count size)) (Created (buffer_count q) (created q count))))
    (found_less c found (answered (with_queue c side (create_after q count size)) (Created (buffer_count q) (created q count)))
    (then_settled c (with_queue c side (create_after q count size)) (created_less c side count size)))

query_less : (c : Context) (o : Option Reply) → SlotLess c (query_answer c o).slot
query_less c None = here c
query_less c (Some reply) = here c

on_less : (c : Context) (side : Side) → NotMore c (with_queue c side (streamon_after (queue_of c side)))
on_less c Out = record { out = λ i. omega arith; cap = λ i. omega arith }
on_less c Cap = record { out = λ i. omega arith; cap = λ i. omega arith }

streamon_less : (c : Context) (side : Side) → SlotLess c (streamon_answer c side).slot
streamon_less c side =
    unless_less c (streamon_refusal (queue_of c side) (sizeimage c side)) (answered (with_queue c side (streamon_after (queue_of c side))) Done) (then_settled c (with_queue c side (streamon_after (queue_of c side))) (on_less c side))

events_less : (c : Context) (o : Option Errno) (events : EventState) (reply : Reply) → SlotLess c (unless c o (answered (record c { events = events }) reply)).slot
events_less c o events reply =
    unless_less c o (answered (record c { events = events }) reply) (then_settled c (record c { events = events }) (same_queues c (record c { events = events }) refl refl))

taken_event_less : (c : Context) (o : Option Errno) (block : Bool) (events : EventState) (reply : Reply) → SlotLess c (unless_or_block c o block (answered (record c { events = events }) reply)).slot
taken_event_less c o block events reply =
    block_less c o block (answered (record c { events = events }) reply) (then_settled c (record c { events = events }) (same_queues c (record c { events = events }) refl refl))

stop_less : (c : Context) → SlotLess c (stop_answer c).slot
stop_less c =
    let x = record c { mark = Some c.out.next_ordinal } in
    either c (not (both_stream c)) (unchanged c Done) _ (here c)
    (either c (is_some c.mark) (refused c Busy) _ (here c) (either c (is_stopped_by_drain c.phase) (unchanged c Done) (answered x Done) (here c) (then_settled c x (same_queues c x refl refl))))

start_less : (c : Context) → SlotLess c (start_answer c).slot
start_less c =
    let x = record c { phase = run } in
    either c (not (both_stream c)) (unchanged c Done) _ (here c)
    (either c (start_is_early c.phase c.mark) (refused c Busy) _ (here c)
    (either c (not (long_enough c.cap (sizeimage c Cap))) (refused c Inval) (answered x Done) (here c) (then_settled c x (same_queues c x refl refl))))

command_less : (c : Context) (cmd : ℕ) → SlotLess c (command_answer c cmd).slot
command_less c cmd =
    either c (cmd == 0) (start_answer c) _ (start_less c) (either c (cmd == 1) (stop_answer c) (refused c Inval) (stop_less c) (here c))

value_less : (c : Context) (o : Option ℕ) → SlotLess c (value_answer c o).slot
value_less c None = here c
value_less c (Some v) = here c

control_less : (c : Context) (o : Option RunRates) → SlotLess c (control_answer c o).slot
control_less c None = here c
control_less c (Some rates) = then_settled c (record c { rates = rates }) (same_queues c (record c { rates = rates }) refl refl)

-- what an answer does to the number of buffers with the index that the user does not hold, and whether one comes back
abbrev Balance : Side → ℕ → Slot → Call → Answer → Type 0
Balance side i s request a = cond (call_returns side i s request a.reply) 1 0 + not_held_in side i a.slot ≤ not_held_in side i s

-- QBuf: another buffer, or one of the other side
count_last : (k i : ℕ) (x : Buffer) → x.index ≡ k → eqb k i ≡ false → count_index (x ∷ []) i ≡ 0
count_last k i x e n =
    ap (λ b. cond b 1 0 + 0) (ne_eqb x.index i (λ (z : x.index ≡ i). eqb-false k i n (sym e ∙ z))) ∙ omega arith

queued_index : (side : Side) (b : Buffer) (used : ℕ) (stamp : Stamp) (bytes : List ℕ) (ordinal : ℕ) → (queued_buffer side b used stamp bytes ordinal).index ≡ b.index
queued_index Out b used stamp bytes ordinal = refl
queued_index Cap b used stamp bytes ordinal = refl

queue_away : (q : QueueState) (k i used : ℕ) (stamp : Stamp) (bytes : List ℕ) → eqb k i ≡ false → (o : Option Buffer) → with_index k q.held ≡ o → not_held (queue_held q k o used stamp bytes) i ≤ not_held q i
queue_away q k i used stamp bytes n None e = omega arith
queue_away q k i used stamp bytes n (Some b) e =
    let x = queued_buffer q.side b used stamp bytes q.next_ordinal in
    let z = count_last k i x (queued_index q.side b used stamp bytes q.next_ordinal ∙ (find_index q.held k b e).0) n in
    let p = count-append q.ready (x ∷ []) i in
    omega arith

queued_away :
    (c : Context) (on side : Side) (k i used : ℕ) (stamp : Stamp) (bytes : List ℕ) → (same_side on side && eqb k i) ≡ false
    → not_held (queue_of (with_queue c on (qbuf_after (queue_of c on) k used stamp bytes)) side) i ≤ not_held (queue_of c side) i
queued_away c Out Out k i used stamp bytes n = queue_away c.out k i used stamp bytes n (with_index k c.out.held) refl
queued_away c Out Cap k i used stamp bytes n = omega arith
queued_away c Cap Out k i used stamp bytes n = omega arith
queued_away c Cap Cap k i used stamp bytes n = queue_away c.cap k i used stamp bytes n (with_index k c.cap.held) refl

settled_side : (x : Context) (side : Side) (i : ℕ) → not_held (queue_of (settle x) side) i ≤ not_held (queue_of x side) i
settled_side x Out i = (settle_away x).out i
settled_side x Cap i = (settle_away x).cap i

queue_split :
    (c x : Context) (on side : Side) (k i used : ℕ) (stamp : Stamp) (o r : Option Errno)
    → call_queues side i (QBuf on k used stamp) (unless c o (unless c r (answered x Done))).reply ≡ false
    → ((same_side on side && eqb k i) ≡ false → not_held (queue_of x side) i ≤ not_held (queue_of c side) i)
    → not_held_in side i (unless c o (unless c r (answered x Done))).slot ≤ not_held (queue_of c side) i
queue_split c x on side k i used stamp (Some e) r n h = omega arith
queue_split c x on side k i used stamp None (Some e) n h = omega arith
queue_split c x on side k i used stamp None None n h =
    let a = settled_side x side i in
    let b = h n in
    omega arith

queue_balance :
    (c : Context) (on side : Side) (k i used : ℕ) (stamp : Stamp) (bytes : List ℕ)
    → call_queues side i (QBuf on k used stamp) (qbuf_answer c on k used stamp bytes).reply ≡ false
    → not_held_in side i (qbuf_answer c on k used stamp bytes).slot ≤ not_held (queue_of c side) i
queue_balance c on side k i used stamp bytes n =
    let q = queue_of c on in
    queue_split c (with_queue c on (qbuf_after q k used stamp bytes)) on side k i used stamp
    (held_refusal q.side (with_index k q.held) used (sizeimage c on)) (refuse_if (is_no_whole_picture c on used) Inval None) n
    (queued_away c on side k i used stamp bytes)

-- DqBuf: the front of done comes back
stop_out : (c : Context) (p : PhaseState) (b : Bool) → (stop_at_last c p b).out ≡ c.out
stop_out c run b = refl
stop_out c (owe cause) b = refl
stop_out c (last drain) true = refl
stop_out c (last drain) false = refl
stop_out c (last change) true = refl
stop_out c (last change) false = refl
stop_out c (stopped cause) b = refl

stop_cap : (c : Context) (p : PhaseState) (b : Bool) → (stop_at_last c p b).cap ≡ c.cap
stop_cap c run b = refl
stop_cap c (owe cause) b = refl
stop_cap c (last drain) true = refl
stop_cap c (last drain) false = refl
stop_cap c (last change) true = refl
stop_cap c (last change) false = refl
stop_cap c (stopped cause) b = refl

take_away : (q : QueueState) (b : Buffer) (rest ds : List Buffer) (i : ℕ) → q.done ≡ ds → ds ≡ b ∷ rest → cond (eqb b.index i) 1 0 + not_held (take_front q ds) i ≤ not_held q i
take_away q b rest [] i e f = absurd (cc)
take_away q b rest (x ∷ xs) i e f =
    let c = ap (λ l. count_index l i) (e ∙ f) in
    let d : count_index xs i ≡ count_index rest i = ap (λ l. count_index l i) (the_tail f) in
    omega arith
  where
    the_tail : x ∷ xs ≡ b ∷ rest → xs ≡ rest
    the_tail g = cc

take_balance : (c : Context) (from side : Side) (i : ℕ) (block : Bool) (ds : List Buffer) → (queue_of c from).done ≡ ds → Balance side i (Some c) (DqBuf from block) (taken_answer c from ds)
take_balance c from side i block [] e = omega arith
take_balance c Out Out i block (b ∷ rest) e =
    let x = record c { out = dqbuf_after c.out } in
    let p = (settle_away x).out i in
    let q = take_away c.out b rest c.out.done i refl e in
    omega arith
take_balance c Out Cap i block (b ∷ rest) e =
    let p = (settle_away (record c { out = dqbuf_after c.out })).cap i in omega arith
take_balance c Cap Out i block (b ∷ rest) e =
    let x = record c { cap = dqbuf_after c.cap } in
    let y = after_taking x Cap in
    let p = (settle_away y).out i in
    let q = ap (λ q. not_held q i) (stop_out x x.phase (is_empty x.cap.done)) in
    omega arith
take_balance c Cap Cap i block (b ∷ rest) e =
    let x = record c { cap = dqbuf_after c.cap } in
    let y = after_taking x Cap in
    let p = (settle_away y).cap i in
    let q = ap (λ q. not_held q i) (stop_cap x x.phase (is_empty x.cap.done)) in
    let t = take_away c.cap b rest c.cap.done i refl e in
    omega arith

block_balance : (c : Context) (from side : Side) (i : ℕ) (o : Option Errno) (block : Bool) (a : Answer) → Balance side i (Some c) (DqBuf from block) a → Balance side i (Some c) (DqBuf from block) (unless_or_block c o block a)
block_balance c from side i None block a b = b
block_balance c from side i (Some Again) true a b = omega arith
block_balance c from side i (Some Again) false a b = omega arith
block_balance c from side i (Some NoEnt) true a b = omega arith
block_balance c from side i (Some NoEnt) false a b = omega arith
block_balance c from side i (Some NoMem) block a b = omega arith
block_balance c from side i (Some Busy) block a b = omega arith
block_balance c from side i (Some Inval) block a b = omega arith
block_balance c from side i (Some NoTty) block a b = omega arith
block_balance c from side i (Some Pipe) block a b = omega arith

-- StreamOff: what the user did not hold comes back
back_at_most : (n : ℕ) (b : Bool) → nat_lt 0 n ≡ b → cond b 1 0 ≤ n
back_at_most n true e = ltb-true 0 n e
back_at_most n false e = omega arith

gone_away : (q : QueueState) (i : ℕ) → q.job ≡ [] → not_held (streamoff_after q) i ≡ 0
gone_away q i j = let c = ap (λ l. count_index l i) j in omega arith

output_off_queues : (kind : Kind) (x : Context) → ((after_output_off kind x).out ≡ x.out) × ((after_output_off kind x).cap ≡ x.cap)
output_off_queues Copy x = (refl, refl)
output_off_queues Enc x = (refl, refl)
output_off_queues Dec x = (refl, refl)

capture_off_queues : (kind : Kind) (x : Context) → ((after_capture_off kind x).out ≡ x.out) × ((after_capture_off kind x).cap ≡ x.cap)
capture_off_queues Copy x = (refl, refl)
capture_off_queues Enc x = (refl, refl)
capture_off_queues Dec x = (refl, refl)

capture_effect :
    (c : Context) (b : Bool)
    → let x =
    cond b (after_capture_off c.kind (record c { cap = streamoff_after c.cap; mark = mark_after_restart c.phase c.mark; phase = run })) (record c { cap = streamoff_after c.cap }) in
    (x.out ≡ c.out) × (x.cap ≡ streamoff_after c.cap)
capture_effect c true = capture_off_queues c.kind (record c { cap = streamoff_after c.cap; mark = mark_after_restart c.phase c.mark; phase = run })
capture_effect c false = (refl, refl)

off_balance : (c : Context) (stopped_side side : Side) (i : ℕ) → c.out.job ≡ [] → c.cap.job ≡ [] → Balance side i (Some c) (StreamOff stopped_side) (answered (streamoff_effect c stopped_side) Done)
off_balance c Out Out i j k =
    let x = streamoff_effect c Out in
    let e = ap (λ q. not_held q i) (output_off_queues c.kind (record c { out = streamoff_after c.out; mark = None; phase = without_drain_stop c.phase })).0 in
    let g = gone_away c.out i j in
    let p = (settle_away x).out i in
    let b = back_at_most (ready_or_done c.out i) (nat_lt 0 (ready_or_done c.out i)) refl in
    omega arith
off_balance c Out Cap i j k =
    let x = streamoff_effect c Out in
    let e = ap (λ q. not_held q i) (output_off_queues c.kind (record c { out = streamoff_after c.out; mark = None; phase = without_drain_stop c.phase })).1 in
    let p = (settle_away x).cap i in
    omega arith
off_balance c Cap Out i j k =
    let x = streamoff_effect c Cap in
    let e = ap (λ q. not_held q i) (capture_effect c c.cap.streams).0 in
    let p = (settle_away x).out i in
    omega arith
off_balance c Cap Cap i j k =
    let x = streamoff_effect c Cap in
    let e = ap (λ q. not_held q i) (capture_effect c c.cap.streams).1 in
    let g = gone_away c.cap i k in
    let p = (settle_away x).cap i in
    let b = back_at_most (ready_or_done c.cap i) (nat_lt 0 (ready_or_done c.cap i)) refl in
    omega arith

off_split :
    (c : Context) (stopped_side side : Side) (i : ℕ) (b : Bool) → is_none c.running ≡ b → IsSoundButUnsettled c
    → Balance side i (Some c) (StreamOff stopped_side) (cond b (answered (streamoff_effect c stopped_side) Done) (unchanged c Blocked))
off_split c stopped_side side i true e f =
    let jobs = without_job c f e in off_balance c stopped_side side i jobs.0 jobs.1
off_split c stopped_side side i false e f = omega arith

-- The whole table
plain : (c : Context) (side : Side) (i : ℕ) (s : Slot) → SlotLess c s → 0 + not_held_in side i s ≤ not_held_in side i (Some c)
plain c side i s n = let h = of_slot c s n side i in omega arith

context_balance :
    (c : Context) (side : Side) (i : ℕ) (request : Call) (bytes : List ℕ) (found : Bool) → IsOrdered c
    → call_queues side i request (context_answer c request bytes found).reply ≡ false
    → Balance side i (Some c) request (context_answer c request bytes found)
unfolding context_answer SlotLess
context_balance c side i (Open kind) bytes found s n = plain c side i (Some c) (here c)
context_balance c side i Close bytes found s n =
    plain c side i _ (either c (is_none c.running) (record { slot = None; reply = Done; bytes = [] }) (unchanged c Blocked) tt (here c))
context_balance c side i (EnumFmt on index) bytes found s n = plain c side i _ (desc_less c _)
context_balance c side i (GetFmt on) bytes found s n = plain c side i (Some c) (here c)
context_balance c side i (TryFmt on want) bytes found s n = plain c side i (Some c) (here c)
context_balance c side i (SetFmt on want) bytes found s n = plain c side i _ (set_less c on want)
context_balance c side i (ReqBufs on count) bytes found s n = plain c side i _ (reqbufs_less c on count found)
context_balance c side i (CreateBufs on count length) bytes found s n = plain c side i _ (create_less c on count length found)
context_balance c side i (QueryBuf on index) bytes found s n = plain c side i _ (query_less c _)
context_balance c side i (QBuf on index used stamp) bytes found s n =
    let h = queue_balance c on side index i used stamp bytes n in omega arith
context_balance c side i (DqBuf from block) bytes found s n =
    block_balance c from side i (dqbuf_refusal (queue_of c from) (is_ended c from)) block (taken_answer c from (queue_of c from).done) (take_balance c from side i block (queue_of c from).done refl)
context_balance c side i (StreamOn on) bytes found s n = plain c side i _ (streamon_less c on)
context_balance c side i (StreamOff on) bytes found s n = off_split c on side i (is_none c.running) refl s.firm
context_balance c side i (Subscribe event) bytes found s n = plain c side i _ (events_less c _ _ Done)
context_balance c side i (Unsubscribe event) bytes found s n = plain c side i _ (events_less c _ _ Done)
context_balance c side i (DqEvent block) bytes found s n = plain c side i _ (taken_event_less c _ block _ _)
context_balance c side i (DecCmd cmd) bytes found s n =
    plain c side i _ (either c (is_dec c.kind) (command_answer c cmd) (refused c NoTty) (command_less c cmd) (here c))
context_balance c side i (EncCmd cmd) bytes found s n =
    plain c side i _ (either c (is_enc c.kind) (command_answer c cmd) (refused c NoTty) (command_less c cmd) (here c))
context_balance c side i (GetCtrl id) bytes found s n = plain c side i _ (value_less c _)
context_balance c side i (SetCtrl id value) bytes found s n = plain c side i _ (control_less c _)
context_balance c side i Poll bytes found s n = plain c side i (Some c) (here c)

fresh_away : (kind : Kind) (side : Side) (i : ℕ) → not_held_in side i (Some (fresh_context kind)) ≡ 0
fresh_away kind Out i = refl
fresh_away kind Cap i = refl

closed_balance : (side : Side) (i : ℕ) (request : Call) (found : Bool) → Balance side i None request (closed_answer request found)
unfolding closed_answer
closed_balance side i (Open kind) true = let e = fresh_away kind side i in omega arith
closed_balance side i (Open kind) false = omega arith
closed_balance side i request found = omega arith

answer_balance :
    (s : Slot) (side : Side) (i : ℕ) (request : Call) (bytes : List ℕ) (found : Bool) → IsOrderedSlot s
    → call_queues side i request (answer s request bytes found).reply ≡ false → Balance side i s request (answer s request bytes found)
unfolding answer
answer_balance None side i request bytes found h n = closed_balance side i request found
answer_balance (Some c) side i request bytes found h n = context_balance c side i request bytes found h n

-- Claims

cap_claim_away : (sort : RunSort) (q : QueueState) (i : ℕ) → not_held (cap_after_claim sort q) i ≤ not_held q i
cap_claim_away copy q i = lend_away q q.ready i refl
cap_claim_away encode q i = lend_away q q.ready i refl
cap_claim_away decode q i = lend_away q q.ready i refl
cap_claim_away probe q i = omega arith

claimed_away : (c : Context) (sort : RunSort) (ready : List Buffer) → NotMore c (claim_front c sort ready)
claimed_away c sort [] = same_queues c c refl refl
claimed_away c sort (b ∷ rest) =
    record { out = λ i. lend_away c.out c.out.ready i refl; cap = λ i. cap_claim_away sort c.cap i }

claim_away : (c : Context) → NotMore c (after_claim c)
unfolding after_claim
claim_away c = claimed_away c (sort_of c.kind c.geometry) c.out.ready

claim_step_away : (s : Slot) (b : Bool) (side : Side) (i : ℕ) → not_held_in side i (claim_step s b).slot ≤ not_held_in side i s
unfolding SlotLess
claim_step_away None b side i = omega arith
claim_step_away (Some c) true side i = of_slot c (Some (after_claim c)) (claim_away c) side i
claim_step_away (Some c) false side i = omega arith

-- Finishes

source_done_away : (c : Context) (j : JobData) (flags : ℕ) → NotMore c (source_done c j flags)
source_done_away c j flags =
    record { out = λ i. retire_away c.out c.out.job j.source.used j.source.bytes flags j.source.stamp i refl; cap = λ i. omega arith }

source_back_away : (c : Context) (j : JobData) (cursor : ℕ) → NotMore c (source_back c j cursor)
source_back_away c j cursor =
    record { out = λ i. give_back_away c.out c.out.job cursor j.source.bytes i refl; cap = λ i. omega arith }

source_moved_away : (c : Context) (j : JobData) (cursor : ℕ) (b : Bool) → NotMore c (source_moved c j cursor b)
source_moved_away c j cursor true = source_done_away c j 0
source_moved_away c j cursor false = source_back_away c j cursor

dest_split_away :
    (c : Context) (used : ℕ) (bytes : List ℕ) (flags : ℕ) (stamp : Stamp) (b : Bool)
    → NotMore c
    (cond b (raise_end drain (record c { cap = retire_after c.cap used bytes (flags + last_flag) stamp; phase = last drain })) (record c { cap = retire_after c.cap used bytes flags stamp }))
dest_split_away c used bytes flags stamp true =
    let x = record c { cap = retire_after c.cap used bytes (flags + last_flag) stamp; phase = last drain } in
    and_then c x (raise_end drain x) (record { out = λ i. omega arith; cap = λ i. retire_away c.cap c.cap.job used bytes (flags + last_flag) stamp i refl }) (raised drain x)
dest_split_away c used bytes flags stamp false =
    record { out = λ i. omega arith; cap = λ i. retire_away c.cap c.cap.job used bytes flags stamp i refl }

dest_done_away : (c : Context) (dest : List Buffer) (used_up : Bool) (used : ℕ) (bytes : List ℕ) (flags : ℕ) (stamp : Stamp) → NotMore c (dest_done c dest used_up used bytes flags stamp)
dest_done_away c [] used_up used bytes flags stamp = same_queues c c refl refl
dest_done_away c (b ∷ rest) used_up used bytes flags stamp =
    dest_split_away c used bytes flags stamp (used_up && is_drained c.out.ready c.mark)

dest_back_away : (c : Context) (dest : List Buffer) → NotMore c (dest_back c dest)
dest_back_away c [] = same_queues c c refl refl
dest_back_away c (b ∷ rest) = record { out = λ i. omega arith; cap = λ i. give_back_away c.cap c.cap.job 0 [] i refl }

changed_away : (x : Context) (b : Bool) → NotMore x (cond b (record x { phase = owe change }) x)
changed_away x true = same_queues x (record x { phase = owe change }) refl refl
changed_away x false = same_queues x x refl refl

decoded_away : (c : Context) (j : JobData) (cursor : ℕ) (result : DecodedResult) → NotMore c (decoded_effect c j cursor result)
decoded_away c j cursor (picture bytes key stamp) =
    let x = source_moved c j cursor (cursor == j.source.used) in
    and_then c x _ (source_moved_away c j cursor (cursor == j.source.used)) (dest_done_away x j.dest (cursor == j.source.used) (length bytes) bytes (type_flag key) stamp)
decoded_away c j cursor (damaged stamp) =
    let x = source_moved c j cursor (cursor == j.source.used) in
    and_then c x _ (source_moved_away c j cursor (cursor == j.source.used)) (dest_done_away x j.dest (cursor == j.source.used) 0 [] error_flag stamp)
decoded_away c j cursor (changed geometry) =
    let x = source_back c j cursor in
    let y = dest_back x j.dest in
    let z = record y { geometry = Some geometry; formats = formats_found y.formats geometry; events = raise_after y.events source_change_event 1 } in
    and_then c x _ (source_back_away c j cursor) (and_then x y _ (dest_back_away x j.dest) (and_then y z _ (same_queues y z refl refl) (changed_away z z.cap.streams)))
decoded_away c j cursor spent =
    let x = source_done c j 0 in and_then c x _ (source_done_away c j 0) (dest_back_away x j.dest)

done_away : (c : Context) (j : JobData) (flags used : ℕ) (bytes : List ℕ) (dest_flags : ℕ) (stamp : Stamp) → NotMore c (dest_done (source_done c j flags) j.dest true used bytes dest_flags stamp)
done_away c j flags used bytes dest_flags stamp =
    and_then c (source_done c j flags) _ (source_done_away c j flags) (dest_done_away (source_done c j flags) j.dest true used bytes dest_flags stamp)

run_away : (c : Context) (j : JobData) (result : RunResult) → NotMore c (run_effect c j result)
run_away c j (copied bytes) = done_away c j 0 (length bytes) bytes 0 j.source.stamp
run_away c j (encoded frame) =
    let x = record c { codec = encoder frame.state } in
    and_then c x _ (same_queues c x refl refl) (done_away x j 0 (length frame.bytes) frame.bytes (type_flag frame.key) j.source.stamp)
run_away c j (decoded step) =
    let x = record c { codec = decoder step.state } in
    and_then c x _ (same_queues c x refl refl) (decoded_away x j (j.source.cursor + step.moved) (step_outcome j.format.fourcc step))

fault_away : (c : Context) (j : JobData) → NotMore c (fault_effect c j)
fault_away c j =
    let x = record c { codec = reset c.codec } in
    and_then c x _ (same_queues c x refl refl) (done_away x j error_flag 0 [] error_flag j.source.stamp)

finish_away : (coder : Coder) (c : Context) (r : Running) (fault : Bool) → NotMore c (after_finish coder c r fault)
unfolding after_finish
finish_away coder c r true =
    let x = record c { running = None } in
    let y = fault_effect x (job_data c r) in
    and_then c x _ (same_queues c x refl refl) (and_then x y _ (fault_away x (job_data c r)) (settle_away y))
finish_away coder c r false =
    let x = record c { running = None } in
    let y = run_effect x (job_data c r) (run_result coder (job_data c r)) in
    and_then c x _ (same_queues c x refl refl) (and_then x y _ (run_away x (job_data c r) (run_result coder (job_data c r))) (settle_away y))

finish_job_away : (coder : Coder) (c : Context) (o : Option Running) (fault : Bool) (side : Side) (i : ℕ) → not_held_in side i (solo_finish coder c o fault).slot ≤ not_held_in side i (Some c)
unfolding SlotLess
finish_job_away coder c None fault side i = omega arith
finish_job_away coder c (Some r) fault side i =
    of_slot c (Some (after_finish coder c r fault)) (finish_away coder c r fault) side i

finish_step_away : (coder : Coder) (s : Slot) (fault : Bool) (side : Side) (i : ℕ) → not_held_in side i (finish_step coder s fault).slot ≤ not_held_in side i s
finish_step_away coder None fault side i = omega arith
finish_step_away coder (Some c) fault side i = finish_job_away coder c c.running fault side i

-- Steps and runs

step_balance :
    (coder : Coder) (s : Slot) (e : SoloEvent) (side : Side) (i : ℕ) → IsOrderedSlot s → is_queued side i e (solo_step coder s e).told ≡ false
    → cond (comes_back side i s e (solo_step coder s e).told) 1 0 + not_held_in side i (solo_step coder s e).slot ≤ not_held_in side i s
unfolding solo_step
step_balance coder s (Called request bytes found) side i h n = answer_balance s side i request bytes found h n
step_balance coder s Claims side i h n = let a = claim_step_away s (is_claimable s) side i in omega arith
step_balance coder s (Finishes fault) side i h n = let a = finish_step_away coder s fault side i in omega arith

run_balance : (coder : Coder) (side : Side) (i : ℕ) (s : Slot) (es : List SoloEvent) → IsOrderedSlot s → IsNotQueued coder side i s es → returns_in coder side i s es ≤ not_held_in side i s
run_balance coder side i s [] h n = omega arith
run_balance coder side i s (e ∷ es) h n =
    let step = step_balance coder s e side i h n.0 in
    let rest = run_balance coder side i (solo_step coder s e).slot es (step_sound coder s e h) n.1 in
    omega arith

away_at_most : (s : Slot) (side : Side) (i : ℕ) → IsOrderedSlot s → not_held_in side i s ≤ 1
away_at_most None side i h = omega arith
away_at_most (Some c) Out i h =
    let a = once_at_most c.out h.firm.out.once i in
    let p = count_parts c.out.held c.out.ready c.out.job c.out.done i in
    omega arith
away_at_most (Some c) Cap i h =
    let a = once_at_most c.cap h.firm.cap.once i in
    let p = count_parts c.cap.held c.cap.ready c.cap.job c.cap.done i in
    omega arith

pub back_once : BackOnce
back_once coder events more side i n =
    let h = always_ordered coder events in
    (run_balance coder side i (solo_slot coder None events) more h n, away_at_most (solo_slot coder None events) side i h)

-- ReqBufs and Close

dropped_new : (kind : Kind) (side : Side) (x : Context) (i : ℕ) → not_held (queue_of x side) i ≡ 0 → not_held (queue_of (after_new_buffers kind side x) side) i ≡ 0
dropped_new Copy Out x i e = e
dropped_new Copy Cap x i e = e
dropped_new Enc Out x i e = e
dropped_new Enc Cap x i e = e
dropped_new Dec Out x i e = e
dropped_new Dec Cap x i e = e

settled_none : (x : Context) (side : Side) (i : ℕ) → not_held (queue_of x side) i ≡ 0 → not_held (queue_of (settle x) side) i ≡ 0
settled_none x Out i e = let h = (settle_away x).out i in omega arith
settled_none x Cap i e = let h = (settle_away x).cap i in omega arith

dropped_queue : (c : Context) (side : Side) (count size i : ℕ) → not_held (queue_of (with_queue c side (reqbufs_after (queue_of c side) count size)) side) i ≡ 0
dropped_queue c Out count size i = refl
dropped_queue c Cap count size i = refl

dropped_split :
    (c : Context) (side : Side) (count counted i : ℕ) (o : Option Errno) (found : Bool)
    → let x = after_new_buffers c.kind side (with_queue c side (reqbufs_after (queue_of c side) count (sizeimage c side))) in
    let a = unless c o (if_found c found (answered x (Count (min count most_buffers)))) in a.reply ≡ Count counted → not_held_in side i a.slot ≡ 0
dropped_split c side count counted i (Some errno) found e = absurd (cc)
dropped_split c side count counted i None true e =
    let x = after_new_buffers c.kind side (with_queue c side (reqbufs_after (queue_of c side) count (sizeimage c side))) in
    settled_none x side i (dropped_new c.kind side (with_queue c side (reqbufs_after (queue_of c side) count (sizeimage c side))) i (dropped_queue c side count (sizeimage c side) i))
dropped_split c side count counted i None false e = absurd (cc)

dropped_slot : (s : Slot) (side : Side) (count counted i : ℕ) (bytes : List ℕ) (found : Bool) → (answer s (ReqBufs side count) bytes found).reply ≡ Count counted → not_held_in side i (answer s (ReqBufs side count) bytes found).slot ≡ 0
unfolding answer context_answer closed_answer
dropped_slot None side count counted i bytes found e = absurd (cc)
dropped_slot (Some c) side count counted i bytes found e =
    dropped_split c side count counted i (reqbufs_refusal (queue_of c side)) found e

closed_split : (c : Context) (b : Bool) → let a = cond b (record { slot = None; reply = Done; bytes = [] }) (unchanged c Blocked) in a.reply ≡ Done → a.slot ≡ None
closed_split c true e = refl
closed_split c false e = absurd (cc)

closed_slot : (s : Slot) (bytes : List ℕ) (found : Bool) → (answer s Close bytes found).reply ≡ Done → (answer s Close bytes found).slot ≡ None
unfolding answer context_answer closed_answer
closed_slot None bytes found e = refl
closed_slot (Some c) bytes found e = closed_split c (is_none c.running) e

pub buffers_are_dropped : BuffersAreDropped
buffers_are_dropped coder events =
    record {
      reqbufs = λ side count counted i bytes found e. dropped_slot (solo_slot coder None events) side count counted i bytes found e;
      close = λ bytes found e. closed_slot (solo_slot coder None events) bytes found e;
    }
