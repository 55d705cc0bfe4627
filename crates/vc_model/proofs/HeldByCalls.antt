-- Which buffers the user holds is decided by his own calls and their replies alone. A buffer is given by ReqBufs and
-- CreateBufs, leaves his hand by QBuf, and comes back by DqBuf and StreamOff; claims, finishes and settling move
-- buffers only among those that he does not hold.
use Rattle.std.proofs.Common.{ℕ, ◌≡◌, ◌≤◌, ◌+◌, ◌==◌, nat_lt, Bool, true, false, not, cond, ◌&&◌, ◌||◌, is_none, is_some, Option, Some, None, List, [], ◌∷◌, ◌++◌, length, refl, sym, ap, ◌∙◌, subst, arith}
use Rattle.std.proofs.lemmas.Bool.{ltb-false, false≢true}
use Rattle.vc_base.specs.declared.Stamp.{Stamp}
use Rattle.vc_base.specs.declared.Side.{Side}
use Rattle.vc_base.specs.declared.Side.TheVariants.{Out, Cap}
use Rattle.vc_base.specs.declared.Kind.{Kind}
use Rattle.vc_base.specs.declared.Kind.TheVariants.{Copy, Enc, Dec}
use Rattle.vc_base.specs.declared.Fourcc.{Fourcc}
use Rattle.vc_base.specs.declared.Format.{Format}
use Rattle.vc_base.specs.declared.Errno.{Errno}
use Rattle.vc_base.specs.declared.Errno.TheVariants.{NoEnt, Again, NoMem, Busy, Inval, NoTty, Pipe}
use Rattle.vc_base.specs.declared.Call.{Call}
use Rattle.vc_base.specs.declared.Call.TheVariants.{Open, Close, EnumFmt, GetFmt, TryFmt, SetFmt, ReqBufs, CreateBufs, QueryBuf, QBuf, DqBuf, StreamOn, StreamOff, Subscribe, Unsubscribe, DqEvent, DecCmd, EncCmd, GetCtrl, SetCtrl, Poll}
use Rattle.vc_base.specs.declared.Reply.{Reply}
use Rattle.vc_base.specs.declared.Reply.TheVariants.{Done, Created, Blocked}
use Rattle.vc_base.specs.Buffers.{Buffer, QueueState, buffer_count, is_empty, refuse_if, with_index, queued_buffer, queue_held, held_refusal, take_front}
use Rattle.vc_base.specs.Buffers.{long_enough, reqbufs_after, create_refusal, create_after, created, qbuf_after, dqbuf_after, streamon_refusal, streamon_after}
use Rattle.vc_base.specs.Buffers.{streamoff_after, dqbuf_refusal}
use Rattle.vc_base.specs.Events.{EventState}
use Rattle.vc_model.specs.Formats.{FormatPair}
use Rattle.vc_model.specs.Coder.{reset}
use Rattle.vc_defs.specs.Encoder.{RunRates}
use Rattle.vc_model.specs.Context.{Context, Slot, Running, Cause, drain, change, PhaseState, run, owe, last, stopped, fresh_context, queue_of, with_queue, is_run, sizeimage, is_dec, is_enc, is_drained}
use Rattle.vc_model.specs.Answer.{Answer, unchanged, refused, answered, unless, if_found, unless_or_block, desc_answer, set_refusal, set_answer}
use Rattle.vc_model.specs.Answer.{after_new_format, reqbufs_answer, after_new_buffers, create_answer, query_answer, qbuf_answer, is_no_whole_picture}
use Rattle.vc_model.specs.Answer.{taken_answer, stop_at_last, is_ended, streamon_answer, streamoff_effect, without_drain_stop, after_output_off}
use Rattle.vc_model.specs.Answer.{mark_after_restart, after_capture_off, both_stream, stop_answer, start_is_early, start_answer, command_answer, value_answer}
use Rattle.vc_model.specs.Answer.{control_answer, context_answer, closed_answer, answer}
use Rattle.vc_model.specs.Phases.{is_stopped_by_drain}
use Rattle.vc_model.specs.Sound.{HasItsBuffers, IsSoundButUnsettled, IsOrderedSlot}
use Rattle.vc_model.proofs.PartsOfTests.{and_left}
use Rattle.std.specs.Prelude.{min, slice_get}
use Rattle.std.proofs.Common.{map, length-append}
use Rattle.vc_base.specs.declared.Reply.TheVariants.{Fmt, Count}
use Rattle.vc_base.specs.Buffers.{held_again, new_buffers, lend_front, retire_from, retire_after, give_back_from, known_bytes, zero_stamp, reqbufs_refusal, querybuf_reply}
use Rattle.vc_base.specs.Limits.{most_buffers, last_flag, error_flag, source_change_event}
use Rattle.vc_base.specs.Events.{event_refusal, event_reply, raise_after, subscribe_after, unsubscribe_after, take_event_after}
use Rattle.vc_defs.specs.Decoder.{DecodedResult, picture, damaged, changed, spent, step_outcome}
use Rattle.vc_model.specs.Formats.{formats_listed, formats_for, formats_found}
use Rattle.vc_model.specs.Coder.{Coder, encoder, decoder}
use Rattle.vc_model.specs.Context.{RunSort, copy, encode, decode, probe, format_of, raise_end, settle, settle_drain, settle_last, give_last}
use Rattle.vc_model.specs.Answer.{control_of, with_control}
use Rattle.vc_model.specs.Runs.{is_claimable, sort_of, cap_after_claim, claim_front, after_claim, JobData, job_data, RunResult, copied, encoded, decoded}
use Rattle.vc_model.specs.Runs.{run_result, source_done, source_back, source_moved, dest_done, dest_back, decoded_effect, run_effect, fault_effect, type_flag}
use Rattle.vc_model.specs.Runs.{after_finish}
use Rattle.vc_model.specs.Solo.{SoloEvent, Called, Claims, Finishes, solo_step, solo_slot, claim_step, solo_finish, finish_step}
use Rattle.vc_model.specs.Sound.{dest_count, IsOrderedSlot}
use Rattle.vc_model.proofs.PartsOfTests.{and_right}
use Rattle.vc_model.proofs.QueuesKeepSound.{find_index, length_without, length_new, length_back}
use Rattle.vc_model.proofs.EventsKeepSound.{run_fits, fault_firm, run_firm, begins, step_sound, always_ordered}
use Rattle.vc_model.specs.Answer.{after_taking}
use Rattle.std.proofs.Common.{eqb, ◌⊎◌, inl, inr, ◌||◌}
use Rattle.vc_base.specs.declared.Reply.TheVariants.{Refused, Blocked}
use Rattle.std.specs.List.{filter}
use Rattle.std.proofs.lemmas.Bool.{eqb-true, eqb-false, ltb-true, lt-ltb, le-ltb}
use Rattle.vc_model.specs.Context.{is_run}
use Rattle.vc_model.specs.Solo.{solo_run}
use Rattle.vc_model.specs.JobList.{waits}
use Rattle.vc_model.specs.Sound.{count_index, IsSoundQueue, HasItsBuffers}
use Rattle.vc_model.specs.Places.{same_side, not_held}
use Rattle.vc_model.specs.Holding.{Holding, no_buffers, holding_after_call, holding_after, holding_from, holding_of, is_held_by, is_held, HeldByCalls}
use Rattle.vc_model.proofs.QueuesKeepSound.{count_parts, count-append, is_once, is_none_there, once_at_most}
use Rattle.vc_model.proofs.CallsKeepFirm.{idle, without_job}
use Rattle.vc_model.proofs.JobListIsExact.{without_same, without_other}

-- The same buffers, held and not held

record Same (q r : QueueState) : Type 0 where
  pub count : buffer_count r ≡ buffer_count q
  pub away : (i : ℕ) → not_held r i ≡ not_held q i

same_self : (q : QueueState) → Same q q
same_self q = record { count = refl; away = λ i. refl }

same_on : (q r s : QueueState) → Same q r → Same r s → Same q s
same_on q r s x y = record { count = y.count ∙ x.count; away = λ i. y.away i ∙ x.away i }

lend_kept : (q : QueueState) (ready : List Buffer) → q.ready ≡ ready → q.job ≡ [] → Same q (lend_front q ready)
lend_kept q [] e j = same_self q
lend_kept q (b ∷ rest) e j =
    let l = ap length e in
    let m = ap length j in
    record { count = omega arith; away = λ i. let c = ap (λ l. count_index l i) e in let d = ap (λ l. count_index l i) j in omega arith }

retire_kept : (q : QueueState) (job : List Buffer) (used : ℕ) (bytes : List ℕ) (flags : ℕ) (stamp : Stamp) → q.job ≡ job → length job ≤ 1 → Same q (retire_from q job used bytes flags stamp)
retire_kept q [] used bytes flags stamp e n = same_self q
retire_kept q (b ∷ []) used bytes flags stamp e n =
    let x : Buffer = record b { used = used; bytes = known_bytes q.side flags bytes; flags = flags; stamp = stamp; seq = q.next_seq } in
    let l = ap length e in
    let m = length-append q.done (x ∷ []) in
    record { count = omega arith; away = λ i. let c = ap (λ l. count_index l i) e in let d = count-append q.done (x ∷ []) i in omega arith }
retire_kept q (b ∷ (d ∷ bs)) used bytes flags stamp e n = absurd (omega arith)

give_kept : (q : QueueState) (job : List Buffer) (cursor : ℕ) (bytes : List ℕ) → q.job ≡ job → length job ≤ 1 → Same q (give_back_from q job cursor bytes)
give_kept q [] cursor bytes e n = same_self q
give_kept q (b ∷ []) cursor bytes e n =
    let l = ap length e in
    record { count = omega arith; away = λ i. let c = ap (λ l. count_index l i) e in omega arith }
give_kept q (b ∷ (d ∷ bs)) cursor bytes e n = absurd (omega arith)

-- Both queues of a context
record SameBuffers (c x : Context) : Type 0 where
  pub out : Same c.out x.out
  pub cap : Same c.cap x.cap

buffers_self : (c : Context) → SameBuffers c c
buffers_self c = record { out = same_self c.out; cap = same_self c.cap }

buffers_on : (c x y : Context) → SameBuffers c x → SameBuffers x y → SameBuffers c y
buffers_on c x y a b = record { out = same_on c.out x.out y.out a.out b.out; cap = same_on c.cap x.cap y.cap a.cap b.cap }

same_queues : (c x : Context) → x.out ≡ c.out → x.cap ≡ c.cap → SameBuffers c x
same_queues c x e f =
    record { out = subst (Same c.out) (sym e) (same_self c.out); cap = subst (Same c.cap) (sym f) (same_self c.cap) }

-- Settling, where no job has the CAPTURE buffer that is given

record IsDue (c : Context) : Type 0 where
  pub stopped : is_run c.phase ≡ false → c.cap.job ≡ []
  pub idle : is_none c.running ≡ true → c.cap.job ≡ []

raised_kept : (cause : Cause) (c : Context) → SameBuffers c (raise_end cause c)
raised_kept drain c = same_queues c (raise_end drain c) refl refl
raised_kept change c = buffers_self c

give_last_kept : (c : Context) (cause : Cause) (ready : List Buffer) → c.cap.ready ≡ ready → c.cap.job ≡ [] → SameBuffers c (give_last c cause ready)
give_last_kept c cause [] e j = buffers_self c
give_last_kept c cause (b ∷ rest) e j =
    let x = record c { cap = retire_after (lend_front c.cap (b ∷ rest)) 0 [] last_flag zero_stamp; phase = last cause } in
    let k =
    same_on c.cap (lend_front c.cap (b ∷ rest)) (retire_after (lend_front c.cap (b ∷ rest)) 0 [] last_flag zero_stamp)
    (lend_kept c.cap (b ∷ rest) e j) (retire_kept (lend_front c.cap (b ∷ rest)) (b ∷ []) 0 [] last_flag zero_stamp refl (omega arith)) in
    let y = buffers_on c x (raise_end cause x) (record { out = same_self c.out; cap = k }) (raised_kept cause x) in
    subst (λ l. SameBuffers c (raise_end cause (record c { cap = retire_after (lend_front c.cap l) 0 [] last_flag zero_stamp; phase = last cause }))) (sym e) y

owed_kept : (c : Context) (phase : PhaseState) → c.phase ≡ phase → IsDue c → SameBuffers c (settle_last c phase)
owed_kept c run p d = buffers_self c
owed_kept c (owe cause) p d = give_last_kept c cause c.cap.ready refl (d.stopped (ap is_run p))
owed_kept c (last cause) p d = buffers_self c
owed_kept c (stopped cause) p d = buffers_self c

-- a drain that is noted
noted_due : (c : Context) (b : Bool) → (b ≡ true → is_none c.running ≡ true) → IsDue c → IsDue (cond b (record c { phase = owe drain }) c)
noted_due c true h d = record { stopped = λ e. d.idle (h refl); idle = d.idle }
noted_due c false h d = d

noted_kept : (c : Context) (b : Bool) → SameBuffers c (cond b (record c { phase = owe drain }) c)
noted_kept c true = same_queues c (record c { phase = owe drain }) refl refl
noted_kept c false = buffers_self c

settle_kept : (c : Context) → IsDue c → SameBuffers c (settle c)
unfolding settle
settle_kept c d =
    let test = is_run c.phase && (c.cap.streams && (is_none c.running && is_drained c.out.ready c.mark)) in
    let x = settle_drain c in
    let due =
    noted_due c test (λ e.
    and_left (is_none c.running) (is_drained c.out.ready c.mark)
    (and_right c.cap.streams (is_none c.running && is_drained c.out.ready c.mark) (and_right (is_run c.phase) (c.cap.streams && (is_none c.running && is_drained c.out.ready c.mark)) e)))
    d in
    buffers_on c x (settle_last x x.phase) (noted_kept c test) (owed_kept x x.phase refl due)

firm_due : (c : Context) → IsSoundButUnsettled c → IsDue c
firm_due c f = record { stopped = λ e. (idle c f e).1.1; idle = λ e. (without_job c f e).1 }

-- What is known of a queue

record Keeps (h : Holding) (q : QueueState) : Type 0 where
  pub count : h.count ≡ buffer_count q
  pub away : (i : ℕ) → waits h.away i ≡ nat_lt 0 (not_held q i)

kept_to : (h : Holding) (q r : QueueState) → Same q r → Keeps h q → Keeps h r
kept_to h q r s k = record { count = k.count ∙ sym s.count; away = λ i. k.away i ∙ ap (nat_lt 0) (sym (s.away i)) }

KeepsSlot : Side → Holding → Slot → Type 0
KeepsSlot side h None = h ≡ no_buffers
KeepsSlot side h (Some c) = Keeps h (queue_of c side)

of_side : (c x : Context) (side : Side) → SameBuffers c x → Same (queue_of c side) (queue_of x side)
of_side c x Out s = s.out
of_side c x Cap s = s.cap

same_slot : (c : Context) (side : Side) (h : Holding) → Keeps h (queue_of c side) → KeepsSlot side h (Some c)
unfolding KeepsSlot
same_slot c side h k = k

-- an effect after which this is known of the queue, and then settling
settled_slot : (x : Context) (side : Side) (h : Holding) → IsDue x → Keeps h (queue_of x side) → KeepsSlot side h (Some (settle x))
unfolding KeepsSlot
settled_slot x side h d k = kept_to h (queue_of x side) (queue_of (settle x) side) (of_side x (settle x) side (settle_kept x d)) k

-- an effect that leaves the buffers
left_slot : (c x : Context) (side : Side) (h : Holding) → SameBuffers c x → IsDue x → Keeps h (queue_of c side) → KeepsSlot side h (Some (settle x))
left_slot c x side h s d k =
    settled_slot x side h d (kept_to h (queue_of c side) (queue_of x side) (of_side c x side s) k)

-- Rows: what is known after the answer
abbrev After : Side → Holding → Call → Answer → Type 0
After side h request a = KeepsSlot side (holding_after_call side h request a.reply) a.slot

unless_after :
    (side : Side) (h : Holding) (request : Call) (c : Context) (o : Option Errno) (a : Answer)
    → ((e : Errno) → holding_after_call side h request (Refused e) ≡ h) → Keeps h (queue_of c side) → (o ≡ None → After side h request a)
    → After side h request (unless c o a)
unless_after side h request c None a n k f = f refl
unless_after side h request c (Some e) a n k f = subst (λ g. KeepsSlot side g (Some c)) (sym (n e)) (same_slot c side h k)

found_after :
    (side : Side) (h : Holding) (request : Call) (c : Context) (found : Bool) (a : Answer)
    → ((e : Errno) → holding_after_call side h request (Refused e) ≡ h) → Keeps h (queue_of c side) → After side h request a
    → After side h request (if_found c found a)
found_after side h request c true a n k f = f
found_after side h request c false a n k f = subst (λ g. KeepsSlot side g (Some c)) (sym (n NoMem)) (same_slot c side h k)

block_after :
    (side : Side) (h : Holding) (request : Call) (c : Context) (o : Option Errno) (block : Bool) (a : Answer)
    → ((e : Errno) → holding_after_call side h request (Refused e) ≡ h) → holding_after_call side h request Blocked ≡ h → Keeps h (queue_of c side)
    → After side h request a → After side h request (unless_or_block c o block a)
block_after side h request c None block a n m k f = f
block_after side h request c (Some Again) true a n m k f = subst (λ g. KeepsSlot side g (Some c)) (sym m) (same_slot c side h k)
block_after side h request c (Some Again) false a n m k f = subst (λ g. KeepsSlot side g (Some c)) (sym (n Again)) (same_slot c side h k)
block_after side h request c (Some NoEnt) true a n m k f = subst (λ g. KeepsSlot side g (Some c)) (sym m) (same_slot c side h k)
block_after side h request c (Some NoEnt) false a n m k f = subst (λ g. KeepsSlot side g (Some c)) (sym (n NoEnt)) (same_slot c side h k)
block_after side h request c (Some NoMem) block a n m k f = subst (λ g. KeepsSlot side g (Some c)) (sym (n NoMem)) (same_slot c side h k)
block_after side h request c (Some Busy) block a n m k f = subst (λ g. KeepsSlot side g (Some c)) (sym (n Busy)) (same_slot c side h k)
block_after side h request c (Some Inval) block a n m k f = subst (λ g. KeepsSlot side g (Some c)) (sym (n Inval)) (same_slot c side h k)
block_after side h request c (Some NoTty) block a n m k f = subst (λ g. KeepsSlot side g (Some c)) (sym (n NoTty)) (same_slot c side h k)
block_after side h request c (Some Pipe) block a n m k f = subst (λ g. KeepsSlot side g (Some c)) (sym (n Pipe)) (same_slot c side h k)

-- the other side is left alone: `mine` says whether the call is on this one
abbrev chosen : Bool → Holding → Holding → Holding
chosen mine new old = cond mine new old

-- ReqBufs
new_keeps : (q : QueueState) (count size : ℕ) → Keeps (record { count = min count most_buffers; away = [] }) (reqbufs_after q count size)
new_keeps q count size =
    let l = length_new size 0 (min count most_buffers) in record { count = omega arith; away = λ i. refl }

new_due : (kind : Kind) (on : Side) (x : Context) → IsDue x → IsDue (after_new_buffers kind on x)
new_due Copy on x d = d
new_due Enc Out x d = record { stopped = d.stopped; idle = d.idle }
new_due Enc Cap x d = d
new_due Dec Out x d = record { stopped = d.stopped; idle = d.idle }
new_due Dec Cap x d = d

new_buffers_kept : (kind : Kind) (on : Side) (x : Context) → SameBuffers x (after_new_buffers kind on x)
new_buffers_kept Copy on x = buffers_self x
new_buffers_kept Enc Out x = same_queues x (record x { codec = reset x.codec }) refl refl
new_buffers_kept Enc Cap x = buffers_self x
new_buffers_kept Dec Out x = same_queues x (record x { codec = reset x.codec; geometry = None }) refl refl
new_buffers_kept Dec Cap x = buffers_self x

-- a context with another state of a queue
side_due : (c : Context) (on : Side) (q : QueueState) → IsDue c → (q.job ≡ []) ⊎ (q.job ≡ (queue_of c on).job) → IsDue (with_queue c on q)
side_due c Out q d e = record { stopped = d.stopped; idle = d.idle }
side_due c Cap q d (inl e) = record { stopped = λ p. e; idle = λ p. e }
side_due c Cap q d (inr e) = record { stopped = λ p. e ∙ d.stopped p; idle = λ p. e ∙ d.idle p }

side_keeps : (c : Context) (on side : Side) (q : QueueState) (new old : Holding) → Keeps new q → Keeps old (queue_of c side) → Keeps (cond (same_side on side) new old) (queue_of (with_queue c on q) side)
side_keeps c Out Out q new old k m = k
side_keeps c Out Cap q new old k m = m
side_keeps c Cap Out q new old k m = m
side_keeps c Cap Cap q new old k m = k

reqbufs_keeps : (c : Context) (on side : Side) (count : ℕ) (found : Bool) (h : Holding) → IsDue c → Keeps h (queue_of c side) → After side h (ReqBufs on count) (reqbufs_answer c on count found)
reqbufs_keeps c on side count found h d k =
    let q = reqbufs_after (queue_of c on) count (sizeimage c on) in
    let x = with_queue c on q in
    let y = after_new_buffers c.kind on x in
    let new : Holding = record { count = min count most_buffers; away = [] } in
    let a = answered y (Count (min count most_buffers)) in
    let n : (e : Errno) → holding_after_call side h (ReqBufs on count) (Refused e) ≡ h = λ e. refl in
    unless_after side h (ReqBufs on count) c (reqbufs_refusal (queue_of c on)) (if_found c found a) n k (λ p.
    found_after side h (ReqBufs on count) c found a n k
    (settled_slot y side (cond (same_side on side) new h)
    (new_due c.kind on x (side_due c on q d (inl (dropped (queue_of c on) count (sizeimage c on)))))
    (kept_to (cond (same_side on side) new h) (queue_of x side) (queue_of y side) (of_side x y side (new_buffers_kept c.kind on x))
    (side_keeps c on side q new h (new_keeps (queue_of c on) count (sizeimage c on)) k))))
  where
    dropped : (q : QueueState) (m size : ℕ) → (reqbufs_after q m size).job ≡ []
    dropped q m size = refl

-- CreateBufs
more_keeps : (q : QueueState) (count size : ℕ) (h : Holding) → Keeps h q → Keeps (record h { count = buffer_count q + created q count }) (create_after q count size)
more_keeps q count size h k =
    let n = created q count in
    let l1 = length_new size (buffer_count q) n in
    let l2 = length-append q.held (new_buffers size (buffer_count q) n) in
    record { count = omega arith; away = k.away }

other_keeps : (c : Context) (on side : Side) (q : QueueState) (new old : Holding) → (same_side on side ≡ true → Keeps new q) → Keeps old (queue_of c side) → Keeps (cond (same_side on side) new old) (queue_of (with_queue c on q) side)
other_keeps c Out Out q new old k m = k refl
other_keeps c Out Cap q new old k m = m
other_keeps c Cap Out q new old k m = m
other_keeps c Cap Cap q new old k m = k refl

mine_keeps : (c : Context) (on side : Side) (h : Holding) → same_side on side ≡ true → Keeps h (queue_of c side) → Keeps h (queue_of c on)
mine_keeps c Out Out h e k = k
mine_keeps c Out Cap h e k = absurd (false≢true e)
mine_keeps c Cap Out h e k = absurd (false≢true e)
mine_keeps c Cap Cap h e k = k

create_keeps : (c : Context) (on side : Side) (count size : ℕ) (found : Bool) (h : Holding) → IsDue c → Keeps h (queue_of c side) → After side h (CreateBufs on count size) (create_answer c on count size found)
create_keeps c on side count size found h d k =
    let p = queue_of c on in
    let q = create_after p count size in
    let x = with_queue c on q in
    let new : Holding = record h { count = buffer_count p + created p count } in
    let a = answered x (Created (buffer_count p) (created p count)) in
    let n : (e : Errno) → holding_after_call side h (CreateBufs on count size) (Refused e) ≡ h = λ e. refl in
    unless_after side h (CreateBufs on count size) c (create_refusal p count size) (if_found c found a) n k (λ r.
    found_after side h (CreateBufs on count size) c found a n k
    (settled_slot x side (cond (same_side on side) new h) (side_due c on q d (inr refl)) (other_keeps c on side q new h (λ e. more_keeps p count size h (mine_keeps c on side h e k)) k)))

-- QBuf
one_more : (n : ℕ) (b : Bool) → nat_lt 0 (n + cond b 1 0) ≡ (b || nat_lt 0 n)
one_more n true = lt-ltb 0 (n + 1) (omega arith)
one_more n false = let e : n + 0 ≡ n = omega arith in ap (nat_lt 0) e

queued_of : (side : Side) (b : Buffer) (used : ℕ) (stamp : Stamp) (bytes : List ℕ) (ordinal : ℕ) → (queued_buffer side b used stamp bytes ordinal).index ≡ b.index
queued_of Out b used stamp bytes ordinal = refl
queued_of Cap b used stamp bytes ordinal = refl

queued_keeps :
    (q : QueueState) (k used : ℕ) (stamp : Stamp) (bytes : List ℕ) (b : Buffer) (h : Holding) → with_index k q.held ≡ Some b → IsSoundQueue q
    → Keeps h q → Keeps (record h { away = k ∷ h.away }) (queue_held q k (Some b) used stamp bytes)
queued_keeps q k used stamp bytes b h e s m =
    let x = queued_buffer q.side b used stamp bytes q.next_ordinal in
    let found = find_index q.held k b e in
    let some : 1 ≤ count_index q.held k = found.1 in
    let most = once_at_most q s.once k in
    let parts = count_parts q.held q.ready q.job q.done k in
    let one : count_index q.held k ≡ 1 = omega arith in
    let lw = length_without q.held k in
    let lr = length-append q.ready (x ∷ []) in
    let mc = m.count in
    record {
      count = omega arith;
      away =
          λ i.
          let ca = count-append q.ready (x ∷ []) i in
          let ix : count_index (x ∷ []) i ≡ cond (eqb k i) 1 0 + 0 =
          ap (λ j. cond (eqb j i) 1 0 + 0) (queued_of q.side b used stamp bytes q.next_ordinal ∙ found.0) in
          let total : not_held (queue_held q k (Some b) used stamp bytes) i ≡ not_held q i + cond (eqb k i) 1 0 = omega arith in
          ap (λ t. eqb k i || t) (m.away i) ∙ (sym (one_more (not_held q i) (eqb k i)) ∙ ap (nat_lt 0) (sym total));
    }

some_held : (side : Side) (o : Option Buffer) (used least : ℕ) → held_refusal side o used least ≡ None → (b : Buffer) × (o ≡ Some b)
some_held side None used least p = absurd (cc)
some_held side (Some b) used least p = (b, refl)

queue_job : (q : QueueState) (k used : ℕ) (stamp : Stamp) (bytes : List ℕ) (o : Option Buffer) → (queue_held q k o used stamp bytes).job ≡ q.job
queue_job q k used stamp bytes None = refl
queue_job q k used stamp bytes (Some b) = refl

sound_side : (c : Context) (side : Side) → IsSoundButUnsettled c → IsSoundQueue (queue_of c side)
sound_side c Out f = f.out
sound_side c Cap f = f.cap

queue_keeps : (c : Context) (on side : Side) (k used : ℕ) (stamp : Stamp) (bytes : List ℕ) (h : Holding) → IsSoundButUnsettled c → Keeps h (queue_of c side) → After side h (QBuf on k used stamp) (qbuf_answer c on k used stamp bytes)
queue_keeps c on side k used stamp bytes h f m =
    let p = queue_of c on in
    let q = qbuf_after p k used stamp bytes in
    let x = with_queue c on q in
    let new : Holding = record h { away = k ∷ h.away } in
    let o = refuse_if (is_no_whole_picture c on used) Inval None in
    let n : (e : Errno) → holding_after_call side h (QBuf on k used stamp) (Refused e) ≡ h = λ e. refl in
    unless_after side h (QBuf on k used stamp) c (held_refusal p.side (with_index k p.held) used (sizeimage c on)) (unless c o (answered x Done)) n m
    (λ r.
    let b = some_held p.side (with_index k p.held) used (sizeimage c on) r in
    unless_after side h (QBuf on k used stamp) c o (answered x Done) n m (λ t.
    settled_slot x side (cond (same_side on side) new h) (side_due c on q (firm_due c f) (inr (queue_job p k used stamp bytes (with_index k p.held))))
    (other_keeps c on side q new h
    (λ e. subst (λ z. Keeps new (queue_held p k z used stamp bytes)) (sym b.1) (queued_keeps p k used stamp bytes b.0 h b.1 (sound_side c on f) (mine_keeps c on side h e m)))
    m)))

-- DqBuf
one_where : (b : Bool) → b ≡ true → ◌≡◌ {A = ℕ} (cond b 1 0) 1
one_where true e = refl
one_where false e = absurd (false≢true e)

none_where : (b : Bool) → b ≡ false → ◌≡◌ {A = ℕ} (cond b 1 0) 0
none_where true e = absurd (false≢true (sym e))
none_where false e = refl

gone_split :
    (q : QueueState) (b : Buffer) (rest : List Buffer) (h : Holding) → q.done ≡ b ∷ rest → IsSoundQueue q → Keeps h q → (i : ℕ) (t : Bool)
    → eqb b.index i ≡ t → waits (filter (λ j. not (j == b.index)) h.away) i ≡ nat_lt 0 (not_held (take_front q (b ∷ rest)) i)
gone_split q b rest h e s k i true same =
    let z = eqb-true b.index i same in
    let most = once_at_most q s.once i in
    let parts = count_parts q.held q.ready q.job q.done i in
    let cd : count_index q.done i ≡ cond (eqb b.index i) 1 0 + count_index rest i = ap (λ l. count_index l i) e in
    let ct = one_where (eqb b.index i) same in
    let none : not_held (take_front q (b ∷ rest)) i ≡ 0 = omega arith in
    subst (λ j. waits (filter (λ x. not (x == b.index)) h.away) j ≡ false) z (without_same h.away b.index) ∙ ap (nat_lt 0) (sym none)
gone_split q b rest h e s k i false other =
    let n = eqb-false b.index i other in
    let cd : count_index q.done i ≡ cond (eqb b.index i) 1 0 + count_index rest i = ap (λ l. count_index l i) e in
    let ct = none_where (eqb b.index i) other in
    let same : not_held (take_front q (b ∷ rest)) i ≡ not_held q i = omega arith in
    without_other h.away b.index i (λ (z : i ≡ b.index). n (sym z)) ∙ (k.away i ∙ ap (nat_lt 0) (sym same))

taken_keeps : (q : QueueState) (b : Buffer) (rest : List Buffer) (h : Holding) → q.done ≡ b ∷ rest → IsSoundQueue q → Keeps h q → Keeps (record h { away = filter (λ j. not (j == b.index)) h.away }) (take_front q (b ∷ rest))
taken_keeps q b rest h e s k =
    let ld = ap length e in
    let lh = length-append q.held (held_again b ∷ []) in
    let mc = k.count in
    record { count = omega arith; away = λ i. gone_split q b rest h e s k i (eqb b.index i) refl }

take_job : (q : QueueState) (ds : List Buffer) → (take_front q ds).job ≡ q.job
take_job q [] = refl
take_job q (b ∷ rest) = refl

stop_kept : (y : Context) (phase : PhaseState) (emptied : Bool) → SameBuffers y (stop_at_last y phase emptied)
stop_kept y run emptied = buffers_self y
stop_kept y (owe cause) emptied = buffers_self y
stop_kept y (last drain) true = same_queues y (record y { phase = stopped drain; mark = None }) refl refl
stop_kept y (last drain) false = buffers_self y
stop_kept y (last change) true = same_queues y (record y { phase = stopped change }) refl refl
stop_kept y (last change) false = buffers_self y
stop_kept y (stopped cause) emptied = buffers_self y

stop_due : (y : Context) (phase : PhaseState) (emptied : Bool) → y.phase ≡ phase → IsDue y → IsDue (stop_at_last y phase emptied)
stop_due y run emptied p d = d
stop_due y (owe cause) emptied p d = d
stop_due y (last drain) true p d = record { stopped = λ e. d.stopped (ap is_run p); idle = d.idle }
stop_due y (last drain) false p d = d
stop_due y (last change) true p d = record { stopped = λ e. d.stopped (ap is_run p); idle = d.idle }
stop_due y (last change) false p d = d
stop_due y (stopped cause) emptied p d = d

taking_kept : (y : Context) (on : Side) → SameBuffers y (after_taking y on)
taking_kept y Out = buffers_self y
taking_kept y Cap = stop_kept y y.phase (is_empty y.cap.done)

taking_due : (y : Context) (on : Side) → IsDue y → IsDue (after_taking y on)
taking_due y Out d = d
taking_due y Cap d = stop_due y y.phase (is_empty y.cap.done) refl d

take_keeps : (c : Context) (on side : Side) (block : Bool) (ds : List Buffer) (h : Holding) → (queue_of c on).done ≡ ds → IsSoundButUnsettled c → Keeps h (queue_of c side) → After side h (DqBuf on block) (taken_answer c on ds)
take_keeps c on side block [] h e f k = same_slot c side h k
take_keeps c on side block (b ∷ rest) h e f k =
    let p = queue_of c on in
    let y = with_queue c on (dqbuf_after p) in
    let x = after_taking y on in
    let new : Holding = record h { away = filter (λ j. not (j == b.index)) h.away } in
    settled_slot x side (cond (same_side on side) new h) (taking_due y on (side_due c on (dqbuf_after p) (firm_due c f) (inr (take_job p p.done))))
    (kept_to (cond (same_side on side) new h) (queue_of y side) (queue_of x side) (of_side y x side (taking_kept y on))
    (other_keeps c on side (dqbuf_after p) new h (λ t. subst (λ l. Keeps new (take_front p l)) (sym e) (taken_keeps p b rest h e (sound_side c on f) (mine_keeps c on side h t k))) k))

-- StreamOff
off_keeps : (q : QueueState) (h : Holding) → q.job ≡ [] → Keeps h q → Keeps (record h { away = [] }) (streamoff_after q)
off_keeps q h j k =
    let lj = ap length j in
    let l1 = length-append (q.held ++ map held_again q.ready) (map held_again q.done) in
    let l2 = length-append q.held (map held_again q.ready) in
    let l3 = length_back q.ready in
    let l4 = length_back q.done in
    let mc = k.count in
    record { count = omega arith; away = λ i. let c = ap (λ l. count_index l i) j in let none : not_held (streamoff_after q) i ≡ 0 = omega arith in ap (nat_lt 0) (sym none) }

-- what StreamOff leaves of both queues
record OffQueues (c x : Context) (on : Side) : Type 0 where
  pub same : (side : Side) → queue_of x side ≡ queue_of (with_queue c on (streamoff_after (queue_of c on))) side

output_off_queues : (kind : Kind) (c : Context) → OffQueues c (after_output_off kind (record c { out = streamoff_after c.out; mark = None; phase = without_drain_stop c.phase })) Out
output_off_queues Copy c = record { same = out_side }
  where
    out_side : (side : Side) → queue_of (record c { out = streamoff_after c.out; mark = None; phase = without_drain_stop c.phase }) side ≡ queue_of (record c { out = streamoff_after c.out }) side
    out_side Out = refl
    out_side Cap = refl
output_off_queues Enc c = record { same = out_side }
  where
    out_side : (side : Side) → queue_of (record c { out = streamoff_after c.out; mark = None; phase = without_drain_stop c.phase }) side ≡ queue_of (record c { out = streamoff_after c.out }) side
    out_side Out = refl
    out_side Cap = refl
output_off_queues Dec c = record { same = out_side }
  where
    out_side : (side : Side) → queue_of (record c { out = streamoff_after c.out; mark = None; phase = without_drain_stop c.phase; codec = reset c.codec }) side ≡ queue_of (record c { out = streamoff_after c.out }) side
    out_side Out = refl
    out_side Cap = refl

capture_off_queues : (kind : Kind) (c : Context) → OffQueues c (after_capture_off kind (record c { cap = streamoff_after c.cap; mark = mark_after_restart c.phase c.mark; phase = run })) Cap
capture_off_queues Copy c = record { same = cap_side }
  where
    cap_side : (side : Side) → queue_of (record c { cap = streamoff_after c.cap; mark = mark_after_restart c.phase c.mark; phase = run }) side ≡ queue_of (record c { cap = streamoff_after c.cap }) side
    cap_side Out = refl
    cap_side Cap = refl
capture_off_queues Enc c = record { same = cap_side }
  where
    cap_side : (side : Side) → queue_of (record c { cap = streamoff_after c.cap; mark = mark_after_restart c.phase c.mark; phase = run; codec = reset c.codec }) side ≡ queue_of (record c { cap = streamoff_after c.cap }) side
    cap_side Out = refl
    cap_side Cap = refl
capture_off_queues Dec c = record { same = cap_side }
  where
    cap_side : (side : Side) → queue_of (record c { cap = streamoff_after c.cap; mark = mark_after_restart c.phase c.mark; phase = run }) side ≡ queue_of (record c { cap = streamoff_after c.cap }) side
    cap_side Out = refl
    cap_side Cap = refl

capture_split : (c : Context) (b : Bool) → OffQueues c (cond b (after_capture_off c.kind (record c { cap = streamoff_after c.cap; mark = mark_after_restart c.phase c.mark; phase = run })) (record c { cap = streamoff_after c.cap })) Cap
capture_split c true = capture_off_queues c.kind c
capture_split c false = record { same = λ side. refl }

off_queues : (c : Context) (on : Side) → OffQueues c (streamoff_effect c on) on
off_queues c Out = output_off_queues c.kind c
off_queues c Cap = capture_split c c.cap.streams

off_job : (c : Context) (on : Side) → c.cap.job ≡ [] → (queue_of (with_queue c on (streamoff_after (queue_of c on))) Cap).job ≡ []
off_job c Out j = j
off_job c Cap j = j

side_job : (c : Context) (on : Side) → c.out.job ≡ [] → c.cap.job ≡ [] → (queue_of c on).job ≡ []
side_job c Out i j = i
side_job c Cap i j = j

streamoff_keeps :
    (c : Context) (on side : Side) (h : Holding) → IsSoundButUnsettled c → Keeps h (queue_of c side) → (b : Bool) → is_none c.running ≡ b
    → After side h (StreamOff on) (cond b (answered (streamoff_effect c on) Done) (unchanged c Blocked))
streamoff_keeps c on side h f k true e =
    let jobs = without_job c f e in
    let x = streamoff_effect c on in
    let o = off_queues c on in
    let p = queue_of c on in
    let new : Holding = record h { away = [] } in
    let j : x.cap.job ≡ [] = ap (λ q. q.job) (o.same Cap) ∙ off_job c on jobs.1 in
    settled_slot x side (cond (same_side on side) new h) (record { stopped = λ t. j; idle = λ t. j })
    (subst (Keeps (cond (same_side on side) new h)) (sym (o.same side))
    (other_keeps c on side (streamoff_after p) new h (λ t. off_keeps p h (side_job c on jobs.0 jobs.1) (mine_keeps c on side h t k)) k))
streamoff_keeps c on side h f k false e = same_slot c side h k

-- Rows that leave the buffers

record Leaves (c x : Context) : Type 0 where
  pub same : SameBuffers c x
  pub due : IsDue x

leaves_slot : (c x : Context) (side : Side) (h : Holding) → Leaves c x → Keeps h (queue_of c side) → KeepsSlot side h (Some (settle x))
leaves_slot c x side h l k = left_slot c x side h l.same l.due k

format_leaves : (kind : Kind) (on : Side) (c : Context) (formats : FormatPair) → IsDue c → Leaves c (after_new_format kind on (record c { formats = formats }))
format_leaves Copy on c formats d = record { same = same_queues c (record c { formats = formats }) refl refl; due = record { stopped = d.stopped; idle = d.idle } }
format_leaves Enc Out c formats d = record { same = same_queues c (record c { formats = formats; codec = reset c.codec }) refl refl; due = record { stopped = d.stopped; idle = d.idle } }
format_leaves Enc Cap c formats d = record { same = same_queues c (record c { formats = formats }) refl refl; due = record { stopped = d.stopped; idle = d.idle } }
format_leaves Dec Out c formats d = record { same = same_queues c (record c { formats = formats; geometry = None }) refl refl; due = record { stopped = d.stopped; idle = d.idle } }
format_leaves Dec Cap c formats d = record { same = same_queues c (record c { formats = formats }) refl refl; due = record { stopped = d.stopped; idle = d.idle } }

set_keeps : (c : Context) (on side : Side) (want : Format) (h : Holding) → IsDue c → Keeps h (queue_of c side) → After side h (SetFmt on want) (set_answer c on want)
set_keeps c on side want h d k =
    let formats = formats_for c.kind on c.formats want in
    let y = after_new_format c.kind on (record c { formats = formats }) in
    unless_after side h (SetFmt on want) c (set_refusal c on) (answered y (Fmt (format_of formats on))) (λ e. refl) k (λ p. leaves_slot c y side h (format_leaves c.kind on c formats d) k)

on_kept : (c : Context) (on : Side) → SameBuffers c (with_queue c on (streamon_after (queue_of c on)))
on_kept c Out = record { out = record { count = refl; away = λ i. refl }; cap = same_self c.cap }
on_kept c Cap = record { out = same_self c.out; cap = record { count = refl; away = λ i. refl } }

on_keeps : (c : Context) (on side : Side) (h : Holding) → IsDue c → Keeps h (queue_of c side) → After side h (StreamOn on) (streamon_answer c on)
on_keeps c on side h d k =
    let q = streamon_after (queue_of c on) in
    let y = with_queue c on q in
    unless_after side h (StreamOn on) c (streamon_refusal (queue_of c on) (sizeimage c on)) (answered y Done) (λ e. refl) k (λ p. leaves_slot c y side h (record { same = on_kept c on; due = side_due c on q d (inr refl) }) k)

events_leave : (c : Context) (events : EventState) (rates : RunRates) → IsDue c → Leaves c (record c { events = events; rates = rates })
events_leave c events rates d =
    record { same = same_queues c (record c { events = events; rates = rates }) refl refl; due = record { stopped = d.stopped; idle = d.idle } }

stop_keeps :
    (c : Context) (side : Side) (h : Holding) (x y z : Bool) → IsDue c → Keeps h (queue_of c side)
    → KeepsSlot side h (cond x (unchanged c Done) (cond y (refused c Busy) (cond z (unchanged c Done) (answered (record c { mark = Some c.out.next_ordinal }) Done)))).slot
stop_keeps c side h true y z d k = same_slot c side h k
stop_keeps c side h false true z d k = same_slot c side h k
stop_keeps c side h false false true d k = same_slot c side h k
stop_keeps c side h false false false d k =
    leaves_slot c (record c { mark = Some c.out.next_ordinal }) side h (record { same = same_queues c (record c { mark = Some c.out.next_ordinal }) refl refl; due = record { stopped = d.stopped; idle = d.idle } }) k

start_keeps :
    (c : Context) (side : Side) (h : Holding) (x y z : Bool) → IsDue c → Keeps h (queue_of c side)
    → KeepsSlot side h (cond x (unchanged c Done) (cond y (refused c Busy) (cond z (refused c Inval) (answered (record c { phase = run }) Done)))).slot
start_keeps c side h true y z d k = same_slot c side h k
start_keeps c side h false true z d k = same_slot c side h k
start_keeps c side h false false true d k = same_slot c side h k
start_keeps c side h false false false d k =
    leaves_slot c (record c { phase = run }) side h (record { same = same_queues c (record c { phase = run }) refl refl; due = record { stopped = λ (e : true ≡ false). absurd (false≢true (sym e)); idle = d.idle } }) k

command_split : (c : Context) (side : Side) (h : Holding) (x y : Bool) → IsDue c → Keeps h (queue_of c side) → KeepsSlot side h (cond x (start_answer c) (cond y (stop_answer c) (refused c Inval))).slot
command_split c side h true y d k =
    start_keeps c side h (not (both_stream c)) (start_is_early c.phase c.mark) (not (long_enough c.cap (sizeimage c Cap))) d k
command_split c side h false true d k =
    stop_keeps c side h (not (both_stream c)) (is_some c.mark) (is_stopped_by_drain c.phase) d k
command_split c side h false false d k = same_slot c side h k

kind_keeps : (c : Context) (side : Side) (h : Holding) (cmd : ℕ) (b : Bool) → IsDue c → Keeps h (queue_of c side) → KeepsSlot side h (cond b (command_answer c cmd) (refused c NoTty)).slot
kind_keeps c side h cmd true d k = command_split c side h (cmd == 0) (cmd == 1) d k
kind_keeps c side h cmd false d k = same_slot c side h k

desc_keeps : (c : Context) (side : Side) (h : Holding) (o : Option Fourcc) → Keeps h (queue_of c side) → KeepsSlot side h (desc_answer c o).slot
desc_keeps c side h None k = same_slot c side h k
desc_keeps c side h (Some f) k = same_slot c side h k

query_keeps : (c : Context) (side : Side) (h : Holding) (o : Option Reply) → Keeps h (queue_of c side) → KeepsSlot side h (query_answer c o).slot
query_keeps c side h None k = same_slot c side h k
query_keeps c side h (Some r) k = same_slot c side h k

value_keeps : (c : Context) (side : Side) (h : Holding) (o : Option ℕ) → Keeps h (queue_of c side) → KeepsSlot side h (value_answer c o).slot
value_keeps c side h None k = same_slot c side h k
value_keeps c side h (Some v) k = same_slot c side h k

control_keeps : (c : Context) (side : Side) (h : Holding) (o : Option RunRates) → IsDue c → Keeps h (queue_of c side) → KeepsSlot side h (control_answer c o).slot
control_keeps c side h None d k = same_slot c side h k
control_keeps c side h (Some rates) d k = leaves_slot c (record c { rates = rates }) side h (events_leave c c.events rates d) k

events_keep : (c : Context) (side : Side) (h : Holding) (o : Option Errno) (events : EventState) → IsDue c → Keeps h (queue_of c side) → KeepsSlot side h (unless c o (answered (record c { events = events }) Done)).slot
events_keep c side h None events d k = leaves_slot c (record c { events = events }) side h (events_leave c events c.rates d) k
events_keep c side h (Some e) events d k = same_slot c side h k

close_keeps : (c : Context) (side : Side) (h : Holding) (b : Bool) → Keeps h (queue_of c side) → After side h Close (cond b (record { slot = None; reply = Done; bytes = [] }) (unchanged c Blocked))
unfolding KeepsSlot
close_keeps c side h true k = refl
close_keeps c side h false k = k

-- The whole table

context_keeps : (c : Context) (side : Side) (h : Holding) (request : Call) (bytes : List ℕ) (found : Bool) → IsSoundButUnsettled c → Keeps h (queue_of c side) → After side h request (context_answer c request bytes found)
unfolding context_answer
context_keeps c side h (Open kind) bytes found f k = same_slot c side h k
context_keeps c side h Close bytes found f k = close_keeps c side h (is_none c.running) k
context_keeps c side h (EnumFmt on index) bytes found f k = desc_keeps c side h (slice_get (formats_listed c.kind on c.formats) index) k
context_keeps c side h (GetFmt on) bytes found f k = same_slot c side h k
context_keeps c side h (TryFmt on want) bytes found f k = same_slot c side h k
context_keeps c side h (SetFmt on want) bytes found f k = set_keeps c on side want h (firm_due c f) k
context_keeps c side h (ReqBufs on count) bytes found f k = reqbufs_keeps c on side count found h (firm_due c f) k
context_keeps c side h (CreateBufs on count length) bytes found f k =
    create_keeps c on side count length found h (firm_due c f) k
context_keeps c side h (QueryBuf on index) bytes found f k = query_keeps c side h (querybuf_reply (queue_of c on) index) k
context_keeps c side h (QBuf on index used stamp) bytes found f k = queue_keeps c on side index used stamp bytes h f k
context_keeps c side h (DqBuf on block) bytes found f k =
    block_after side h (DqBuf on block) c (dqbuf_refusal (queue_of c on) (is_ended c on)) block (taken_answer c on (queue_of c on).done) (λ e. refl) refl k (take_keeps c on side block (queue_of c on).done h refl f k)
context_keeps c side h (StreamOn on) bytes found f k = on_keeps c on side h (firm_due c f) k
context_keeps c side h (StreamOff on) bytes found f k = streamoff_keeps c on side h f k (is_none c.running) refl
context_keeps c side h (Subscribe event) bytes found f k =
    events_keep c side h (event_refusal c.kind event) (subscribe_after c.events event) (firm_due c f) k
context_keeps c side h (Unsubscribe event) bytes found f k =
    events_keep c side h (event_refusal c.kind event) (unsubscribe_after c.events event) (firm_due c f) k
context_keeps c side h (DqEvent block) bytes found f k =
    block_after side h (DqEvent block) c (refuse_if (is_empty c.events.pending) NoEnt None) block
    (answered (record c { events = take_event_after c.events }) (event_reply c.events.pending)) (λ e. refl) refl k
    (leaves_slot c (record c { events = take_event_after c.events }) side h (events_leave c (take_event_after c.events) c.rates (firm_due c f)) k)
context_keeps c side h (DecCmd cmd) bytes found f k = kind_keeps c side h cmd (is_dec c.kind) (firm_due c f) k
context_keeps c side h (EncCmd cmd) bytes found f k = kind_keeps c side h cmd (is_enc c.kind) (firm_due c f) k
context_keeps c side h (GetCtrl id) bytes found f k = value_keeps c side h (control_of c.kind c.rates id) k
context_keeps c side h (SetCtrl id value) bytes found f k = control_keeps c side h (with_control c.kind c.rates id value) (firm_due c f) k
context_keeps c side h Poll bytes found f k = same_slot c side h k

fresh_keeps : (kind : Kind) (side : Side) → KeepsSlot side no_buffers (Some (fresh_context kind))
unfolding KeepsSlot
fresh_keeps kind Out = record { count = refl; away = λ i. refl }
fresh_keeps kind Cap = record { count = refl; away = λ i. refl }

none_refused : (side : Side) (h : Holding) (request : Call) (e : Errno) → holding_after_call side h request (Refused e) ≡ h
none_refused side h (Open kind) e = refl
none_refused side h Close e = refl
none_refused side h (ReqBufs on count) e = refl
none_refused side h (CreateBufs on count length) e = refl
none_refused side h (QBuf on index used stamp) e = refl
none_refused side h (DqBuf on block) e = refl
none_refused side h (StreamOff on) e = refl
none_refused side h request e = refl

none_keeps : (side : Side) (h : Holding) (request : Call) → h ≡ no_buffers → KeepsSlot side (holding_after_call side h request (Refused NoTty)) None
unfolding KeepsSlot
none_keeps side h request e = none_refused side h request NoTty ∙ e

open_fails : (side : Side) (h : Holding) (kind : Kind) → h ≡ no_buffers → KeepsSlot side (holding_after_call side h (Open kind) (Refused NoMem)) None
unfolding KeepsSlot
open_fails side h kind e = e

closed_keeps : (side : Side) (h : Holding) (request : Call) (found : Bool) → h ≡ no_buffers → After side h request (closed_answer request found)
unfolding closed_answer
closed_keeps side h (Open kind) true e = fresh_keeps kind side
closed_keeps side h (Open kind) false e = open_fails side h kind e
closed_keeps side h request found e = none_keeps side h request e

answer_keeps : (s : Slot) (side : Side) (h : Holding) (request : Call) (bytes : List ℕ) (found : Bool) → IsOrderedSlot s → KeepsSlot side h s → After side h request (answer s request bytes found)
unfolding answer KeepsSlot
answer_keeps None side h request bytes found x k = closed_keeps side h request found k
answer_keeps (Some c) side h request bytes found x k = context_keeps c side h request bytes found x.firm k

-- Claims and finishes

claim_cap : (sort : RunSort) (q : QueueState) → q.job ≡ [] → Same q (cap_after_claim sort q)
claim_cap copy q j = lend_kept q q.ready refl j
claim_cap encode q j = lend_kept q q.ready refl j
claim_cap decode q j = lend_kept q q.ready refl j
claim_cap probe q j = same_self q

claimed_kept : (c : Context) (sort : RunSort) (ready : List Buffer) → c.out.job ≡ [] → c.cap.job ≡ [] → SameBuffers c (claim_front c sort ready)
claimed_kept c sort [] i j = buffers_self c
claimed_kept c sort (b ∷ rest) i j = record { out = lend_kept c.out c.out.ready refl i; cap = claim_cap sort c.cap j }

claim_keeps : (s : Slot) (side : Side) (h : Holding) (b : Bool) → is_claimable s ≡ b → IsOrderedSlot s → KeepsSlot side h s → KeepsSlot side h (claim_step s b).slot
unfolding KeepsSlot is_claimable after_claim
claim_keeps None side h b e x k = k
claim_keeps (Some c) side h true e x k =
    let jobs = without_job c x.firm (and_left (is_none c.running) _ e) in
    kept_to h (queue_of c side) _ (of_side c (claim_front c (sort_of c.kind c.geometry) c.out.ready) side (claimed_kept c (sort_of c.kind c.geometry) c.out.ready jobs.0 jobs.1)) k
claim_keeps (Some c) side h false e x k = k

done_kept : (c : Context) (j : JobData) (flags : ℕ) → length c.out.job ≤ 1 → SameBuffers c (source_done c j flags)
done_kept c j flags n =
    record { out = retire_kept c.out c.out.job j.source.used j.source.bytes flags j.source.stamp refl n; cap = same_self c.cap }

back_kept : (c : Context) (j : JobData) (cursor : ℕ) → length c.out.job ≤ 1 → SameBuffers c (source_back c j cursor)
back_kept c j cursor n = record { out = give_kept c.out c.out.job cursor j.source.bytes refl n; cap = same_self c.cap }

moved_kept : (c : Context) (j : JobData) (cursor : ℕ) (b : Bool) → length c.out.job ≤ 1 → SameBuffers c (source_moved c j cursor b)
moved_kept c j cursor true n = done_kept c j 0 n
moved_kept c j cursor false n = back_kept c j cursor n

moved_cap : (c : Context) (j : JobData) (cursor : ℕ) (b : Bool) → (source_moved c j cursor b).cap ≡ c.cap
moved_cap c j cursor true = refl
moved_cap c j cursor false = refl

retired_kept : (c : Context) (phase : PhaseState) (used : ℕ) (bytes : List ℕ) (flags : ℕ) (stamp : Stamp) → length c.cap.job ≤ 1 → SameBuffers c (record c { cap = retire_after c.cap used bytes flags stamp; phase = phase })
retired_kept c phase used bytes flags stamp n =
    record { out = same_self c.out; cap = retire_kept c.cap c.cap.job used bytes flags stamp refl n }

dest_split :
    (c : Context) (used : ℕ) (bytes : List ℕ) (flags : ℕ) (stamp : Stamp) → length c.cap.job ≤ 1 → (b : Bool)
    → SameBuffers c
    (cond b (raise_end drain (record c { cap = retire_after c.cap used bytes (flags + last_flag) stamp; phase = last drain })) (record c { cap = retire_after c.cap used bytes flags stamp }))
dest_split c used bytes flags stamp n true =
    let x = record c { cap = retire_after c.cap used bytes (flags + last_flag) stamp; phase = last drain } in
    buffers_on c x (raise_end drain x) (retired_kept c (last drain) used bytes (flags + last_flag) stamp n) (raised_kept drain x)
dest_split c used bytes flags stamp n false = retired_kept c c.phase used bytes flags stamp n

dest_kept : (c : Context) (dest : List Buffer) (used_up : Bool) (used : ℕ) (bytes : List ℕ) (flags : ℕ) (stamp : Stamp) → length c.cap.job ≤ 1 → SameBuffers c (dest_done c dest used_up used bytes flags stamp)
dest_kept c [] used_up used bytes flags stamp n = buffers_self c
dest_kept c (b ∷ bs) used_up used bytes flags stamp n =
    dest_split c used bytes flags stamp n (used_up && is_drained c.out.ready c.mark)

dest_back_kept : (c : Context) (dest : List Buffer) → length c.cap.job ≤ 1 → SameBuffers c (dest_back c dest)
dest_back_kept c [] n = buffers_self c
dest_back_kept c (b ∷ bs) n = record { out = same_self c.out; cap = give_kept c.cap c.cap.job 0 [] refl n }

stop_change_kept : (c : Context) (b : Bool) → SameBuffers c (cond b (record c { phase = owe change }) c)
stop_change_kept c true = same_queues c (record c { phase = owe change }) refl refl
stop_change_kept c false = buffers_self c

decoded_kept : (c : Context) (j : JobData) (cursor : ℕ) (result : DecodedResult) → length c.out.job ≤ 1 → length c.cap.job ≤ 1 → SameBuffers c (decoded_effect c j cursor result)
decoded_kept c j cursor (picture bytes key stamp) n m =
    let used_up = cursor == j.source.used in
    let x = source_moved c j cursor used_up in
    buffers_on c x _ (moved_kept c j cursor used_up n) (dest_kept x j.dest used_up (length bytes) bytes (type_flag key) stamp (subst (λ q. length q.job ≤ 1) (sym (moved_cap c j cursor used_up)) m))
decoded_kept c j cursor (damaged stamp) n m =
    let used_up = cursor == j.source.used in
    let x = source_moved c j cursor used_up in
    buffers_on c x _ (moved_kept c j cursor used_up n) (dest_kept x j.dest used_up 0 [] error_flag stamp (subst (λ q. length q.job ≤ 1) (sym (moved_cap c j cursor used_up)) m))
decoded_kept c j cursor (changed geometry) n m =
    let x = source_back c j cursor in
    let here = dest_back x j.dest in
    let there = record here { geometry = Some geometry; formats = formats_found here.formats geometry; events = raise_after here.events source_change_event 1 } in
    buffers_on c here (cond here.cap.streams (record there { phase = owe change }) there)
    (buffers_on c x here (back_kept c j cursor n) (dest_back_kept x j.dest m))
    (buffers_on here there (cond here.cap.streams (record there { phase = owe change }) there) (same_queues here there refl refl) (stop_change_kept there here.cap.streams))
decoded_kept c j cursor spent n m =
    buffers_on c (source_done c j 0) (dest_back (source_done c j 0) j.dest) (done_kept c j 0 n) (dest_back_kept (source_done c j 0) j.dest m)

effect_kept : (c : Context) (j : JobData) (result : RunResult) → length c.out.job ≤ 1 → length c.cap.job ≤ 1 → SameBuffers c (run_effect c j result)
effect_kept c j (copied bytes) n m =
    buffers_on c (source_done c j 0) _ (done_kept c j 0 n) (dest_kept (source_done c j 0) j.dest true (length bytes) bytes 0 j.source.stamp m)
effect_kept c j (encoded frame) n m =
    let x = record c { codec = encoder frame.state } in
    buffers_on c x _ (same_queues c x refl refl) (buffers_on x (source_done x j 0) _ (done_kept x j 0 n) (dest_kept (source_done x j 0) j.dest true (length frame.bytes) frame.bytes (type_flag frame.key) j.source.stamp m))
effect_kept c j (decoded step) n m =
    let x = record c { codec = decoder step.state } in
    buffers_on c x _ (same_queues c x refl refl) (decoded_kept x j (j.source.cursor + step.moved) (step_outcome j.format.fourcc step) n m)

fault_kept : (c : Context) (j : JobData) → length c.out.job ≤ 1 → length c.cap.job ≤ 1 → SameBuffers c (fault_effect c j)
fault_kept c j n m =
    let x = record c { codec = reset c.codec } in
    buffers_on c x _ (same_queues c x refl refl) (buffers_on x (source_done x j error_flag) _ (done_kept x j error_flag n) (dest_kept (source_done x j error_flag) j.dest true 0 [] error_flag j.source.stamp m))

finish_kept : (coder : Coder) (c : Context) (r : Running) (fault : Bool) → c.running ≡ Some r → IsSoundButUnsettled c → length c.out.job ≤ 1 → length c.cap.job ≤ 1 → SameBuffers c (after_finish coder c r fault)
unfolding after_finish run_result
finish_kept coder c r true e f n m =
    let y = record c { running = None } in
    let z = fault_effect y (job_data c r) in
    buffers_on c z (settle z) (buffers_on c y z (same_queues c y refl refl) (fault_kept y (job_data c r) n m)) (settle_kept z (firm_due z (fault_firm y (job_data c r) f.has_codec (begins c r e f))))
finish_kept coder c r false e f n m =
    let y = record c { running = None } in
    let z = run_effect y (job_data c r) (run_result coder (job_data c r)) in
    buffers_on c z (settle z) (buffers_on c y z (same_queues c y refl refl) (effect_kept y (job_data c r) (run_result coder (job_data c r)) n m))
    (settle_kept z (firm_due z (run_firm y (job_data c r) (run_result coder (job_data c r)) (run_fits coder (job_data c r) c.kind r.sort f.has_codec) (begins c r e f))))

at_most_dest : (sort : RunSort) → dest_count sort ≤ 1
at_most_dest copy = omega arith
at_most_dest encode = omega arith
at_most_dest decode = omega arith
at_most_dest probe = omega arith

ended_keeps :
    (coder : Coder) (c : Context) (side : Side) (h : Holding) (o : Option Running) (fault : Bool) → c.running ≡ o → HasItsBuffers c o
    → IsSoundButUnsettled c → Keeps h (queue_of c side) → KeepsSlot side h (solo_finish coder c o fault).slot
unfolding KeepsSlot
ended_keeps coder c side h None fault e b f k = k
ended_keeps coder c side h (Some r) fault e b f k =
    let n : length c.out.job ≤ 1 = let z = b.1 in omega arith in
    let m : length c.cap.job ≤ 1 = subst (λ v. v ≤ 1) (sym b.2) (at_most_dest r.sort) in
    kept_to h (queue_of c side) (queue_of (after_finish coder c r fault) side) (of_side c (after_finish coder c r fault) side (finish_kept coder c r fault e f n m)) k

finish_keeps : (coder : Coder) (s : Slot) (side : Side) (h : Holding) (fault : Bool) → IsOrderedSlot s → KeepsSlot side h s → KeepsSlot side h (finish_step coder s fault).slot
unfolding KeepsSlot
finish_keeps coder None side h fault x k = k
finish_keeps coder (Some c) side h fault x k = ended_keeps coder c side h c.running fault refl x.firm.has_buffers x.firm k

-- Every step, and every run

step_keeps : (coder : Coder) (s : Slot) (side : Side) (h : Holding) (e : SoloEvent) → IsOrderedSlot s → KeepsSlot side h s → KeepsSlot side (holding_after side h e (solo_step coder s e).told) (solo_step coder s e).slot
unfolding solo_step
step_keeps coder s side h (Called request bytes found) x k = answer_keeps s side h request bytes found x k
step_keeps coder s side h Claims x k = claim_keeps s side h (is_claimable s) refl x k
step_keeps coder s side h (Finishes fault) x k = finish_keeps coder s side h fault x k

run_keeps : (coder : Coder) (s : Slot) (side : Side) (h : Holding) (es : List SoloEvent) → IsOrderedSlot s → KeepsSlot side h s → KeepsSlot side (holding_from side h (solo_run coder s es)) (solo_slot coder s es)
run_keeps coder s side h [] x k = k
run_keeps coder s side h (e ∷ es) x k =
    let r = solo_step coder s e in
    run_keeps coder r.slot side (holding_after side h e r.told) es (step_sound coder s e x) (step_keeps coder s side h e x k)

-- what is held is what is there and not away
held_split : (q : QueueState) (h : Holding) (i : ℕ) → IsSoundQueue q → Keeps h q → (a b : Bool) → nat_lt i (buffer_count q) ≡ a → waits h.away i ≡ b → nat_lt 0 (count_index q.held i) ≡ (a && not b)
held_split q h i s k true true e f =
    let l = ltb-true 0 (not_held q i) (sym (k.away i) ∙ f) in
    let one = is_once q s.once i (ltb-true i (buffer_count q) e) in
    let parts = count_parts q.held q.ready q.job q.done i in
    let none : count_index q.held i ≡ 0 = omega arith in
    ap (nat_lt 0) none
held_split q h i s k true false e f =
    let l = ltb-false 0 (not_held q i) (sym (k.away i) ∙ f) in
    let one = is_once q s.once i (ltb-true i (buffer_count q) e) in
    let parts = count_parts q.held q.ready q.job q.done i in
    lt-ltb 0 (count_index q.held i) (omega arith)
held_split q h i s k false b e f =
    let none = is_none_there q s.once i (ltb-false i (buffer_count q) e) in
    let parts = count_parts q.held q.ready q.job q.done i in
    let zero_held : count_index q.held i ≡ 0 = omega arith in
    ap (nat_lt 0) zero_held

held_slot : (s : Slot) (side : Side) (h : Holding) (i : ℕ) → IsOrderedSlot s → KeepsSlot side h s → is_held side i s ≡ is_held_by h i
unfolding KeepsSlot
held_slot None side h i x k = sym (ap (λ g. is_held_by g i) k ∙ ap (λ t. t && true) (le-ltb i 0 (omega arith)))
held_slot (Some c) side h i x k =
    held_split (queue_of c side) h i (sound_side c side x.firm) k (nat_lt i (buffer_count (queue_of c side))) (waits h.away i) refl refl ∙ ap (λ n. nat_lt i n && not (waits h.away i)) (sym k.count)

first_keeps : (side : Side) → KeepsSlot side no_buffers None
unfolding KeepsSlot
first_keeps side = refl

pub held_by_calls : HeldByCalls
held_by_calls coder events side i =
    held_slot (solo_slot coder None events) side (holding_of side (solo_run coder None events)) i (always_ordered coder events) (run_keeps coder None side no_buffers events tt (first_keeps side))
