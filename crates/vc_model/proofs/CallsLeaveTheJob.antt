-- No call looks at the data of the running job, so a core need not keep them. Each row gives the same reply and the
-- same context, data aside, whether the data are there or erased.
use Rattle.std.proofs.Common.{ℕ, ◌≡◌, ◌==◌, eqb, nat_lt, nat_le, Bool, true, false, not, cond, ◌&&◌, ◌||◌, is_none, is_some, Option, Some, None, List, [], ◌∷◌, ◌++◌, map, length, refl, sym, ap, ◌∙◌, subst, arith}
use Rattle.std.specs.Prelude.{option_map, bit_or, min, ◌-◌}
use Rattle.std.specs.List.{find, list_any, list_all}
use Rattle.std.proofs.lemmas.List.{length-map}
use Rattle.std.proofs.lemmas.List.Folds.{list_any-append}
use Rattle.std.proofs.lemmas.Bool.{false≢true}
use Rattle.vc_base.specs.declared.Stamp.{Stamp}
use Rattle.vc_base.specs.declared.Side.{Side}
use Rattle.vc_base.specs.declared.Side.TheVariants.{Out, Cap}
use Rattle.vc_base.specs.declared.Kind.{Kind}
use Rattle.vc_base.specs.declared.Kind.TheVariants.{Copy, Enc, Dec}
use Rattle.vc_base.specs.declared.Fourcc.{Fourcc}
use Rattle.vc_base.specs.declared.Format.{Format}
use Rattle.vc_base.specs.declared.Errno.{Errno}
use Rattle.vc_base.specs.declared.Errno.TheVariants.{NoEnt, Again, NoMem, Busy, Inval, NoTty, Pipe}
use Rattle.vc_base.specs.declared.Call.{Call}
use Rattle.vc_base.specs.declared.Call.TheVariants.{Open, Close, EnumFmt, GetFmt, TryFmt, SetFmt, ReqBufs, CreateBufs, QueryBuf, QBuf, DqBuf, StreamOn, StreamOff, Subscribe, Unsubscribe, DqEvent, DecCmd, EncCmd, GetCtrl, SetCtrl, Poll}
use Rattle.vc_base.specs.declared.Reply.{Reply}
use Rattle.vc_base.specs.declared.Reply.TheVariants.{Done, Fmt, Count, Created, Blocked}
use Rattle.vc_base.specs.Buffers.{Buffer, QueueState, buffer_count, is_empty, is_out, with_index, info, info_of, held_refusal, refuse_if, querybuf_reply}
use Rattle.vc_base.specs.Buffers.{create_refusal, create_after, created, queue_held, qbuf_after, take_front, new_buffers, taken, dqbuf_after, dqbuf_refusal}
use Rattle.vc_base.specs.Buffers.{reqbufs_after, reqbufs_refusal, streamon_refusal, streamon_after, long_enough, lend_front, retire_after, zero_stamp}
use Rattle.vc_base.specs.Buffers.{without_bytes, without_job_bytes}
use Rattle.vc_base.specs.Limits.{queued_flag, done_flag, most_buffers, longest_buffer, last_flag}
use Rattle.vc_model.specs.Formats.{formats_for}
use Rattle.vc_defs.specs.Encoder.{RunRates}
use Rattle.vc_model.specs.Context.{Context, Slot, Running, Cause, drain, change, PhaseState, run, owe, last, stopped, queue_of, format_of, is_dec, is_enc}
use Rattle.vc_model.specs.Context.{is_run, is_drained, sizeimage, raise_end, settle, settle_drain, settle_last, give_last}
use Rattle.vc_model.specs.Answer.{Answer, unchanged, refused, answered, unless, if_found, unless_running, unless_or_block, desc_answer, set_answer, set_refusal}
use Rattle.vc_model.specs.Answer.{after_new_format, reqbufs_answer, after_new_buffers, create_answer, query_answer, qbuf_answer, is_no_whole_picture}
use Rattle.vc_model.specs.Answer.{taken_answer, after_taking, stop_at_last, is_ended, dqbuf_answer, streamon_answer, streamoff_effect, both_stream, stop_answer}
use Rattle.vc_model.specs.Answer.{start_is_early, start_answer, command_answer, value_answer, control_answer, context_answer, closed_answer, answer}
use Rattle.vc_model.specs.Phases.{is_stopped_by_drain}
use Rattle.vc_base.specs.Events.{EventState, subscribe_after, unsubscribe_after, take_event_after, event_refusal, event_reply}
use Rattle.vc_model.specs.Runs.{is_claimable, ready_for_probe, ready_for_run}
use Rattle.vc_model.specs.Standing.{without_data, without_data_of, without_job, core_slot, core_answer, AnswersWithoutJob, ClaimableWithoutJob}
use Rattle.vc_model.proofs.CallsKeepTheRunningJob.{Lasts, answer_lasts}

-- the answer with the context without the data
abbrev hide : Answer → Answer
hide a = record a { slot = option_map without_data a.slot }

-- Queues

pub same_length : (q : QueueState) → buffer_count (without_job_bytes q) ≡ buffer_count q
same_length q = let h = length-map q.job without_bytes in omega arith

found_split :
    (x : Buffer) (bs : List Buffer) (k : ℕ)
    → find (λ b. b.index == k) (map without_bytes bs) ≡ option_map without_bytes (find (λ b. b.index == k) bs) → (t : Bool)
    → cond t (Some (without_bytes x)) (find (λ b. b.index == k) (map without_bytes bs)) ≡ option_map without_bytes (cond t (Some x) (find (λ b. b.index == k) bs))
found_split x bs k h true = refl
found_split x bs k h false = h

same_found : (bs : List Buffer) (k : ℕ) → with_index k (map without_bytes bs) ≡ option_map without_bytes (with_index k bs)
same_found [] k = refl
same_found (x ∷ bs) k = found_split x bs k (same_found bs k) (eqb x.index k)

same_info : (o : Option Buffer) (other : Option Reply) → info_of (option_map without_bytes o) (info queued_flag) other ≡ info_of o (info queued_flag) other
same_info None other = refl
same_info (Some b) other = refl

same_query : (q : QueueState) (k : ℕ) → querybuf_reply (without_job_bytes q) k ≡ querybuf_reply q k
same_query q k =
    ap (λ o. info_of (with_index k q.held) (info 0) (info_of (with_index k q.ready) (info queued_flag) o))
    (ap (λ o. info_of o (info queued_flag) (info_of (with_index k q.done) (λ b. info (bit_or done_flag b.flags) b) None)) (same_found q.job k) ∙ same_info (with_index k q.job) _)

same_any : (least : ℕ) (bs : List Buffer) → list_any (λ b. nat_le least b.size) (map without_bytes bs) ≡ list_any (λ b. nat_le least b.size) bs
same_any least [] = refl
same_any least (b ∷ bs) = ap (λ t. nat_le least b.size || t) (same_any least bs)

any_parts :
    (least : ℕ) (h r j d : List Buffer)
    → list_any (λ b. nat_le least b.size) (h ++ (r ++ (j ++ d)))
    ≡ (list_any (λ b. nat_le least b.size) h || (list_any (λ b. nat_le least b.size) r || (list_any (λ b. nat_le least b.size) j || list_any (λ b. nat_le least b.size) d)))
any_parts least h r j d =
    list_any-append (λ b. nat_le least b.size) h (r ++ (j ++ d))
    ∙ ap (λ t. list_any (λ b. nat_le least b.size) h || t)
    (list_any-append (λ b. nat_le least b.size) r (j ++ d) ∙ ap (λ t. list_any (λ b. nat_le least b.size) r || t) (list_any-append (λ b. nat_le least b.size) j d))

same_long : (q : QueueState) (least : ℕ) → long_enough (without_job_bytes q) least ≡ long_enough q least
same_long q least =
    ap (λ t. list_all (λ b. nat_le least b.size) q.ready && t)
    (any_parts least q.held q.ready (map without_bytes q.job) q.done
    ∙ (ap
    (λ t. list_any (λ b. nat_le least b.size) q.held || (list_any (λ b. nat_le least b.size) q.ready || (t || list_any (λ b. nat_le least b.size) q.done)))
    (same_any least q.job)
    ∙ sym (any_parts least q.held q.ready q.job q.done)))

same_create : (q : QueueState) (count size : ℕ) → create_after (without_job_bytes q) count size ≡ without_job_bytes (create_after q count size)
same_create q count size =
    ap (λ n. record (without_job_bytes q) { held = q.held ++ new_buffers size n (min count (most_buffers - n)) }) (same_length q)

same_queue : (q : QueueState) (k used : ℕ) (stamp : Stamp) (bytes : List ℕ) (o : Option Buffer) → queue_held (without_job_bytes q) k o used stamp bytes ≡ without_job_bytes (queue_held q k o used stamp bytes)
same_queue q k used stamp bytes None = refl
same_queue q k used stamp bytes (Some b) = refl

same_take : (q : QueueState) (ds : List Buffer) → take_front (without_job_bytes q) ds ≡ without_job_bytes (take_front q ds)
same_take q [] = refl
same_take q (b ∷ rest) = refl

same_on : (q : QueueState) (least : ℕ) → streamon_refusal (without_job_bytes q) least ≡ streamon_refusal q least
same_on q least =
    ap (λ n. cond q.streams None (refuse_if (n == 0) Inval (refuse_if (not (is_out q.side) && not (long_enough (without_job_bytes q) least)) Inval None))) (same_length q)
    ∙ ap (λ t. cond q.streams None (refuse_if (buffer_count q == 0) Inval (refuse_if (not (is_out q.side) && not t) Inval None))) (same_long q least)

-- Settling

given_ready : (q : QueueState) (b : Buffer) (rest : List Buffer) → retire_after (lend_front (without_job_bytes q) (b ∷ rest)) 0 [] last_flag zero_stamp ≡ without_job_bytes (retire_after (lend_front q (b ∷ rest)) 0 [] last_flag zero_stamp)
given_ready q b rest = refl

given_front :
    (q : QueueState) (ready : List Buffer) → q.ready ≡ ready → not (is_empty ready) ≡ true
    → retire_after (lend_front (without_job_bytes q) q.ready) 0 [] last_flag zero_stamp ≡ without_job_bytes (retire_after (lend_front q q.ready) 0 [] last_flag zero_stamp)
given_front q [] e h = absurd (false≢true h)
given_front q (b ∷ rest) e h =
    subst (λ l. retire_after (lend_front (without_job_bytes q) l) 0 [] last_flag zero_stamp ≡ without_job_bytes (retire_after (lend_front q l) 0 [] last_flag zero_stamp)) (sym e) (given_ready q b rest)

raised_hidden : (cause : Cause) (c : Context) → raise_end cause (without_data c) ≡ without_data (raise_end cause c)
raised_hidden drain c = refl
raised_hidden change c = refl

given_hidden : (c : Context) (cause : Cause) (ready : List Buffer) → c.cap.ready ≡ ready → give_last (without_data c) cause ready ≡ without_data (give_last c cause ready)
given_hidden c cause [] e = refl
given_hidden c cause (b ∷ rest) e =
    ap (λ q. raise_end cause (record (without_data c) { cap = q; phase = last cause })) (given_front c.cap (b ∷ rest) e refl)
    ∙ raised_hidden cause (record c { cap = retire_after (lend_front c.cap c.cap.ready) 0 [] last_flag zero_stamp; phase = last cause })

owed_hidden : (c : Context) (phase : PhaseState) → settle_last (without_data c) phase ≡ without_data (settle_last c phase)
owed_hidden c run = refl
owed_hidden c (owe cause) = given_hidden c cause c.cap.ready refl
owed_hidden c (last cause) = refl
owed_hidden c (stopped cause) = refl

never : (a b : Bool) → (a && (b && false)) ≡ false
never true true = refl
never true false = refl
never false b = refl

busy_drain : (c : Context) → is_none c.running ≡ false → settle_drain c ≡ c
busy_drain c n =
    ap (λ t. cond (is_run c.phase && (c.cap.streams && (t && is_drained c.out.ready c.mark))) (record c { phase = owe drain }) c) n ∙ ap (λ t. cond t (record c { phase = owe drain }) c) (never (is_run c.phase) c.cap.streams)

settle_hidden : (c : Context) → is_none c.running ≡ false → settle (without_data c) ≡ without_data (settle c)
unfolding settle
settle_hidden c n =
    ap (λ d. settle_last d d.phase) (busy_drain (without_data c) refl) ∙ (owed_hidden c c.phase ∙ ap (λ d. without_data (settle_last d d.phase)) (sym (busy_drain c n)))

answered_hidden : (c : Context) (reply : Reply) → is_none c.running ≡ false → answered (without_data c) reply ≡ hide (answered c reply)
answered_hidden c reply n = ap (λ d. record { slot = Some d; reply = reply; bytes = [] }) (settle_hidden c n)

-- Refusals

unless_hidden : (c : Context) (o : Option Errno) (x y : Answer) → x ≡ hide y → unless (without_data c) o x ≡ hide (unless c o y)
unless_hidden c None x y e = e
unless_hidden c (Some errno) x y e = refl

found_hidden : (c : Context) (found : Bool) (x y : Answer) → x ≡ hide y → if_found (without_data c) found x ≡ hide (if_found c found y)
found_hidden c true x y e = e
found_hidden c false x y e = refl

block_hidden : (c : Context) (o : Option Errno) (block : Bool) (x y : Answer) → x ≡ hide y → unless_or_block (without_data c) o block x ≡ hide (unless_or_block c o block y)
block_hidden c None block x y e = e
block_hidden c (Some Again) true x y e = refl
block_hidden c (Some Again) false x y e = refl
block_hidden c (Some NoEnt) true x y e = refl
block_hidden c (Some NoEnt) false x y e = refl
block_hidden c (Some NoMem) block x y e = refl
block_hidden c (Some Busy) block x y e = refl
block_hidden c (Some Inval) block x y e = refl
block_hidden c (Some NoTty) block x y e = refl
block_hidden c (Some Pipe) block x y e = refl

either_hidden : (b : Bool) (x y u v : Answer) → x ≡ hide u → y ≡ hide v → cond b x y ≡ hide (cond b u v)
either_hidden true x y u v e f = e
either_hidden false x y u v e f = f

-- Rows

desc_hidden : (c : Context) (o : Option Fourcc) → desc_answer (without_data c) o ≡ hide (desc_answer c o)
desc_hidden c None = refl
desc_hidden c (Some f) = refl

format_hidden : (kind : Kind) (side : Side) (c : Context) → after_new_format kind side (without_data c) ≡ without_data (after_new_format kind side c)
format_hidden Copy side c = refl
format_hidden Enc Out c = refl
format_hidden Enc Cap c = refl
format_hidden Dec Out c = refl
format_hidden Dec Cap c = refl

format_none : (kind : Kind) (side : Side) (c : Context) → is_none c.running ≡ false → is_none (after_new_format kind side c).running ≡ false
format_none Copy side c n = n
format_none Enc Out c n = n
format_none Enc Cap c n = n
format_none Dec Out c n = n
format_none Dec Cap c n = n

set_same : (c : Context) (side : Side) → set_refusal (without_data c) side ≡ set_refusal c side
set_same c Out =
    ap (λ n. refuse_if (nat_lt 0 n || nat_lt 0 (buffer_count (without_job_bytes c.cap))) Busy None) (same_length c.out) ∙ ap (λ n. refuse_if (nat_lt 0 (buffer_count c.out) || nat_lt 0 n) Busy None) (same_length c.cap)
set_same c Cap = ap (λ n. refuse_if (nat_lt 0 n) Busy None) (same_length c.cap)

set_hidden : (c : Context) (side : Side) (want : Format) → is_none c.running ≡ false → set_answer (without_data c) side want ≡ hide (set_answer c side want)
set_hidden c side want n =
    let formats = formats_for c.kind side c.formats want in
    let x = after_new_format c.kind side (record c { formats = formats }) in
    let reply = Fmt (format_of formats side) in
    let one = ap (λ d. answered d reply) (format_hidden c.kind side (record c { formats = formats })) ∙ answered_hidden x reply (format_none c.kind side (record c { formats = formats }) n) in
    ap (λ o. unless (without_data c) o (answered (after_new_format c.kind side (record (without_data c) { formats = formats })) reply)) (set_same c side)
    ∙ unless_hidden c (set_refusal c side) (answered (after_new_format c.kind side (record (without_data c) { formats = formats })) reply) (answered x reply) one

new_hidden : (kind : Kind) (side : Side) (c : Context) → after_new_buffers kind side (without_data c) ≡ without_data (after_new_buffers kind side c)
new_hidden Copy side c = refl
new_hidden Enc Out c = refl
new_hidden Enc Cap c = refl
new_hidden Dec Out c = refl
new_hidden Dec Cap c = refl

new_none : (kind : Kind) (side : Side) (c : Context) → is_none c.running ≡ false → is_none (after_new_buffers kind side c).running ≡ false
new_none Copy side c n = n
new_none Enc Out c n = n
new_none Enc Cap c n = n
new_none Dec Out c n = n
new_none Dec Cap c n = n

reqbufs_hidden : (c : Context) (side : Side) (count : ℕ) (found : Bool) → is_none c.running ≡ false → reqbufs_answer (without_data c) side count found ≡ hide (reqbufs_answer c side count found)
reqbufs_hidden c Out count found n =
    let x = record c { out = reqbufs_after c.out count (sizeimage c Out) } in
    let reply = Count (min count most_buffers) in
    let one = ap (λ d. answered d reply) (new_hidden c.kind Out x) ∙ answered_hidden (after_new_buffers c.kind Out x) reply (new_none c.kind Out x n) in
    unless_hidden c (reqbufs_refusal c.out) _ _ (found_hidden c found _ _ one)
reqbufs_hidden c Cap count found n =
    let x = record c { cap = reqbufs_after c.cap count (sizeimage c Cap) } in
    let reply = Count (min count most_buffers) in
    let one = ap (λ d. answered d reply) (new_hidden c.kind Cap x) ∙ answered_hidden (after_new_buffers c.kind Cap x) reply (new_none c.kind Cap x n) in
    unless_hidden c (reqbufs_refusal c.cap) _ _ (found_hidden c found _ _ one)

-- a call that leaves a queue as another one, seen with the queue alone
create_over : (q : QueueState) (c : Context) (d : QueueState → Context) (count size n : ℕ) (found : Bool) → Answer
create_over q c d count size n found =
    unless c (refuse_if (nat_lt size 1 || nat_lt longest_buffer size) Inval (refuse_if (nat_lt 0 count && (n == most_buffers)) Inval None)) (if_found c found (answered (d q) (Created n (min count (most_buffers - n)))))

create_hidden : (c : Context) (side : Side) (count size : ℕ) (found : Bool) → is_none c.running ≡ false → create_answer (without_data c) side count size found ≡ hide (create_answer c side count size found)
unfolding create_over
create_hidden c Out count size found n =
    let q = create_after c.out count size in
    ap (λ p. create_over p (without_data c) (λ p. record (without_data c) { out = p }) count size (buffer_count (without_job_bytes c.out)) found) (same_create c.out count size)
    ∙ (ap (λ m. create_over (without_job_bytes q) (without_data c) (λ p. record (without_data c) { out = p }) count size m found) (same_length c.out)
    ∙ unless_hidden c (create_refusal c.out count size) _ _ (found_hidden c found _ _ (answered_hidden (record c { out = q }) (Created (buffer_count c.out) (created c.out count)) n)))
create_hidden c Cap count size found n =
    let q = create_after c.cap count size in
    ap (λ p. create_over p (without_data c) (λ p. record (without_data c) { cap = p }) count size (buffer_count (without_job_bytes c.cap)) found) (same_create c.cap count size)
    ∙ (ap (λ m. create_over (without_job_bytes q) (without_data c) (λ p. record (without_data c) { cap = p }) count size m found) (same_length c.cap)
    ∙ unless_hidden c (create_refusal c.cap count size) _ _ (found_hidden c found _ _ (answered_hidden (record c { cap = q }) (Created (buffer_count c.cap) (created c.cap count)) n)))

told_hidden : (c : Context) (o : Option Reply) → query_answer (without_data c) o ≡ hide (query_answer c o)
told_hidden c None = refl
told_hidden c (Some r) = refl

query_hidden : (c : Context) (side : Side) (index : ℕ) → query_answer (without_data c) (querybuf_reply (queue_of (without_data c) side) index) ≡ hide (query_answer c (querybuf_reply (queue_of c side) index))
query_hidden c Out index =
    ap (λ o. query_answer (without_data c) o) (same_query c.out index) ∙ told_hidden c (querybuf_reply c.out index)
query_hidden c Cap index =
    ap (λ o. query_answer (without_data c) o) (same_query c.cap index) ∙ told_hidden c (querybuf_reply c.cap index)

queue_hidden : (c : Context) (side : Side) (index used : ℕ) (stamp : Stamp) (bytes : List ℕ) → is_none c.running ≡ false → qbuf_answer (without_data c) side index used stamp bytes ≡ hide (qbuf_answer c side index used stamp bytes)
queue_hidden c Out index used stamp bytes n =
    let one = ap (λ q. answered (record (without_data c) { out = q }) Done) (same_queue c.out index used stamp bytes (with_index index c.out.held)) ∙ answered_hidden (record c { out = qbuf_after c.out index used stamp bytes }) Done n in
    unless_hidden c (held_refusal c.out.side (with_index index c.out.held) used (sizeimage c Out)) _
    (unless c (refuse_if (is_no_whole_picture c Out used) Inval None) (answered (record c { out = qbuf_after c.out index used stamp bytes }) Done))
    (unless_hidden c (refuse_if (is_no_whole_picture c Out used) Inval None) _ (answered (record c { out = qbuf_after c.out index used stamp bytes }) Done) one)
queue_hidden c Cap index used stamp bytes n =
    let one = ap (λ q. answered (record (without_data c) { cap = q }) Done) (same_queue c.cap index used stamp bytes (with_index index c.cap.held)) ∙ answered_hidden (record c { cap = qbuf_after c.cap index used stamp bytes }) Done n in
    unless_hidden c (held_refusal c.cap.side (with_index index c.cap.held) used (sizeimage c Cap)) _
    (unless c (refuse_if (is_no_whole_picture c Cap used) Inval None) (answered (record c { cap = qbuf_after c.cap index used stamp bytes }) Done))
    (unless_hidden c (refuse_if (is_no_whole_picture c Cap used) Inval None) _ (answered (record c { cap = qbuf_after c.cap index used stamp bytes }) Done) one)

last_hidden : (c : Context) (phase : PhaseState) (emptied : Bool) → stop_at_last (without_data c) phase emptied ≡ without_data (stop_at_last c phase emptied)
last_hidden c run emptied = refl
last_hidden c (owe cause) emptied = refl
last_hidden c (last drain) true = refl
last_hidden c (last drain) false = refl
last_hidden c (last change) true = refl
last_hidden c (last change) false = refl
last_hidden c (stopped cause) emptied = refl

last_none : (c : Context) (phase : PhaseState) (emptied : Bool) → is_none c.running ≡ false → is_none (stop_at_last c phase emptied).running ≡ false
last_none c run emptied n = n
last_none c (owe cause) emptied n = n
last_none c (last drain) true n = n
last_none c (last drain) false n = n
last_none c (last change) true n = n
last_none c (last change) false n = n
last_none c (stopped cause) emptied n = n

with_bytes : (bytes : List ℕ) (x y : Answer) → x ≡ hide y → record x { bytes = bytes } ≡ hide (record y { bytes = bytes })
with_bytes bytes x y e = ap {A = Answer} {B = Answer} (λ a. record a { bytes = bytes }) e

taken_hidden : (c : Context) (side : Side) (ds : List Buffer) → is_none c.running ≡ false → taken_answer (without_data c) side ds ≡ hide (taken_answer c side ds)
taken_hidden c side [] n = refl
taken_hidden c Out (b ∷ rest) n =
    with_bytes b.bytes _ (answered (record c { out = dqbuf_after c.out }) (taken b))
    (ap (λ q. answered (record (without_data c) { out = q }) (taken b)) (same_take c.out c.out.done) ∙ answered_hidden (record c { out = dqbuf_after c.out }) (taken b) n)
taken_hidden c Cap (b ∷ rest) n =
    let x = record c { cap = dqbuf_after c.cap } in
    with_bytes b.bytes _ (answered (stop_at_last x x.phase (is_empty x.cap.done)) (taken b))
    (ap (λ q. answered (after_taking (record (without_data c) { cap = q }) Cap) (taken b)) (same_take c.cap c.cap.done)
    ∙ (ap (λ d. answered d (taken b)) (last_hidden x x.phase (is_empty x.cap.done))
    ∙ answered_hidden (stop_at_last x x.phase (is_empty x.cap.done)) (taken b) (last_none x x.phase (is_empty x.cap.done) n)))

dqbuf_hidden : (c : Context) (side : Side) (block : Bool) → is_none c.running ≡ false → dqbuf_answer (without_data c) side block ≡ hide (dqbuf_answer c side block)
dqbuf_hidden c Out block n =
    block_hidden c (dqbuf_refusal c.out false) block _ _ (taken_hidden c Out c.out.done n)
dqbuf_hidden c Cap block n =
    block_hidden c (dqbuf_refusal c.cap (is_ended c Cap)) block _ _ (taken_hidden c Cap c.cap.done n)

on_hidden : (c : Context) (side : Side) → is_none c.running ≡ false → streamon_answer (without_data c) side ≡ hide (streamon_answer c side)
on_hidden c Out n =
    ap (λ o. unless (without_data c) o (answered (record (without_data c) { out = streamon_after (without_job_bytes c.out) }) Done)) (same_on c.out (sizeimage c Out))
    ∙ unless_hidden c (streamon_refusal c.out (sizeimage c Out)) _ _ (answered_hidden (record c { out = streamon_after c.out }) Done n)
on_hidden c Cap n =
    ap (λ o. unless (without_data c) o (answered (record (without_data c) { cap = streamon_after (without_job_bytes c.cap) }) Done)) (same_on c.cap (sizeimage c Cap))
    ∙ unless_hidden c (streamon_refusal c.cap (sizeimage c Cap)) _ _ (answered_hidden (record c { cap = streamon_after c.cap }) Done n)

-- a call that waits for the job
waiting_hidden : (c : Context) (x y : Answer) → is_none c.running ≡ false → unless_running (without_data c) x ≡ hide (unless_running c y)
waiting_hidden c x y n = ap (λ t. hide (cond t y (unchanged c Blocked))) (sym n)

start_hidden : (c : Context) → is_none c.running ≡ false → start_answer (without_data c) ≡ hide (start_answer c)
start_hidden c n =
    ap (λ t.
    cond (not (both_stream c)) (unchanged (without_data c) Done)
    (cond (start_is_early c.phase c.mark) (refused (without_data c) Busy) (cond (not t) (refused (without_data c) Inval) (answered (record (without_data c) { phase = run }) Done))))
    (same_long c.cap (sizeimage c Cap))
    ∙ either_hidden (not (both_stream c)) _ _ _ _ refl
    (either_hidden (start_is_early c.phase c.mark) _ _ _ _ refl (either_hidden (not (long_enough c.cap (sizeimage c Cap))) _ _ _ _ refl (answered_hidden (record c { phase = run }) Done n)))

stop_hidden : (c : Context) → is_none c.running ≡ false → stop_answer (without_data c) ≡ hide (stop_answer c)
stop_hidden c n =
    either_hidden (not (both_stream c)) _ _ _ _ refl (either_hidden (is_some c.mark) _ _ _ _ refl (either_hidden (is_stopped_by_drain c.phase) _ _ _ _ refl (answered_hidden (record c { mark = Some c.out.next_ordinal }) Done n)))

command_hidden : (c : Context) (cmd : ℕ) → is_none c.running ≡ false → command_answer (without_data c) cmd ≡ hide (command_answer c cmd)
command_hidden c cmd n =
    either_hidden (cmd == 0) _ _ _ _ (start_hidden c n) (either_hidden (cmd == 1) _ _ _ _ (stop_hidden c n) refl)

value_hidden : (c : Context) (o : Option ℕ) → value_answer (without_data c) o ≡ hide (value_answer c o)
value_hidden c None = refl
value_hidden c (Some v) = refl

control_hidden : (c : Context) (o : Option RunRates) → is_none c.running ≡ false → control_answer (without_data c) o ≡ hide (control_answer c o)
control_hidden c None n = refl
control_hidden c (Some rates) n = answered_hidden (record c { rates = rates }) Done n

events_hidden :
    (c : Context) (o : Option Errno) (events : EventState) → is_none c.running ≡ false
    → unless (without_data c) o (answered (record (without_data c) { events = events }) Done) ≡ hide (unless c o (answered (record c { events = events }) Done))
events_hidden c o events n = unless_hidden c o _ _ (answered_hidden (record c { events = events }) Done n)

row_hidden : (c : Context) (request : Call) (bytes : List ℕ) (found : Bool) → is_none c.running ≡ false → context_answer (without_data c) request bytes found ≡ hide (context_answer c request bytes found)
unfolding context_answer
row_hidden c (Open kind) bytes found n = refl
row_hidden c Close bytes found n =
    waiting_hidden c (record { slot = None; reply = Done; bytes = [] }) (record { slot = None; reply = Done; bytes = [] }) n
row_hidden c (EnumFmt side index) bytes found n = desc_hidden c _
row_hidden c (GetFmt side) bytes found n = refl
row_hidden c (TryFmt side want) bytes found n = refl
row_hidden c (SetFmt side want) bytes found n = set_hidden c side want n
row_hidden c (ReqBufs side count) bytes found n = reqbufs_hidden c side count found n
row_hidden c (CreateBufs side count length) bytes found n = create_hidden c side count length found n
row_hidden c (QueryBuf side index) bytes found n = query_hidden c side index
row_hidden c (QBuf side index used stamp) bytes found n = queue_hidden c side index used stamp bytes n
row_hidden c (DqBuf side block) bytes found n = dqbuf_hidden c side block n
row_hidden c (StreamOn side) bytes found n = on_hidden c side n
row_hidden c (StreamOff side) bytes found n =
    waiting_hidden c (answered (streamoff_effect (without_data c) side) Done) (answered (streamoff_effect c side) Done) n
row_hidden c (Subscribe event) bytes found n = events_hidden c (event_refusal c.kind event) (subscribe_after c.events event) n
row_hidden c (Unsubscribe event) bytes found n = events_hidden c (event_refusal c.kind event) (unsubscribe_after c.events event) n
row_hidden c (DqEvent block) bytes found n =
    block_hidden c _ block _ _ (answered_hidden (record c { events = take_event_after c.events }) (event_reply c.events.pending) n)
row_hidden c (DecCmd cmd) bytes found n = either_hidden (is_dec c.kind) _ _ _ _ (command_hidden c cmd n) refl
row_hidden c (EncCmd cmd) bytes found n = either_hidden (is_enc c.kind) _ _ _ _ (command_hidden c cmd n) refl
row_hidden c (GetCtrl id) bytes found n = value_hidden c _
row_hidden c (SetCtrl id value) bytes found n = control_hidden c _ n
row_hidden c Poll bytes found n = refl

-- Slots

-- where no job runs nothing is erased
pub without_none : (c : Context) → c.running ≡ None → without_job c ≡ c
without_none c e = ap (λ o. without_data_of c o) e

pub without_some : (c : Context) (r : Running) → c.running ≡ Some r → without_job c ≡ without_data c
without_some c r e = ap (λ o. without_data_of c o) e

slot_without_none : (s : Slot) → Lasts None s → core_slot s ≡ s
unfolding Lasts
slot_without_none None l = refl
slot_without_none (Some c) l = ap Some (without_none c l)

slot_without_some : (s : Slot) (r : Running) → Lasts (Some r) s → option_map without_data s ≡ core_slot s
unfolding Lasts
slot_without_some None r l = refl
slot_without_some (Some c) r l = ap Some (sym (without_some c r l))

open_hidden : (c : Context) (request : Call) (bytes : List ℕ) (found : Bool) → is_none c.running ≡ false → answer (Some (without_data c)) request bytes found ≡ hide (answer (Some c) request bytes found)
unfolding answer
open_hidden c request bytes found n = row_hidden c request bytes found n

split_hidden : (c : Context) (o : Option Running) → c.running ≡ o → (request : Call) (bytes : List ℕ) (found : Bool) → answer (Some (without_data_of c o)) request bytes found ≡ core_answer (answer (Some c) request bytes found)
split_hidden c None e request bytes found =
    let l = subst (λ x. Lasts x (answer (Some c) request bytes found).slot) e (answer_lasts c request bytes found) in
    ap (λ s. record (answer (Some c) request bytes found) { slot = s }) (sym (slot_without_none (answer (Some c) request bytes found).slot l))
split_hidden c (Some r) e request bytes found =
    let l = subst (λ x. Lasts x (answer (Some c) request bytes found).slot) e (answer_lasts c request bytes found) in
    open_hidden c request bytes found (ap is_none e) ∙ ap (λ s. record (answer (Some c) request bytes found) { slot = s }) (slot_without_some (answer (Some c) request bytes found).slot r l)

closed_hidden : (request : Call) (found : Bool) → closed_answer request found ≡ core_answer (closed_answer request found)
unfolding closed_answer
closed_hidden (Open kind) true = refl
closed_hidden (Open kind) false = refl
closed_hidden request found = refl

none_hidden : (request : Call) (bytes : List ℕ) (found : Bool) → answer None request bytes found ≡ core_answer (answer None request bytes found)
unfolding answer
none_hidden request bytes found = closed_hidden request found

pub answers_without_job : AnswersWithoutJob
answers_without_job None request bytes found = none_hidden request bytes found
answers_without_job (Some c) request bytes found = split_hidden c c.running refl request bytes found

claimable_of : (c : Context) (o : Option Running) → c.running ≡ o → is_claimable (Some (without_data_of c o)) ≡ is_claimable (Some c)
unfolding is_claimable
claimable_of c None e = refl
claimable_of c (Some r) e = ap (λ o. is_none o && (ready_for_probe c || ready_for_run c)) (sym e)

pub claimable_without_job : ClaimableWithoutJob
claimable_without_job None = refl
claimable_without_job (Some c) = claimable_of c c.running refl
