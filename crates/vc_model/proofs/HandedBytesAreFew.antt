-- What a DqBuf on CAPTURE hands out has no more bytes than the longest buffer, where what calls bring has no more and no run of
-- the codec gives more. The bytes of a CAPTURE buffer come from a run: a copy's are some of its source's, which a QBuf brought,
-- and the codec's are short by the premise; all other rows move buffers as they are.
use Rattle.std.proofs.Common.{ℕ, ◌≡◌, ◌+◌, ◌==◌, Bool, true, false, not, cond, ◌&&◌, is_none, is_some, Option, Some, None, List, [], ◌∷◌, ◌++◌, length, refl, sym, ap, ◌∙◌, subst, ◌⊎◌, inl, inr, ⊎_elim}
use Rattle.std.proofs.Common.{zero, suc, nat_le, take, drop, min, ◌≤◌, arith}
use Rattle.vc_base.specs.declared.Stamp.{Stamp}
use Rattle.vc_base.specs.declared.Side.{Side}
use Rattle.vc_base.specs.declared.Side.TheVariants.{Out, Cap}
use Rattle.vc_base.specs.declared.Kind.{Kind}
use Rattle.vc_base.specs.declared.Kind.TheVariants.{Copy, Enc, Dec}
use Rattle.vc_base.specs.declared.Fourcc.{Fourcc}
use Rattle.vc_base.specs.declared.Format.{Format}
use Rattle.vc_base.specs.declared.Errno.{Errno}
use Rattle.vc_base.specs.declared.Errno.TheVariants.{NoEnt, Again, NoMem, Busy, Inval, NoTty, Pipe}
use Rattle.vc_base.specs.declared.Call.{Call}
use Rattle.vc_base.specs.declared.Call.TheVariants.{Open, Close, EnumFmt, GetFmt, TryFmt, SetFmt, ReqBufs, CreateBufs, QueryBuf, QBuf, DqBuf, StreamOn, StreamOff, Subscribe, Unsubscribe, DqEvent, DecCmd, EncCmd, GetCtrl, SetCtrl, Poll}
use Rattle.vc_base.specs.declared.Reply.{Reply}
use Rattle.vc_base.specs.declared.Reply.TheVariants.{Done, Created, Blocked}
use Rattle.vc_base.specs.Buffers.{Buffer, QueueState, buffer_count, is_empty, refuse_if, with_index, queued_buffer, queue_held, held_refusal, take_front}
use Rattle.vc_base.specs.Buffers.{long_enough, reqbufs_after, create_refusal, create_after, created, qbuf_after, dqbuf_after, streamon_refusal, streamon_after}
use Rattle.vc_base.specs.Buffers.{streamoff_after, dqbuf_refusal, lend_front, lend_after, give_back_from, give_back_after, retire_from, retire_after}
use Rattle.vc_base.specs.Buffers.{zero_stamp, known_bytes}
use Rattle.vc_base.specs.Limits.{last_flag, error_flag}
use Rattle.vc_base.specs.Events.{EventState}
use Rattle.vc_defs.specs.declared.Geometry.{Geometry}
use Rattle.vc_model.specs.Formats.{FormatPair}
use Rattle.vc_model.specs.Coder.{Coder, CodecState, no_codec, encoder, decoder, reset}
use Rattle.vc_defs.specs.Decoder.{DecodedResult, picture, damaged, changed, spent, step_outcome}
use Rattle.vc_defs.specs.Encoder.{RunRates}
use Rattle.vc_model.specs.Context.{Context, Slot, Running, RunSort, copy, encode, decode, probe, Cause, drain, change, PhaseState, run, owe, last, stopped}
use Rattle.vc_model.specs.Context.{queue_of, with_queue, is_dec, is_enc, is_drained, sizeimage, raise_end, settle, settle_drain, settle_last, give_last}
use Rattle.vc_model.specs.Answer.{Answer, unchanged, refused, answered, unless, if_found, unless_or_block, desc_answer, set_answer, set_refusal}
use Rattle.vc_model.specs.Answer.{after_new_format, reqbufs_answer, after_new_buffers, create_answer, query_answer, qbuf_answer, is_no_whole_picture}
use Rattle.vc_model.specs.Answer.{taken_answer, after_taking, stop_at_last, is_ended, streamon_answer, streamoff_answer, streamoff_effect, without_drain_stop}
use Rattle.vc_model.specs.Answer.{after_output_off, mark_after_restart, after_capture_off, both_stream, stop_answer, start_is_early, start_answer}
use Rattle.vc_model.specs.Answer.{command_answer, value_answer, control_answer, context_answer, closed_answer, answer}
use Rattle.vc_model.specs.Phases.{is_stopped_by_drain}
use Rattle.vc_model.specs.Runs.{is_claimable, sort_of, cap_after_claim, claim_front, after_claim, JobData, job_data, RunResult, copied, encoded, decoded}
use Rattle.vc_model.specs.Runs.{run_result, source_done, source_back, dest_done, dest_back, type_flag, source_moved, decoded_effect, run_effect, fault_effect}
use Rattle.vc_model.specs.Runs.{after_finish}
use Rattle.vc_model.specs.Solo.{SoloEvent, Called, Claims, Finishes, solo_step, solo_run, solo_slot, claim_step, solo_finish, finish_step}
use Rattle.std.specs.List.{list_all}
use Rattle.std.proofs.lemmas.Bool.{leb-true, le-leb}
use Rattle.std.proofs.lemmas.List.Folds.{list_all-append}
use Rattle.vc_model.specs.Runs.{source_of, dest_size, encode_run, decode_run, run_of}
use Rattle.vc_base.specs.Limits.{longest_buffer}
use Rattle.vc_model.specs.Wire.{taken_bytes, RunsAreShort, coded_bytes, outcome_bytes}
use Rattle.vc_model.proofs.PartsOfTests.{and_left, and_right, and_both}

-- no more bytes than the longest buffer has
abbrev pub is_few : List ℕ → Bool
is_few bytes = nat_le (length bytes) longest_buffer

abbrev is_short : Buffer → Bool
is_short b = is_few b.bytes

-- Two queues: the OUTPUT buffers that wait for a run and the CAPTURE buffers that are done are short.
record AreShortQueues (o k : QueueState) : Type 0 where
  pub out_side : o.side ≡ Out
  pub cap_side : k.side ≡ Cap
  pub ready : list_all is_short o.ready ≡ true
  pub job : list_all is_short o.job ≡ true
  pub cap_done : list_all is_short k.done ≡ true

all_end : (t : Buffer → Bool) (bs : List Buffer) (x : Buffer) → list_all t bs ≡ true → t x ≡ true → list_all t (bs ++ x ∷ []) ≡ true
all_end t bs x h e =
    list_all-append t bs (x ∷ []) ∙ (ap (λ b. b && (t x && true)) h ∙ ap (λ b. b && true) e)

-- OUTPUT

lend_short : (o k : QueueState) (ready : List Buffer) → o.ready ≡ ready → AreShortQueues o k → AreShortQueues (lend_front o ready) k
lend_short o k [] e w = w
lend_short o k (b ∷ rest) e w =
    let all = subst (λ l. list_all is_short l ≡ true) e w.ready in
    record {
      out_side = w.out_side;
      cap_side = w.cap_side;
      ready = and_right (is_short b) (list_all is_short rest) all;
      job = and_both (is_short b) true (and_left (is_short b) (list_all is_short rest) all) refl;
      cap_done = w.cap_done;
    }

-- the source goes to done
retire_short :
    (o k : QueueState) (job : List Buffer) (used : ℕ) (bytes : List ℕ) (flags : ℕ) (stamp : Stamp) → o.job ≡ job → AreShortQueues o k
    → AreShortQueues (retire_from o job used bytes flags stamp) k
retire_short o k [] used bytes flags stamp e w = w
retire_short o k (b ∷ bs) used bytes flags stamp e w =
    record { out_side = w.out_side; cap_side = w.cap_side; ready = w.ready; job = refl; cap_done = w.cap_done }

give_back_short : (o k : QueueState) (job : List Buffer) (cursor : ℕ) → o.job ≡ job → AreShortQueues o k → AreShortQueues (give_back_from o job cursor (source_of job).bytes) k
give_back_short o k [] cursor e w = w
give_back_short o k (b ∷ bs) cursor e w =
    let all = subst (λ l. list_all is_short l ≡ true) e w.job in
    record {
      out_side = w.out_side;
      cap_side = w.cap_side;
      ready = and_both (is_short b) (list_all is_short o.ready) (and_left (is_short b) (list_all is_short bs) all) w.ready;
      job = refl;
      cap_done = w.cap_done;
    }

queue_out_short : (o k : QueueState) (index used : ℕ) (stamp : Stamp) (bytes : List ℕ) (found : Option Buffer) → is_few bytes ≡ true → AreShortQueues o k → AreShortQueues (queue_held o index found used stamp bytes) k
queue_out_short o k index used stamp bytes None h w = w
queue_out_short o k index used stamp bytes (Some b) h w =
    let x = queued_buffer o.side b used stamp bytes o.next_ordinal in
    record {
      out_side = w.out_side;
      cap_side = w.cap_side;
      ready = all_end is_short o.ready x w.ready (ap (λ side. is_short (queued_buffer side b used stamp bytes o.next_ordinal)) w.out_side ∙ h);
      job = w.job;
      cap_done = w.cap_done;
    }

-- CAPTURE

queue_cap_short : (o k : QueueState) (index used : ℕ) (stamp : Stamp) (bytes : List ℕ) (found : Option Buffer) → AreShortQueues o k → AreShortQueues o (queue_held k index found used stamp bytes)
queue_cap_short o k index used stamp bytes None w = w
queue_cap_short o k index used stamp bytes (Some b) w =
    record {
      out_side = w.out_side;
      cap_side = w.cap_side;
      ready = w.ready;
      job = w.job;
      cap_done = w.cap_done;
    }

lend_cap_short : (o k : QueueState) (ready : List Buffer) → AreShortQueues o k → AreShortQueues o (lend_front k ready)
lend_cap_short o k [] w = w
lend_cap_short o k (b ∷ rest) w =
    record {
      out_side = w.out_side;
      cap_side = w.cap_side;
      ready = w.ready;
      job = w.job;
      cap_done = w.cap_done;
    }

retire_cap_short : (o k : QueueState) (job : List Buffer) (bytes : List ℕ) (flags : ℕ) (stamp : Stamp) → is_few bytes ≡ true → AreShortQueues o k → AreShortQueues o (retire_from k job (length bytes) bytes flags stamp)
retire_cap_short o k [] bytes flags stamp h w = w
retire_cap_short o k (b ∷ bs) bytes flags stamp h w =
    let x : Buffer = record b { used = length bytes; bytes = known_bytes k.side flags bytes; flags = flags; stamp = stamp; seq = k.next_seq } in
    record {
      out_side = w.out_side;
      cap_side = w.cap_side;
      ready = w.ready;
      job = w.job;
      cap_done = all_end is_short k.done x w.cap_done (ap (λ side. is_few (known_bytes side flags bytes)) w.cap_side ∙ h);
    }

give_back_cap_short : (o k : QueueState) (job : List Buffer) (cursor : ℕ) (bytes : List ℕ) → AreShortQueues o k → AreShortQueues o (give_back_from k job cursor bytes)
give_back_cap_short o k [] cursor bytes w = w
give_back_cap_short o k (b ∷ bs) cursor bytes w =
    record {
      out_side = w.out_side;
      cap_side = w.cap_side;
      ready = w.ready;
      job = w.job;
      cap_done = w.cap_done;
    }

-- Settling

IsShort : Context → Type 0
IsShort c = AreShortQueues c.out c.cap

raised_short : (cause : Cause) (c : Context) → IsShort c → IsShort (raise_end cause c)
unfolding IsShort
raised_short drain c w = w
raised_short change c w = w

given_short : (c : Context) (cause : Cause) (ready : List Buffer) → IsShort c → IsShort (give_last c cause ready)
unfolding IsShort
given_short c cause [] w = w
given_short c cause (b ∷ rest) w =
    raised_short cause (record c { cap = retire_after (lend_after c.cap) 0 [] last_flag zero_stamp; phase = last cause })
    (retire_cap_short c.out (lend_after c.cap) (lend_after c.cap).job [] last_flag zero_stamp refl (lend_cap_short c.out c.cap c.cap.ready w))

owed_short : (c : Context) (phase : PhaseState) → IsShort c → IsShort (settle_last c phase)
owed_short c run w = w
owed_short c (owe cause) w = given_short c cause c.cap.ready w
owed_short c (last cause) w = w
owed_short c (stopped cause) w = w

drained_short : (c : Context) (b : Bool) → IsShort c → IsShort (cond b (record c { phase = owe drain }) c)
unfolding IsShort
drained_short c true w = w
drained_short c false w = w

settle_short : (c : Context) → IsShort c → IsShort (settle c)
unfolding settle
settle_short c w = let d = settle_drain c in owed_short d d.phase (drained_short c _ w)

-- Answers

SlotShort : Slot → Type 0
SlotShort None = Unit {0}
SlotShort (Some c) = IsShort c

here : (c : Context) → IsShort c → SlotShort (Some c)
unfolding SlotShort
here c w = w

then_settled : (x : Context) → IsShort x → SlotShort (Some (settle x))
unfolding SlotShort
then_settled x w = settle_short x w

unless_short : (c : Context) (o : Option Errno) (a : Answer) → IsShort c → SlotShort a.slot → SlotShort (unless c o a).slot
unless_short c None a w h = h
unless_short c (Some e) a w h = here c w

found_short : (c : Context) (found : Bool) (a : Answer) → IsShort c → SlotShort a.slot → SlotShort (if_found c found a).slot
found_short c true a w h = h
found_short c false a w h = here c w

block_short : (c : Context) (o : Option Errno) (block : Bool) (a : Answer) → IsShort c → SlotShort a.slot → SlotShort (unless_or_block c o block a).slot
block_short c None block a w h = h
block_short c (Some Again) true a w h = here c w
block_short c (Some Again) false a w h = here c w
block_short c (Some NoEnt) true a w h = here c w
block_short c (Some NoEnt) false a w h = here c w
block_short c (Some NoMem) block a w h = here c w
block_short c (Some Busy) block a w h = here c w
block_short c (Some Inval) block a w h = here c w
block_short c (Some NoTty) block a w h = here c w
block_short c (Some Pipe) block a w h = here c w

either : (b : Bool) (a d : Answer) → SlotShort a.slot → SlotShort d.slot → SlotShort (cond b a d).slot
either true a d n m = n
either false a d n m = m

desc_short : (c : Context) (o : Option Fourcc) → IsShort c → SlotShort (desc_answer c o).slot
desc_short c None w = here c w
desc_short c (Some f) w = here c w

new_format_short : (kind : Kind) (side : Side) (x : Context) → IsShort x → IsShort (after_new_format kind side x)
unfolding IsShort
new_format_short Copy side x w = w
new_format_short Enc Out x w = w
new_format_short Enc Cap x w = w
new_format_short Dec Out x w = w
new_format_short Dec Cap x w = w

with_formats : (c : Context) (formats : FormatPair) → IsShort c → IsShort (record c { formats = formats })
unfolding IsShort
with_formats c formats w = w

set_short : (c : Context) (side : Side) (want : Format) → IsShort c → SlotShort (set_answer c side want).slot
set_short c side want w =
    unless_short c (set_refusal c side) _ w (then_settled _ (new_format_short c.kind side _ (with_formats c _ w)))

new_buffers_short : (kind : Kind) (side : Side) (x : Context) → IsShort x → IsShort (after_new_buffers kind side x)
unfolding IsShort
new_buffers_short Copy side x w = w
new_buffers_short Enc Out x w = w
new_buffers_short Enc Cap x w = w
new_buffers_short Dec Out x w = w
new_buffers_short Dec Cap x w = w

-- OUTPUT, or CAPTURE, with its buffers held alone
out_emptied : (o k q : QueueState) → q.side ≡ o.side → q.ready ≡ [] → q.job ≡ [] → AreShortQueues o k → AreShortQueues q k
out_emptied o k q s r j w =
    record {
      out_side = s ∙ w.out_side;
      cap_side = w.cap_side;
      ready = ap (λ l. list_all is_short l) r;
      job = ap (λ l. list_all is_short l) j;
      cap_done = w.cap_done;
    }

cap_emptied : (o k q : QueueState) → q.side ≡ k.side → q.done ≡ [] → AreShortQueues o k → AreShortQueues o q
cap_emptied o k q s d w =
    record {
      out_side = w.out_side;
      cap_side = s ∙ w.cap_side;
      ready = w.ready;
      job = w.job;
      cap_done = ap (λ l. list_all is_short l) d;
    }

dropped_short : (c : Context) (side : Side) (count size : ℕ) → IsShort c → IsShort (with_queue c side (reqbufs_after (queue_of c side) count size))
unfolding IsShort
dropped_short c Out count size w = out_emptied c.out c.cap (reqbufs_after c.out count size) refl refl refl w
dropped_short c Cap count size w = cap_emptied c.out c.cap (reqbufs_after c.cap count size) refl refl w

reqbufs_short : (c : Context) (side : Side) (count : ℕ) (found : Bool) → IsShort c → SlotShort (reqbufs_answer c side count found).slot
reqbufs_short c side count found w =
    let x = with_queue c side (reqbufs_after (queue_of c side) count (sizeimage c side)) in
    unless_short c (refuse_if (queue_of c side).streams Busy None) _ w (found_short c found _ w (then_settled (after_new_buffers c.kind side x) (new_buffers_short c.kind side x (dropped_short c side count (sizeimage c side) w))))

-- other fields of a queue
created_short : (c : Context) (side : Side) (count size : ℕ) → IsShort c → IsShort (with_queue c side (create_after (queue_of c side) count size))
unfolding IsShort
created_short c Out count size w =
    record { out_side = w.out_side; cap_side = w.cap_side; ready = w.ready; job = w.job; cap_done = w.cap_done }
created_short c Cap count size w =
    record { out_side = w.out_side; cap_side = w.cap_side; ready = w.ready; job = w.job; cap_done = w.cap_done }

create_short : (c : Context) (side : Side) (count size : ℕ) (found : Bool) → IsShort c → SlotShort (create_answer c side count size found).slot
create_short c side count size found w =
    let q = queue_of c side in
    let a = answered (with_queue c side (create_after q count size)) (Created (buffer_count q) (created q count)) in
    unless_short c (create_refusal q count size) (if_found c found a) w (found_short c found a w (then_settled (with_queue c side (create_after q count size)) (created_short c side count size w)))

query_short : (c : Context) (o : Option Reply) → IsShort c → SlotShort (query_answer c o).slot
query_short c None w = here c w
query_short c (Some reply) w = here c w

on_short : (c : Context) (side : Side) → IsShort c → IsShort (with_queue c side (streamon_after (queue_of c side)))
unfolding IsShort
on_short c Out w =
    record { out_side = w.out_side; cap_side = w.cap_side; ready = w.ready; job = w.job; cap_done = w.cap_done }
on_short c Cap w =
    record { out_side = w.out_side; cap_side = w.cap_side; ready = w.ready; job = w.job; cap_done = w.cap_done }

streamon_short : (c : Context) (side : Side) → IsShort c → SlotShort (streamon_answer c side).slot
streamon_short c side w =
    unless_short c (streamon_refusal (queue_of c side) (sizeimage c side)) (answered (with_queue c side (streamon_after (queue_of c side))) Done) w (then_settled (with_queue c side (streamon_after (queue_of c side))) (on_short c side w))

queued_short :
    (c : Context) (side : Side) (index used : ℕ) (stamp : Stamp) (bytes : List ℕ) → is_few bytes ≡ true
    → IsShort c → IsShort (with_queue c side (qbuf_after (queue_of c side) index used stamp bytes))
unfolding IsShort
queued_short c Out index used stamp bytes h w =
    queue_out_short c.out c.cap index used stamp bytes (with_index index c.out.held) h w
queued_short c Cap index used stamp bytes h w =
    queue_cap_short c.out c.cap index used stamp bytes (with_index index c.cap.held) w

queue_split :
    (c x : Context) (side : Side) (index used : ℕ) (stamp : Stamp) (bytes : List ℕ) (o r : Option Errno)
    → is_few bytes ≡ true → IsShort c
    → (is_few bytes ≡ true → IsShort x) → SlotShort (unless c o (unless c r (answered x Done))).slot
queue_split c x side index used stamp bytes (Some e) r n w h = here c w
queue_split c x side index used stamp bytes None (Some e) n w h = here c w
queue_split c x side index used stamp bytes None None n w h = then_settled x (h n)

qbuf_short :
    (c : Context) (side : Side) (index used : ℕ) (stamp : Stamp) (bytes : List ℕ)
    → is_few bytes ≡ true → IsShort c
    → SlotShort (qbuf_answer c side index used stamp bytes).slot
qbuf_short c side index used stamp bytes n w =
    let q = queue_of c side in
    queue_split c (with_queue c side (qbuf_after q index used stamp bytes)) side index used stamp bytes
    (held_refusal q.side (with_index index q.held) used (sizeimage c side)) (refuse_if (is_no_whole_picture c side used) Inval None) n w
    (λ h. queued_short c side index used stamp bytes h w)

-- DqBuf
stop_short : (x : Context) (p : PhaseState) (b : Bool) → IsShort x → IsShort (stop_at_last x p b)
unfolding IsShort
stop_short x run b w = w
stop_short x (owe cause) b w = w
stop_short x (last drain) true w = w
stop_short x (last drain) false w = w
stop_short x (last change) true w = w
stop_short x (last change) false w = w
stop_short x (stopped cause) b w = w

take_out_short : (o k : QueueState) (ds : List Buffer) → o.done ≡ ds → AreShortQueues o k → AreShortQueues (take_front o ds) k
take_out_short o k [] e w = w
take_out_short o k (b ∷ rest) e w =
    record {
      out_side = w.out_side;
      cap_side = w.cap_side;
      ready = w.ready;
      job = w.job;
      cap_done = w.cap_done;
    }

take_cap_short : (o k : QueueState) (ds : List Buffer) → k.done ≡ ds → AreShortQueues o k → AreShortQueues o (take_front k ds)
take_cap_short o k [] e w = w
take_cap_short o k (b ∷ rest) e w =
    record {
      out_side = w.out_side;
      cap_side = w.cap_side;
      ready = w.ready;
      job = w.job;
      cap_done = and_right (is_short b) (list_all is_short rest) (subst (λ l. list_all is_short l ≡ true) e w.cap_done);
    }

took_out : (c : Context) → IsShort c → IsShort (record c { out = dqbuf_after c.out })
unfolding IsShort
took_out c w = take_out_short c.out c.cap c.out.done refl w

took_cap : (c : Context) → IsShort c → IsShort (record c { cap = dqbuf_after c.cap })
unfolding IsShort
took_cap c w = take_cap_short c.out c.cap c.cap.done refl w

take_slot : (c : Context) (side : Side) (ds : List Buffer) → IsShort c → SlotShort (taken_answer c side ds).slot
take_slot c side [] w = here c w
take_slot c Out (b ∷ rest) w = then_settled (record c { out = dqbuf_after c.out }) (took_out c w)
take_slot c Cap (b ∷ rest) w =
    let x = record c { cap = dqbuf_after c.cap } in
    then_settled (after_taking x Cap) (stop_short x x.phase (is_empty x.cap.done) (took_cap c w))

-- StreamOff
output_off_short : (kind : Kind) (x : Context) → IsShort x → IsShort (after_output_off kind x)
unfolding IsShort
output_off_short Copy x w = w
output_off_short Enc x w = w
output_off_short Dec x w = w

capture_off_short : (kind : Kind) (x : Context) → IsShort x → IsShort (after_capture_off kind x)
unfolding IsShort
capture_off_short Copy x w = w
capture_off_short Enc x w = w
capture_off_short Dec x w = w

out_off : (c : Context) → IsShort c → IsShort (record c { out = streamoff_after c.out; mark = None; phase = without_drain_stop c.phase })
unfolding IsShort
out_off c w =
    record {
      out_side = w.out_side;
      cap_side = w.cap_side;
      ready = refl;
      job = w.job;
      cap_done = w.cap_done;
    }

cap_off : (c : Context) → IsShort c → IsShort (record c { cap = streamoff_after c.cap; mark = mark_after_restart c.phase c.mark; phase = run })
unfolding IsShort
cap_off c w = cap_emptied c.out c.cap (streamoff_after c.cap) refl refl w

cap_still : (c : Context) → IsShort c → IsShort (record c { cap = streamoff_after c.cap })
unfolding IsShort
cap_still c w = cap_emptied c.out c.cap (streamoff_after c.cap) refl refl w

capture_split : (c : Context) (b : Bool) → IsShort c → IsShort (cond b (after_capture_off c.kind (record c { cap = streamoff_after c.cap; mark = mark_after_restart c.phase c.mark; phase = run })) (record c { cap = streamoff_after c.cap }))
capture_split c true w = capture_off_short c.kind (record c { cap = streamoff_after c.cap; mark = mark_after_restart c.phase c.mark; phase = run }) (cap_off c w)
capture_split c false w = cap_still c w

off_short : (c : Context) (side : Side) → IsShort c → IsShort (streamoff_effect c side)
off_short c Out w =
    output_off_short c.kind (record c { out = streamoff_after c.out; mark = None; phase = without_drain_stop c.phase }) (out_off c w)
off_short c Cap w = capture_split c c.cap.streams w

streamoff_short : (c : Context) (side : Side) → IsShort c → SlotShort (streamoff_answer c side).slot
streamoff_short c side w =
    either (is_none c.running) (answered (streamoff_effect c side) Done) (unchanged c Blocked) (then_settled (streamoff_effect c side) (off_short c side w)) (here c w)

-- what does not touch the queues
with_events : (c : Context) (events : EventState) → IsShort c → IsShort (record c { events = events })
unfolding IsShort
with_events c events w = w

with_mark : (c : Context) (mark : Option ℕ) → IsShort c → IsShort (record c { mark = mark })
unfolding IsShort
with_mark c mark w = w

with_phase : (c : Context) (phase : PhaseState) → IsShort c → IsShort (record c { phase = phase })
unfolding IsShort
with_phase c phase w = w

with_rates : (c : Context) (rates : RunRates) → IsShort c → IsShort (record c { rates = rates })
unfolding IsShort
with_rates c rates w = w

events_short : (c : Context) (o : Option Errno) (events : EventState) (reply : Reply) → IsShort c → SlotShort (unless c o (answered (record c { events = events }) reply)).slot
events_short c o events reply w =
    unless_short c o (answered (record c { events = events }) reply) w (then_settled (record c { events = events }) (with_events c events w))

taken_event_short : (c : Context) (o : Option Errno) (block : Bool) (events : EventState) (reply : Reply) → IsShort c → SlotShort (unless_or_block c o block (answered (record c { events = events }) reply)).slot
taken_event_short c o block events reply w =
    block_short c o block (answered (record c { events = events }) reply) w (then_settled (record c { events = events }) (with_events c events w))

stop_answer_short : (c : Context) → IsShort c → SlotShort (stop_answer c).slot
stop_answer_short c w =
    let x = record c { mark = Some c.out.next_ordinal } in
    either (not (both_stream c)) (unchanged c Done) _ (here c w)
    (either (is_some c.mark) (refused c Busy) _ (here c w)
    (either (is_stopped_by_drain c.phase) (unchanged c Done) (answered x Done) (here c w) (then_settled x (with_mark c (Some c.out.next_ordinal) w))))

start_short : (c : Context) → IsShort c → SlotShort (start_answer c).slot
start_short c w =
    let x = record c { phase = run } in
    either (not (both_stream c)) (unchanged c Done) _ (here c w)
    (either (start_is_early c.phase c.mark) (refused c Busy) _ (here c w)
    (either (not (long_enough c.cap (sizeimage c Cap))) (refused c Inval) (answered x Done) (here c w) (then_settled x (with_phase c run w))))

command_short : (c : Context) (cmd : ℕ) → IsShort c → SlotShort (command_answer c cmd).slot
command_short c cmd w =
    either (cmd == 0) (start_answer c) _ (start_short c w) (either (cmd == 1) (stop_answer c) (refused c Inval) (stop_answer_short c w) (here c w))

value_short : (c : Context) (o : Option ℕ) → IsShort c → SlotShort (value_answer c o).slot
value_short c None w = here c w
value_short c (Some v) w = here c w

control_short : (c : Context) (o : Option RunRates) → IsShort c → SlotShort (control_answer c o).slot
control_short c None w = here c w
control_short c (Some rates) w = then_settled (record c { rates = rates }) (with_rates c rates w)

context_short : (c : Context) (request : Call) (bytes : List ℕ) (found : Bool) → is_few bytes ≡ true → IsShort c → SlotShort (context_answer c request bytes found).slot
unfolding context_answer SlotShort
context_short c (Open kind) bytes found n w = w
context_short c Close bytes found n w =
    either (is_none c.running) (record { slot = None; reply = Done; bytes = [] }) (unchanged c Blocked) tt w
context_short c (EnumFmt on index) bytes found n w = desc_short c _ w
context_short c (GetFmt on) bytes found n w = w
context_short c (TryFmt on want) bytes found n w = w
context_short c (SetFmt on want) bytes found n w = set_short c on want w
context_short c (ReqBufs on count) bytes found n w = reqbufs_short c on count found w
context_short c (CreateBufs on count length) bytes found n w = create_short c on count length found w
context_short c (QueryBuf on index) bytes found n w = query_short c _ w
context_short c (QBuf on index used stamp) bytes found n w = qbuf_short c on index used stamp bytes n w
context_short c (DqBuf from block) bytes found n w =
    block_short c (dqbuf_refusal (queue_of c from) (is_ended c from)) block (taken_answer c from (queue_of c from).done) w (take_slot c from (queue_of c from).done w)
context_short c (StreamOn on) bytes found n w = streamon_short c on w
context_short c (StreamOff on) bytes found n w = streamoff_short c on w
context_short c (Subscribe event) bytes found n w = events_short c _ _ Done w
context_short c (Unsubscribe event) bytes found n w = events_short c _ _ Done w
context_short c (DqEvent block) bytes found n w = taken_event_short c _ block _ _ w
context_short c (DecCmd cmd) bytes found n w =
    either (is_dec c.kind) (command_answer c cmd) (refused c NoTty) (command_short c cmd w) w
context_short c (EncCmd cmd) bytes found n w =
    either (is_enc c.kind) (command_answer c cmd) (refused c NoTty) (command_short c cmd w) w
context_short c (GetCtrl id) bytes found n w = value_short c _ w
context_short c (SetCtrl id value) bytes found n w = control_short c _ w
context_short c Poll bytes found n w = w

closed_short : (request : Call) (found : Bool) → SlotShort (closed_answer request found).slot
unfolding closed_answer SlotShort IsShort
closed_short (Open kind) true =
    record { out_side = refl; cap_side = refl; ready = refl; job = refl; cap_done = refl }
closed_short (Open kind) false = tt
closed_short request found = tt

answer_short : (s : Slot) (request : Call) (bytes : List ℕ) (found : Bool) → is_few bytes ≡ true → SlotShort s → SlotShort (answer s request bytes found).slot
unfolding answer SlotShort
answer_short None request bytes found n w = closed_short request found
answer_short (Some c) request bytes found n w = context_short c request bytes found n w

-- Claims

cap_claim_short : (o k : QueueState) (sort : RunSort) → AreShortQueues o k → AreShortQueues o (cap_after_claim sort k)
cap_claim_short o k copy w = lend_cap_short o k k.ready w
cap_claim_short o k encode w = lend_cap_short o k k.ready w
cap_claim_short o k decode w = lend_cap_short o k k.ready w
cap_claim_short o k probe w = w

claimed_short : (c : Context) (sort : RunSort) (ready : List Buffer) → IsShort c → IsShort (claim_front c sort ready)
unfolding IsShort
claimed_short c sort [] w = w
claimed_short c sort (b ∷ rest) w =
    lend_short c.out (cap_after_claim sort c.cap) c.out.ready refl (cap_claim_short c.out c.cap sort w)

claim_step_short : (s : Slot) (b : Bool) → SlotShort s → SlotShort (claim_step s b).slot
unfolding SlotShort after_claim
claim_step_short None b w = tt
claim_step_short (Some c) true w = claimed_short c (sort_of c.kind c.geometry) c.out.ready w
claim_step_short (Some c) false w = w

-- Finishes: the job's data are of a context with these buffers of OUTPUT in the job

abbrev IsSource : Context → JobData → Type 0
IsSource c j = j.source ≡ source_of c.out.job

done_short : (c : Context) (j : JobData) (flags : ℕ) → IsShort c → IsShort (source_done c j flags)
unfolding IsShort
done_short c j flags w = retire_short c.out c.cap c.out.job j.source.used j.source.bytes flags j.source.stamp refl w

back_short : (c : Context) (j : JobData) (cursor : ℕ) → IsSource c j → IsShort c → IsShort (source_back c j cursor)
unfolding IsShort
back_short c j cursor s w =
    subst (λ b. AreShortQueues (give_back_after c.out cursor b.bytes) c.cap) (sym s) (give_back_short c.out c.cap c.out.job cursor refl w)

moved_short : (c : Context) (j : JobData) (cursor : ℕ) (b : Bool) → IsSource c j → IsShort c → IsShort (source_moved c j cursor b)
moved_short c j cursor true s w = done_short c j 0 w
moved_short c j cursor false s w = back_short c j cursor s w

dest_split_short :
    (c : Context) (bytes : List ℕ) (flags : ℕ) (stamp : Stamp) (b : Bool) → is_few bytes ≡ true → IsShort c
    → IsShort
    (cond b (raise_end drain (record c { cap = retire_after c.cap (length bytes) bytes (flags + last_flag) stamp; phase = last drain }))
    (record c { cap = retire_after c.cap (length bytes) bytes flags stamp }))
unfolding IsShort
dest_split_short c bytes flags stamp true h w =
    raised_short drain (record c { cap = retire_after c.cap (length bytes) bytes (flags + last_flag) stamp; phase = last drain })
    (retire_cap_short c.out c.cap c.cap.job bytes (flags + last_flag) stamp h w)
dest_split_short c bytes flags stamp false h w = retire_cap_short c.out c.cap c.cap.job bytes flags stamp h w

dest_short :
    (c : Context) (dest : List Buffer) (used_up : Bool) (bytes : List ℕ) (flags : ℕ) (stamp : Stamp) → is_few bytes ≡ true → IsShort c
    → IsShort (dest_done c dest used_up (length bytes) bytes flags stamp)
dest_short c [] used_up bytes flags stamp h w = w
dest_short c (b ∷ rest) used_up bytes flags stamp h w =
    dest_split_short c bytes flags stamp (used_up && is_drained c.out.ready c.mark) h w

dest_back_short : (c : Context) (dest : List Buffer) → IsShort c → IsShort (dest_back c dest)
unfolding IsShort
dest_back_short c [] w = w
dest_back_short c (b ∷ rest) w = give_back_cap_short c.out c.cap c.cap.job 0 [] w

changed_short :
    (y : Context) (geometry : Option Geometry) (formats : FormatPair) (events : EventState) (b : Bool) → IsShort y
    → IsShort (cond b (record y { geometry = geometry; formats = formats; events = events; phase = owe change }) (record y { geometry = geometry; formats = formats; events = events }))
unfolding IsShort
changed_short y geometry formats events true w = w
changed_short y geometry formats events false w = w

decoded_short :
    (c : Context) (j : JobData) (cursor : ℕ) (result : DecodedResult) → IsSource c j → is_few (outcome_bytes result) ≡ true → IsShort c
    → IsShort (decoded_effect c j cursor result)
decoded_short c j cursor (picture bytes key stamp) s h w =
    let up = cursor == j.source.used in
    dest_short (source_moved c j cursor up) j.dest up bytes (type_flag key) stamp h (moved_short c j cursor up s w)
decoded_short c j cursor (damaged stamp) s h w =
    let up = cursor == j.source.used in
    dest_short (source_moved c j cursor up) j.dest up [] error_flag stamp refl (moved_short c j cursor up s w)
decoded_short c j cursor (changed geometry) s h w =
    let y = dest_back (source_back c j cursor) j.dest in
    changed_short y (Some geometry) _ _ y.cap.streams (dest_back_short (source_back c j cursor) j.dest (back_short c j cursor s w))
decoded_short c j cursor spent s h w = dest_back_short (source_done c j 0) j.dest (done_short c j 0 w)

with_codec : (c : Context) (codec : CodecState) → IsShort c → IsShort (record c { codec = codec })
unfolding IsShort
with_codec c codec w = w

-- the bytes that a run gives, those of a copy too
abbrev given_bytes : Fourcc → RunResult → List ℕ
given_bytes fourcc (copied bytes) = bytes
given_bytes fourcc (encoded frame) = frame.bytes
given_bytes fourcc (decoded step) = outcome_bytes (step_outcome fourcc step)

run_short : (c : Context) (j : JobData) (result : RunResult) → IsSource c j → is_few (given_bytes j.format.fourcc result) ≡ true → IsShort c → IsShort (run_effect c j result)
run_short c j (copied bytes) s h w = dest_short (source_done c j 0) j.dest true bytes 0 j.source.stamp h (done_short c j 0 w)
run_short c j (encoded frame) s h w =
    let x = record c { codec = encoder frame.state } in
    dest_short (source_done x j 0) j.dest true frame.bytes (type_flag frame.key) j.source.stamp h (done_short x j 0 (with_codec c (encoder frame.state) w))
run_short c j (decoded step) s h w =
    decoded_short (record c { codec = decoder step.state }) j (j.source.cursor + step.moved) (step_outcome j.format.fourcc step) s h
    (with_codec c (decoder step.state) w)

-- what a copy gives is short as its source is, and what the codec gives by the premise
taken_fewer : (n : ℕ) (bytes : List ℕ) → length (take n bytes) ≤ length bytes
taken_fewer zero bytes = omega arith
taken_fewer (suc n) [] = omega arith
taken_fewer (suc n) (b ∷ bytes) = let h = taken_fewer n bytes in omega arith

few_taken : (n : ℕ) (bytes : List ℕ) → is_few bytes ≡ true → is_few (take n bytes) ≡ true
few_taken n bytes h =
    let all = leb-true (length bytes) longest_buffer h in
    let less = taken_fewer n bytes in
    le-leb (length (take n bytes)) longest_buffer (omega arith)

few_encoded :
    (coder : Coder) (j : JobData) (codec : CodecState) → length (coded_bytes j.format.fourcc (encode_run coder j codec)) ≤ longest_buffer
    → is_few (given_bytes j.format.fourcc (encode_run coder j codec)) ≡ true
few_encoded coder j (encoder state) h = le-leb (length (coder.encode state j.format j.rates j.source.bytes).bytes) longest_buffer h
few_encoded coder j no_codec h = refl
few_encoded coder j (decoder state) h = refl

few_decoded :
    (coder : Coder) (j : JobData) (codec : CodecState) → length (coded_bytes j.format.fourcc (decode_run coder j codec)) ≤ longest_buffer
    → is_few (given_bytes j.format.fourcc (decode_run coder j codec)) ≡ true
few_decoded coder j (decoder state) h =
    let step = coder.decode state j.geometry j.limit (drop j.source.cursor j.source.bytes) j.source.stamp in
    le-leb (length (outcome_bytes (step_outcome j.format.fourcc step))) longest_buffer h
few_decoded coder j no_codec h = refl
few_decoded coder j (encoder state) h = refl

few_given :
    (coder : Coder) (j : JobData) (sort : RunSort) → is_few j.source.bytes ≡ true → length (coded_bytes j.format.fourcc (run_of coder j sort)) ≤ longest_buffer
    → is_few (given_bytes j.format.fourcc (run_of coder j sort)) ≡ true
few_given coder j copy s h = few_taken (min j.source.used (dest_size j.dest)) j.source.bytes s
few_given coder j encode s h = few_encoded coder j j.codec h
few_given coder j decode s h = few_decoded coder j j.codec h
few_given coder j probe s h = few_decoded coder j j.codec h

few_source : (bs : List Buffer) → list_all is_short bs ≡ true → is_few (source_of bs).bytes ≡ true
few_source [] h = refl
few_source (b ∷ bs) h = and_left (is_short b) (list_all is_short bs) h

fault_short : (c : Context) (j : JobData) → IsShort c → IsShort (fault_effect c j)
fault_short c j w =
    let x = record c { codec = reset c.codec } in
    dest_short (source_done x j error_flag) j.dest true [] error_flag j.source.stamp refl (done_short x j error_flag (with_codec c (reset c.codec) w))

without_running : (c : Context) → IsShort c → IsShort (record c { running = None })
unfolding IsShort
without_running c w = w

-- the run of this job gives no more bytes than the longest buffer has
abbrev IsShortRun : Coder → Context → Running → Type 0
IsShortRun coder c r = length (coded_bytes r.format.fourcc (run_result coder (job_data c r))) ≤ longest_buffer

finish_short : (coder : Coder) (c : Context) (r : Running) (fault : Bool) → IsShortRun coder c r → IsShort c → IsShort (after_finish coder c r fault)
unfolding after_finish run_result IsShort
finish_short coder c r true h w =
    let x = record c { running = None } in settle_short (fault_effect x (job_data c r)) (fault_short x (job_data c r) (without_running c w))
finish_short coder c r false h w =
    let x = record c { running = None } in
    let j = job_data c r in
    settle_short (run_effect x j (run_result coder j)) (run_short x j (run_result coder j) refl (few_given coder j r.sort (few_source c.out.job w.job) h) (without_running c w))

finish_job_short :
    (coder : Coder) (c : Context) (o : Option Running) (fault : Bool) → ((r : Running) → o ≡ Some r → IsShortRun coder c r) → IsShort c
    → SlotShort (solo_finish coder c o fault).slot
unfolding SlotShort
finish_job_short coder c None fault h w = w
finish_job_short coder c (Some r) fault h w = finish_short coder c r fault (h r refl) w

-- Steps and runs

-- from here on no run of the codec gives more bytes than the longest buffer has
abbrev AreShortFrom : Coder → Slot → Type 0
AreShortFrom coder s = (events : List SoloEvent) (c : Context) (r : Running) → solo_slot coder s events ≡ Some c → c.running ≡ Some r → IsShortRun coder c r

finish_step_short : (coder : Coder) (s : Slot) (fault : Bool) → AreShortFrom coder s → SlotShort s → SlotShort (finish_step coder s fault).slot
unfolding SlotShort
finish_step_short coder None fault h w = tt
finish_step_short coder (Some c) fault h w = finish_job_short coder c c.running fault (λ r e. h [] c r refl e) w

-- what a call brings is short
abbrev pub IsShortEvent : SoloEvent → Type 0
IsShortEvent (Called request bytes found) = is_few bytes ≡ true
IsShortEvent Claims = Unit {0}
IsShortEvent (Finishes fault) = Unit {0}

abbrev pub AreShortEvents : List SoloEvent → Type 0
AreShortEvents [] = Unit {0}
AreShortEvents (e ∷ es) = IsShortEvent e × AreShortEvents es

step_short : (coder : Coder) (s : Slot) (e : SoloEvent) → IsShortEvent e → AreShortFrom coder s → SlotShort s → SlotShort (solo_step coder s e).slot
unfolding solo_step
step_short coder s (Called request bytes found) n h w = answer_short s request bytes found n w
step_short coder s Claims n h w = claim_step_short s (is_claimable s) w
step_short coder s (Finishes fault) n h w = finish_step_short coder s fault h w

run_short_slot : (coder : Coder) (s : Slot) (es : List SoloEvent) → AreShortEvents es → AreShortFrom coder s → SlotShort s → SlotShort (solo_slot coder s es)
run_short_slot coder s [] n h w = w
run_short_slot coder s (e ∷ es) n h w =
    run_short_slot coder (solo_step coder s e).slot es n.1 (λ events. h (e ∷ events)) (step_short coder s e n.0 h w)

-- What is handed out

none_taken : (request : Call) → is_few (taken_bytes request []) ≡ true
none_taken (DqBuf Out block) = refl
none_taken (DqBuf Cap block) = refl
none_taken request = refl

front_few : (b : Buffer) (rest : List Buffer) (c : Context) → c.cap.done ≡ b ∷ rest → IsShort c → is_few b.bytes ≡ true
unfolding IsShort
front_few b rest c e w = and_left (is_short b) (list_all is_short rest) (subst (λ l. list_all is_short l ≡ true) e w.cap_done)

take_few : (c : Context) (side : Side) (block : Bool) (ds : List Buffer) → (queue_of c side).done ≡ ds → IsShort c → is_few (taken_bytes (DqBuf side block) (taken_answer c side ds).bytes) ≡ true
take_few c side block [] e w = none_taken (DqBuf side block)
take_few c Out block (b ∷ rest) e w = refl
take_few c Cap block (b ∷ rest) e w = front_few b rest c e w

block_few :
    (c : Context) (request : Call) (o : Option Errno) (block : Bool) (a : Answer) → is_few (taken_bytes request a.bytes) ≡ true
    → is_few (taken_bytes request (unless_or_block c o block a).bytes) ≡ true
block_few c request None block a h = h
block_few c request (Some Again) true a h = none_taken request
block_few c request (Some Again) false a h = none_taken request
block_few c request (Some NoEnt) true a h = none_taken request
block_few c request (Some NoEnt) false a h = none_taken request
block_few c request (Some NoMem) block a h = none_taken request
block_few c request (Some Busy) block a h = none_taken request
block_few c request (Some Inval) block a h = none_taken request
block_few c request (Some NoTty) block a h = none_taken request
block_few c request (Some Pipe) block a h = none_taken request

context_few : (c : Context) (request : Call) (bytes : List ℕ) (found : Bool) → IsShort c → is_few (taken_bytes request (context_answer c request bytes found).bytes) ≡ true
unfolding context_answer
context_few c (DqBuf side block) bytes found w =
    block_few c (DqBuf side block) (dqbuf_refusal (queue_of c side) (is_ended c side)) block (taken_answer c side (queue_of c side).done)
    (take_few c side block (queue_of c side).done refl w)
context_few c request bytes found w = refl

closed_few : (request : Call) (found : Bool) → is_few (taken_bytes request (closed_answer request found).bytes) ≡ true
unfolding closed_answer
closed_few (DqBuf side block) found = none_taken (DqBuf side block)
closed_few (Open kind) true = refl
closed_few (Open kind) false = refl
closed_few request found = refl

answer_few : (s : Slot) (request : Call) (bytes : List ℕ) (found : Bool) → SlotShort s → is_few (taken_bytes request (answer s request bytes found).bytes) ≡ true
unfolding answer SlotShort
answer_few None request bytes found w = closed_few request found
answer_few (Some c) request bytes found w = context_few c request bytes found w

pub handed_are_few :
    (coder : Coder) (events : List SoloEvent) (request : Call) (bytes : List ℕ) (found : Bool) → RunsAreShort coder → AreShortEvents events
    → is_few (taken_bytes request (answer (solo_slot coder None events) request bytes found).bytes) ≡ true
unfolding SlotShort
handed_are_few coder events request bytes found h n =
    answer_few (solo_slot coder None events) request bytes found (run_short_slot coder None events n h tt)
