-- What DqBuf hands out has as many bytes as it says, and each OUTPUT buffer that waits for a run has all its bytes. A
-- buffer is queued with its bytes, a run puts bytes and their number together, and an empty LAST buffer has neither.
use Rattle.std.proofs.Common.{ℕ, ◌≡◌, ◌+◌, ◌==◌, Bool, true, false, not, cond, ◌&&◌, is_none, is_some, Option, Some, None, List, [], ◌∷◌, ◌++◌, length, refl, sym, ap, ◌∙◌, subst, ◌⊎◌, inl, inr, ⊎_elim}
use Rattle.vc_base.specs.declared.Stamp.{Stamp}
use Rattle.vc_base.specs.declared.Side.{Side}
use Rattle.vc_base.specs.declared.Side.TheVariants.{Out, Cap}
use Rattle.vc_base.specs.declared.Kind.{Kind}
use Rattle.vc_base.specs.declared.Kind.TheVariants.{Copy, Enc, Dec}
use Rattle.vc_base.specs.declared.Fourcc.{Fourcc}
use Rattle.vc_base.specs.declared.Format.{Format}
use Rattle.vc_base.specs.declared.Errno.{Errno}
use Rattle.vc_base.specs.declared.Errno.TheVariants.{NoEnt, Again, NoMem, Busy, Inval, NoTty, Pipe}
use Rattle.vc_base.specs.declared.Call.{Call}
use Rattle.vc_base.specs.declared.Call.TheVariants.{Open, Close, EnumFmt, GetFmt, TryFmt, SetFmt, ReqBufs, CreateBufs, QueryBuf, QBuf, DqBuf, StreamOn, StreamOff, Subscribe, Unsubscribe, DqEvent, DecCmd, EncCmd, GetCtrl, SetCtrl, Poll}
use Rattle.vc_base.specs.declared.Reply.{Reply}
use Rattle.vc_base.specs.declared.Reply.TheVariants.{Done, Created, Blocked}
use Rattle.vc_base.specs.Buffers.{Buffer, QueueState, buffer_count, is_empty, refuse_if, with_index, queued_buffer, queue_held, held_refusal, take_front}
use Rattle.vc_base.specs.Buffers.{long_enough, reqbufs_after, create_refusal, create_after, created, qbuf_after, dqbuf_after, streamon_refusal, streamon_after}
use Rattle.vc_base.specs.Buffers.{streamoff_after, dqbuf_refusal, lend_front, lend_after, give_back_from, give_back_after, retire_from, retire_after}
use Rattle.vc_base.specs.Buffers.{zero_stamp, known_bytes}
use Rattle.vc_base.specs.Limits.{last_flag, error_flag}
use Rattle.vc_base.specs.Events.{EventState}
use Rattle.vc_defs.specs.declared.Geometry.{Geometry}
use Rattle.vc_model.specs.Formats.{FormatPair}
use Rattle.vc_model.specs.Coder.{Coder, CodecState, encoder, decoder, reset}
use Rattle.vc_defs.specs.Decoder.{DecodedResult, picture, damaged, changed, spent, step_outcome}
use Rattle.vc_defs.specs.Encoder.{RunRates}
use Rattle.vc_model.specs.Context.{Context, Slot, Running, RunSort, copy, encode, decode, probe, Cause, drain, change, PhaseState, run, owe, last, stopped}
use Rattle.vc_model.specs.Context.{queue_of, with_queue, is_dec, is_enc, is_drained, sizeimage, raise_end, settle, settle_drain, settle_last, give_last}
use Rattle.vc_model.specs.Answer.{Answer, unchanged, refused, answered, unless, if_found, unless_or_block, desc_answer, set_answer, set_refusal}
use Rattle.vc_model.specs.Answer.{after_new_format, reqbufs_answer, after_new_buffers, create_answer, query_answer, qbuf_answer, is_no_whole_picture}
use Rattle.vc_model.specs.Answer.{taken_answer, after_taking, stop_at_last, is_ended, streamon_answer, streamoff_answer, streamoff_effect, without_drain_stop}
use Rattle.vc_model.specs.Answer.{after_output_off, mark_after_restart, after_capture_off, both_stream, stop_answer, start_is_early, start_answer}
use Rattle.vc_model.specs.Answer.{command_answer, value_answer, control_answer, context_answer, closed_answer, answer}
use Rattle.vc_model.specs.Phases.{is_stopped_by_drain}
use Rattle.vc_model.specs.Runs.{is_claimable, sort_of, cap_after_claim, claim_front, after_claim, JobData, job_data, RunResult, copied, encoded, decoded}
use Rattle.vc_model.specs.Runs.{run_result, source_done, source_back, dest_done, dest_back, type_flag, source_moved, decoded_effect, run_effect, fault_effect}
use Rattle.vc_model.specs.Runs.{after_finish}
use Rattle.vc_model.specs.Solo.{SoloEvent, Called, Claims, Finishes, solo_step, solo_run, solo_slot, claim_step, solo_finish, finish_step}
use Rattle.std.specs.List.{list_all}
use Rattle.std.proofs.lemmas.Bool.{eq-eqb}
use Rattle.std.proofs.lemmas.List.Folds.{list_all-append}
use Rattle.vc_model.specs.Runs.{source_of}
use Rattle.vc_model.specs.Places.{is_honest_call, is_honest, AreHonest, is_whole, is_whole_reply, hands_whole, HandsWhole, HaveBytes, SourcesAreWhole}
use Rattle.vc_model.proofs.PartsOfTests.{and_left, and_right, and_both}

-- an OUTPUT buffer that was queued has all its bytes
abbrev has_bytes : Buffer → Bool
has_bytes b = length b.bytes == b.used

abbrev is_whole_out : Buffer → Bool
is_whole_out b = is_whole Out b.flags b.used b.bytes

-- Two queues whose buffers have their bytes.
record AreWhole (o k : QueueState) : Type 0 where
  pub out_side : o.side ≡ Out
  pub cap_side : k.side ≡ Cap
  pub ready : list_all has_bytes o.ready ≡ true
  pub job : list_all has_bytes o.job ≡ true
  pub out_done : list_all is_whole_out o.done ≡ true
  pub cap_done : list_all has_bytes k.done ≡ true

all_end : (t : Buffer → Bool) (bs : List Buffer) (x : Buffer) → list_all t bs ≡ true → t x ≡ true → list_all t (bs ++ x ∷ []) ≡ true
all_end t bs x h e =
    list_all-append t bs (x ∷ []) ∙ (ap (λ b. b && (t x && true)) h ∙ ap (λ b. b && true) e)

-- OUTPUT

lend_whole : (o k : QueueState) (ready : List Buffer) → o.ready ≡ ready → AreWhole o k → AreWhole (lend_front o ready) k
lend_whole o k [] e w = w
lend_whole o k (b ∷ rest) e w =
    let all = subst (λ l. list_all has_bytes l ≡ true) e w.ready in
    record {
      out_side = w.out_side;
      cap_side = w.cap_side;
      ready = and_right (has_bytes b) (list_all has_bytes rest) all;
      job = and_both (has_bytes b) true (and_left (has_bytes b) (list_all has_bytes rest) all) refl;
      out_done = w.out_done;
      cap_done = w.cap_done;
    }

-- the source goes to done with its bytes, or with ERROR
retire_whole : (o k : QueueState) (job : List Buffer) (flags : ℕ) → o.job ≡ job → (flags ≡ 0) ⊎ (flags ≡ error_flag) → AreWhole o k → AreWhole (retire_from o job (source_of job).used (source_of job).bytes flags (source_of job).stamp) k
retire_whole o k [] flags e f w = w
retire_whole o k (b ∷ bs) flags e f w =
    let all = subst (λ l. list_all has_bytes l ≡ true) e w.job in
    let mine = and_left (has_bytes b) (list_all has_bytes bs) all in
    let x : Buffer = record b { bytes = known_bytes o.side flags b.bytes; flags = flags; seq = o.next_seq } in
    record {
      out_side = w.out_side;
      cap_side = w.cap_side;
      ready = w.ready;
      job = refl;
      out_done =
          all_end is_whole_out o.done x w.out_done
          (ap (λ side. is_whole Out flags b.used (known_bytes side flags b.bytes)) w.out_side
          ∙ ⊎_elim (λ (z : flags ≡ 0). subst (λ n. is_whole Out n b.used (known_bytes Out n b.bytes) ≡ true) (sym z) mine)
          (λ (z : flags ≡ error_flag). subst (λ n. is_whole Out n b.used (known_bytes Out n b.bytes) ≡ true) (sym z) refl) f);
      cap_done = w.cap_done;
    }

give_back_whole : (o k : QueueState) (job : List Buffer) (cursor : ℕ) → o.job ≡ job → AreWhole o k → AreWhole (give_back_from o job cursor (source_of job).bytes) k
give_back_whole o k [] cursor e w = w
give_back_whole o k (b ∷ bs) cursor e w =
    let all = subst (λ l. list_all has_bytes l ≡ true) e w.job in
    record {
      out_side = w.out_side;
      cap_side = w.cap_side;
      ready = and_both (has_bytes b) (list_all has_bytes o.ready) (and_left (has_bytes b) (list_all has_bytes bs) all) w.ready;
      job = refl;
      out_done = w.out_done;
      cap_done = w.cap_done;
    }

queue_out_whole : (o k : QueueState) (index used : ℕ) (stamp : Stamp) (bytes : List ℕ) (found : Option Buffer) → (length bytes == used) ≡ true → AreWhole o k → AreWhole (queue_held o index found used stamp bytes) k
queue_out_whole o k index used stamp bytes None h w = w
queue_out_whole o k index used stamp bytes (Some b) h w =
    let x = queued_buffer o.side b used stamp bytes o.next_ordinal in
    record {
      out_side = w.out_side;
      cap_side = w.cap_side;
      ready = all_end has_bytes o.ready x w.ready (ap (λ side. has_bytes (queued_buffer side b used stamp bytes o.next_ordinal)) w.out_side ∙ h);
      job = w.job;
      out_done = w.out_done;
      cap_done = w.cap_done;
    }

-- CAPTURE

queue_cap_whole : (o k : QueueState) (index used : ℕ) (stamp : Stamp) (bytes : List ℕ) (found : Option Buffer) → AreWhole o k → AreWhole o (queue_held k index found used stamp bytes)
queue_cap_whole o k index used stamp bytes None w = w
queue_cap_whole o k index used stamp bytes (Some b) w =
    record {
      out_side = w.out_side;
      cap_side = w.cap_side;
      ready = w.ready;
      job = w.job;
      out_done = w.out_done;
      cap_done = w.cap_done;
    }

lend_cap_whole : (o k : QueueState) (ready : List Buffer) → AreWhole o k → AreWhole o (lend_front k ready)
lend_cap_whole o k [] w = w
lend_cap_whole o k (b ∷ rest) w =
    record {
      out_side = w.out_side;
      cap_side = w.cap_side;
      ready = w.ready;
      job = w.job;
      out_done = w.out_done;
      cap_done = w.cap_done;
    }

retire_cap_whole : (o k : QueueState) (job : List Buffer) (bytes : List ℕ) (flags : ℕ) (stamp : Stamp) → AreWhole o k → AreWhole o (retire_from k job (length bytes) bytes flags stamp)
retire_cap_whole o k [] bytes flags stamp w = w
retire_cap_whole o k (b ∷ bs) bytes flags stamp w =
    let x : Buffer = record b { used = length bytes; bytes = known_bytes k.side flags bytes; flags = flags; stamp = stamp; seq = k.next_seq } in
    record {
      out_side = w.out_side;
      cap_side = w.cap_side;
      ready = w.ready;
      job = w.job;
      out_done = w.out_done;
      cap_done = all_end has_bytes k.done x w.cap_done (ap (λ side. length (known_bytes side flags bytes) == length bytes) w.cap_side ∙ eq-eqb (length bytes) (length bytes) refl);
    }

give_back_cap_whole : (o k : QueueState) (job : List Buffer) (cursor : ℕ) (bytes : List ℕ) → AreWhole o k → AreWhole o (give_back_from k job cursor bytes)
give_back_cap_whole o k [] cursor bytes w = w
give_back_cap_whole o k (b ∷ bs) cursor bytes w =
    record {
      out_side = w.out_side;
      cap_side = w.cap_side;
      ready = w.ready;
      job = w.job;
      out_done = w.out_done;
      cap_done = w.cap_done;
    }

-- Settling

IsWhole : Context → Type 0
IsWhole c = AreWhole c.out c.cap

raised_whole : (cause : Cause) (c : Context) → IsWhole c → IsWhole (raise_end cause c)
unfolding IsWhole
raised_whole drain c w = w
raised_whole change c w = w

given_whole : (c : Context) (cause : Cause) (ready : List Buffer) → IsWhole c → IsWhole (give_last c cause ready)
unfolding IsWhole
given_whole c cause [] w = w
given_whole c cause (b ∷ rest) w =
    raised_whole cause (record c { cap = retire_after (lend_after c.cap) 0 [] last_flag zero_stamp; phase = last cause })
    (retire_cap_whole c.out (lend_after c.cap) (lend_after c.cap).job [] last_flag zero_stamp (lend_cap_whole c.out c.cap c.cap.ready w))

owed_whole : (c : Context) (phase : PhaseState) → IsWhole c → IsWhole (settle_last c phase)
owed_whole c run w = w
owed_whole c (owe cause) w = given_whole c cause c.cap.ready w
owed_whole c (last cause) w = w
owed_whole c (stopped cause) w = w

drained_whole : (c : Context) (b : Bool) → IsWhole c → IsWhole (cond b (record c { phase = owe drain }) c)
unfolding IsWhole
drained_whole c true w = w
drained_whole c false w = w

settle_whole : (c : Context) → IsWhole c → IsWhole (settle c)
unfolding settle
settle_whole c w = let d = settle_drain c in owed_whole d d.phase (drained_whole c _ w)

-- Answers

SlotWhole : Slot → Type 0
SlotWhole None = Unit {0}
SlotWhole (Some c) = IsWhole c

here : (c : Context) → IsWhole c → SlotWhole (Some c)
unfolding SlotWhole
here c w = w

then_settled : (x : Context) → IsWhole x → SlotWhole (Some (settle x))
unfolding SlotWhole
then_settled x w = settle_whole x w

unless_whole : (c : Context) (o : Option Errno) (a : Answer) → IsWhole c → SlotWhole a.slot → SlotWhole (unless c o a).slot
unless_whole c None a w h = h
unless_whole c (Some e) a w h = here c w

found_whole : (c : Context) (found : Bool) (a : Answer) → IsWhole c → SlotWhole a.slot → SlotWhole (if_found c found a).slot
found_whole c true a w h = h
found_whole c false a w h = here c w

block_whole : (c : Context) (o : Option Errno) (block : Bool) (a : Answer) → IsWhole c → SlotWhole a.slot → SlotWhole (unless_or_block c o block a).slot
block_whole c None block a w h = h
block_whole c (Some Again) true a w h = here c w
block_whole c (Some Again) false a w h = here c w
block_whole c (Some NoEnt) true a w h = here c w
block_whole c (Some NoEnt) false a w h = here c w
block_whole c (Some NoMem) block a w h = here c w
block_whole c (Some Busy) block a w h = here c w
block_whole c (Some Inval) block a w h = here c w
block_whole c (Some NoTty) block a w h = here c w
block_whole c (Some Pipe) block a w h = here c w

either : (b : Bool) (a d : Answer) → SlotWhole a.slot → SlotWhole d.slot → SlotWhole (cond b a d).slot
either true a d n m = n
either false a d n m = m

desc_whole : (c : Context) (o : Option Fourcc) → IsWhole c → SlotWhole (desc_answer c o).slot
desc_whole c None w = here c w
desc_whole c (Some f) w = here c w

new_format_whole : (kind : Kind) (side : Side) (x : Context) → IsWhole x → IsWhole (after_new_format kind side x)
unfolding IsWhole
new_format_whole Copy side x w = w
new_format_whole Enc Out x w = w
new_format_whole Enc Cap x w = w
new_format_whole Dec Out x w = w
new_format_whole Dec Cap x w = w

with_formats : (c : Context) (formats : FormatPair) → IsWhole c → IsWhole (record c { formats = formats })
unfolding IsWhole
with_formats c formats w = w

set_whole : (c : Context) (side : Side) (want : Format) → IsWhole c → SlotWhole (set_answer c side want).slot
set_whole c side want w =
    unless_whole c (set_refusal c side) _ w (then_settled _ (new_format_whole c.kind side _ (with_formats c _ w)))

new_buffers_whole : (kind : Kind) (side : Side) (x : Context) → IsWhole x → IsWhole (after_new_buffers kind side x)
unfolding IsWhole
new_buffers_whole Copy side x w = w
new_buffers_whole Enc Out x w = w
new_buffers_whole Enc Cap x w = w
new_buffers_whole Dec Out x w = w
new_buffers_whole Dec Cap x w = w

-- OUTPUT, or CAPTURE, with its buffers held alone
out_emptied : (o k q : QueueState) → q.side ≡ o.side → q.ready ≡ [] → q.job ≡ [] → q.done ≡ [] → AreWhole o k → AreWhole q k
out_emptied o k q s r j d w =
    record {
      out_side = s ∙ w.out_side;
      cap_side = w.cap_side;
      ready = ap (λ l. list_all has_bytes l) r;
      job = ap (λ l. list_all has_bytes l) j;
      out_done = ap (λ l. list_all is_whole_out l) d;
      cap_done = w.cap_done;
    }

cap_emptied : (o k q : QueueState) → q.side ≡ k.side → q.done ≡ [] → AreWhole o k → AreWhole o q
cap_emptied o k q s d w =
    record {
      out_side = w.out_side;
      cap_side = s ∙ w.cap_side;
      ready = w.ready;
      job = w.job;
      out_done = w.out_done;
      cap_done = ap (λ l. list_all has_bytes l) d;
    }

dropped_whole : (c : Context) (side : Side) (count size : ℕ) → IsWhole c → IsWhole (with_queue c side (reqbufs_after (queue_of c side) count size))
unfolding IsWhole
dropped_whole c Out count size w = out_emptied c.out c.cap (reqbufs_after c.out count size) refl refl refl refl w
dropped_whole c Cap count size w = cap_emptied c.out c.cap (reqbufs_after c.cap count size) refl refl w

reqbufs_whole : (c : Context) (side : Side) (count : ℕ) (found : Bool) → IsWhole c → SlotWhole (reqbufs_answer c side count found).slot
reqbufs_whole c side count found w =
    let x = with_queue c side (reqbufs_after (queue_of c side) count (sizeimage c side)) in
    unless_whole c (refuse_if (queue_of c side).streams Busy None) _ w (found_whole c found _ w (then_settled (after_new_buffers c.kind side x) (new_buffers_whole c.kind side x (dropped_whole c side count (sizeimage c side) w))))

-- other fields of a queue
created_whole : (c : Context) (side : Side) (count size : ℕ) → IsWhole c → IsWhole (with_queue c side (create_after (queue_of c side) count size))
unfolding IsWhole
created_whole c Out count size w =
    record { out_side = w.out_side; cap_side = w.cap_side; ready = w.ready; job = w.job; out_done = w.out_done; cap_done = w.cap_done }
created_whole c Cap count size w =
    record { out_side = w.out_side; cap_side = w.cap_side; ready = w.ready; job = w.job; out_done = w.out_done; cap_done = w.cap_done }

create_whole : (c : Context) (side : Side) (count size : ℕ) (found : Bool) → IsWhole c → SlotWhole (create_answer c side count size found).slot
create_whole c side count size found w =
    let q = queue_of c side in
    let a = answered (with_queue c side (create_after q count size)) (Created (buffer_count q) (created q count)) in
    unless_whole c (create_refusal q count size) (if_found c found a) w (found_whole c found a w (then_settled (with_queue c side (create_after q count size)) (created_whole c side count size w)))

query_whole : (c : Context) (o : Option Reply) → IsWhole c → SlotWhole (query_answer c o).slot
query_whole c None w = here c w
query_whole c (Some reply) w = here c w

on_whole : (c : Context) (side : Side) → IsWhole c → IsWhole (with_queue c side (streamon_after (queue_of c side)))
unfolding IsWhole
on_whole c Out w =
    record { out_side = w.out_side; cap_side = w.cap_side; ready = w.ready; job = w.job; out_done = w.out_done; cap_done = w.cap_done }
on_whole c Cap w =
    record { out_side = w.out_side; cap_side = w.cap_side; ready = w.ready; job = w.job; out_done = w.out_done; cap_done = w.cap_done }

streamon_whole : (c : Context) (side : Side) → IsWhole c → SlotWhole (streamon_answer c side).slot
streamon_whole c side w =
    unless_whole c (streamon_refusal (queue_of c side) (sizeimage c side)) (answered (with_queue c side (streamon_after (queue_of c side))) Done) w (then_settled (with_queue c side (streamon_after (queue_of c side))) (on_whole c side w))

queued_whole :
    (c : Context) (side : Side) (index used : ℕ) (stamp : Stamp) (bytes : List ℕ) → is_honest_call (QBuf side index used stamp) bytes Done ≡ true
    → IsWhole c → IsWhole (with_queue c side (qbuf_after (queue_of c side) index used stamp bytes))
unfolding IsWhole
queued_whole c Out index used stamp bytes h w =
    queue_out_whole c.out c.cap index used stamp bytes (with_index index c.out.held) h w
queued_whole c Cap index used stamp bytes h w =
    queue_cap_whole c.out c.cap index used stamp bytes (with_index index c.cap.held) w

queue_split :
    (c x : Context) (side : Side) (index used : ℕ) (stamp : Stamp) (bytes : List ℕ) (o r : Option Errno)
    → is_honest_call (QBuf side index used stamp) bytes (unless c o (unless c r (answered x Done))).reply ≡ true → IsWhole c
    → (is_honest_call (QBuf side index used stamp) bytes Done ≡ true → IsWhole x) → SlotWhole (unless c o (unless c r (answered x Done))).slot
queue_split c x side index used stamp bytes (Some e) r n w h = here c w
queue_split c x side index used stamp bytes None (Some e) n w h = here c w
queue_split c x side index used stamp bytes None None n w h = then_settled x (h n)

qbuf_whole :
    (c : Context) (side : Side) (index used : ℕ) (stamp : Stamp) (bytes : List ℕ)
    → is_honest_call (QBuf side index used stamp) bytes (qbuf_answer c side index used stamp bytes).reply ≡ true → IsWhole c
    → SlotWhole (qbuf_answer c side index used stamp bytes).slot
qbuf_whole c side index used stamp bytes n w =
    let q = queue_of c side in
    queue_split c (with_queue c side (qbuf_after q index used stamp bytes)) side index used stamp bytes
    (held_refusal q.side (with_index index q.held) used (sizeimage c side)) (refuse_if (is_no_whole_picture c side used) Inval None) n w
    (λ h. queued_whole c side index used stamp bytes h w)

-- DqBuf
stop_whole : (x : Context) (p : PhaseState) (b : Bool) → IsWhole x → IsWhole (stop_at_last x p b)
unfolding IsWhole
stop_whole x run b w = w
stop_whole x (owe cause) b w = w
stop_whole x (last drain) true w = w
stop_whole x (last drain) false w = w
stop_whole x (last change) true w = w
stop_whole x (last change) false w = w
stop_whole x (stopped cause) b w = w

take_out_whole : (o k : QueueState) (ds : List Buffer) → o.done ≡ ds → AreWhole o k → AreWhole (take_front o ds) k
take_out_whole o k [] e w = w
take_out_whole o k (b ∷ rest) e w =
    record {
      out_side = w.out_side;
      cap_side = w.cap_side;
      ready = w.ready;
      job = w.job;
      out_done = and_right (is_whole_out b) (list_all is_whole_out rest) (subst (λ l. list_all is_whole_out l ≡ true) e w.out_done);
      cap_done = w.cap_done;
    }

take_cap_whole : (o k : QueueState) (ds : List Buffer) → k.done ≡ ds → AreWhole o k → AreWhole o (take_front k ds)
take_cap_whole o k [] e w = w
take_cap_whole o k (b ∷ rest) e w =
    record {
      out_side = w.out_side;
      cap_side = w.cap_side;
      ready = w.ready;
      job = w.job;
      out_done = w.out_done;
      cap_done = and_right (has_bytes b) (list_all has_bytes rest) (subst (λ l. list_all has_bytes l ≡ true) e w.cap_done);
    }

took_out : (c : Context) → IsWhole c → IsWhole (record c { out = dqbuf_after c.out })
unfolding IsWhole
took_out c w = take_out_whole c.out c.cap c.out.done refl w

took_cap : (c : Context) → IsWhole c → IsWhole (record c { cap = dqbuf_after c.cap })
unfolding IsWhole
took_cap c w = take_cap_whole c.out c.cap c.cap.done refl w

take_slot : (c : Context) (side : Side) (ds : List Buffer) → IsWhole c → SlotWhole (taken_answer c side ds).slot
take_slot c side [] w = here c w
take_slot c Out (b ∷ rest) w = then_settled (record c { out = dqbuf_after c.out }) (took_out c w)
take_slot c Cap (b ∷ rest) w =
    let x = record c { cap = dqbuf_after c.cap } in
    then_settled (after_taking x Cap) (stop_whole x x.phase (is_empty x.cap.done) (took_cap c w))

-- StreamOff
output_off_whole : (kind : Kind) (x : Context) → IsWhole x → IsWhole (after_output_off kind x)
unfolding IsWhole
output_off_whole Copy x w = w
output_off_whole Enc x w = w
output_off_whole Dec x w = w

capture_off_whole : (kind : Kind) (x : Context) → IsWhole x → IsWhole (after_capture_off kind x)
unfolding IsWhole
capture_off_whole Copy x w = w
capture_off_whole Enc x w = w
capture_off_whole Dec x w = w

out_off : (c : Context) → IsWhole c → IsWhole (record c { out = streamoff_after c.out; mark = None; phase = without_drain_stop c.phase })
unfolding IsWhole
out_off c w =
    record {
      out_side = w.out_side;
      cap_side = w.cap_side;
      ready = refl;
      job = w.job;
      out_done = refl;
      cap_done = w.cap_done;
    }

cap_off : (c : Context) → IsWhole c → IsWhole (record c { cap = streamoff_after c.cap; mark = mark_after_restart c.phase c.mark; phase = run })
unfolding IsWhole
cap_off c w = cap_emptied c.out c.cap (streamoff_after c.cap) refl refl w

cap_still : (c : Context) → IsWhole c → IsWhole (record c { cap = streamoff_after c.cap })
unfolding IsWhole
cap_still c w = cap_emptied c.out c.cap (streamoff_after c.cap) refl refl w

capture_split : (c : Context) (b : Bool) → IsWhole c → IsWhole (cond b (after_capture_off c.kind (record c { cap = streamoff_after c.cap; mark = mark_after_restart c.phase c.mark; phase = run })) (record c { cap = streamoff_after c.cap }))
capture_split c true w = capture_off_whole c.kind (record c { cap = streamoff_after c.cap; mark = mark_after_restart c.phase c.mark; phase = run }) (cap_off c w)
capture_split c false w = cap_still c w

off_whole : (c : Context) (side : Side) → IsWhole c → IsWhole (streamoff_effect c side)
off_whole c Out w =
    output_off_whole c.kind (record c { out = streamoff_after c.out; mark = None; phase = without_drain_stop c.phase }) (out_off c w)
off_whole c Cap w = capture_split c c.cap.streams w

streamoff_whole : (c : Context) (side : Side) → IsWhole c → SlotWhole (streamoff_answer c side).slot
streamoff_whole c side w =
    either (is_none c.running) (answered (streamoff_effect c side) Done) (unchanged c Blocked) (then_settled (streamoff_effect c side) (off_whole c side w)) (here c w)

-- what does not touch the queues
with_events : (c : Context) (events : EventState) → IsWhole c → IsWhole (record c { events = events })
unfolding IsWhole
with_events c events w = w

with_mark : (c : Context) (mark : Option ℕ) → IsWhole c → IsWhole (record c { mark = mark })
unfolding IsWhole
with_mark c mark w = w

with_phase : (c : Context) (phase : PhaseState) → IsWhole c → IsWhole (record c { phase = phase })
unfolding IsWhole
with_phase c phase w = w

with_rates : (c : Context) (rates : RunRates) → IsWhole c → IsWhole (record c { rates = rates })
unfolding IsWhole
with_rates c rates w = w

events_whole : (c : Context) (o : Option Errno) (events : EventState) (reply : Reply) → IsWhole c → SlotWhole (unless c o (answered (record c { events = events }) reply)).slot
events_whole c o events reply w =
    unless_whole c o (answered (record c { events = events }) reply) w (then_settled (record c { events = events }) (with_events c events w))

taken_event_whole : (c : Context) (o : Option Errno) (block : Bool) (events : EventState) (reply : Reply) → IsWhole c → SlotWhole (unless_or_block c o block (answered (record c { events = events }) reply)).slot
taken_event_whole c o block events reply w =
    block_whole c o block (answered (record c { events = events }) reply) w (then_settled (record c { events = events }) (with_events c events w))

stop_answer_whole : (c : Context) → IsWhole c → SlotWhole (stop_answer c).slot
stop_answer_whole c w =
    let x = record c { mark = Some c.out.next_ordinal } in
    either (not (both_stream c)) (unchanged c Done) _ (here c w)
    (either (is_some c.mark) (refused c Busy) _ (here c w)
    (either (is_stopped_by_drain c.phase) (unchanged c Done) (answered x Done) (here c w) (then_settled x (with_mark c (Some c.out.next_ordinal) w))))

start_whole : (c : Context) → IsWhole c → SlotWhole (start_answer c).slot
start_whole c w =
    let x = record c { phase = run } in
    either (not (both_stream c)) (unchanged c Done) _ (here c w)
    (either (start_is_early c.phase c.mark) (refused c Busy) _ (here c w)
    (either (not (long_enough c.cap (sizeimage c Cap))) (refused c Inval) (answered x Done) (here c w) (then_settled x (with_phase c run w))))

command_whole : (c : Context) (cmd : ℕ) → IsWhole c → SlotWhole (command_answer c cmd).slot
command_whole c cmd w =
    either (cmd == 0) (start_answer c) _ (start_whole c w) (either (cmd == 1) (stop_answer c) (refused c Inval) (stop_answer_whole c w) (here c w))

value_whole : (c : Context) (o : Option ℕ) → IsWhole c → SlotWhole (value_answer c o).slot
value_whole c None w = here c w
value_whole c (Some v) w = here c w

control_whole : (c : Context) (o : Option RunRates) → IsWhole c → SlotWhole (control_answer c o).slot
control_whole c None w = here c w
control_whole c (Some rates) w = then_settled (record c { rates = rates }) (with_rates c rates w)

context_whole : (c : Context) (request : Call) (bytes : List ℕ) (found : Bool) → is_honest_call request bytes (context_answer c request bytes found).reply ≡ true → IsWhole c → SlotWhole (context_answer c request bytes found).slot
unfolding context_answer SlotWhole
context_whole c (Open kind) bytes found n w = w
context_whole c Close bytes found n w =
    either (is_none c.running) (record { slot = None; reply = Done; bytes = [] }) (unchanged c Blocked) tt w
context_whole c (EnumFmt on index) bytes found n w = desc_whole c _ w
context_whole c (GetFmt on) bytes found n w = w
context_whole c (TryFmt on want) bytes found n w = w
context_whole c (SetFmt on want) bytes found n w = set_whole c on want w
context_whole c (ReqBufs on count) bytes found n w = reqbufs_whole c on count found w
context_whole c (CreateBufs on count length) bytes found n w = create_whole c on count length found w
context_whole c (QueryBuf on index) bytes found n w = query_whole c _ w
context_whole c (QBuf on index used stamp) bytes found n w = qbuf_whole c on index used stamp bytes n w
context_whole c (DqBuf from block) bytes found n w =
    block_whole c (dqbuf_refusal (queue_of c from) (is_ended c from)) block (taken_answer c from (queue_of c from).done) w (take_slot c from (queue_of c from).done w)
context_whole c (StreamOn on) bytes found n w = streamon_whole c on w
context_whole c (StreamOff on) bytes found n w = streamoff_whole c on w
context_whole c (Subscribe event) bytes found n w = events_whole c _ _ Done w
context_whole c (Unsubscribe event) bytes found n w = events_whole c _ _ Done w
context_whole c (DqEvent block) bytes found n w = taken_event_whole c _ block _ _ w
context_whole c (DecCmd cmd) bytes found n w =
    either (is_dec c.kind) (command_answer c cmd) (refused c NoTty) (command_whole c cmd w) w
context_whole c (EncCmd cmd) bytes found n w =
    either (is_enc c.kind) (command_answer c cmd) (refused c NoTty) (command_whole c cmd w) w
context_whole c (GetCtrl id) bytes found n w = value_whole c _ w
context_whole c (SetCtrl id value) bytes found n w = control_whole c _ w
context_whole c Poll bytes found n w = w

closed_whole : (request : Call) (found : Bool) → SlotWhole (closed_answer request found).slot
unfolding closed_answer SlotWhole IsWhole
closed_whole (Open kind) true =
    record { out_side = refl; cap_side = refl; ready = refl; job = refl; out_done = refl; cap_done = refl }
closed_whole (Open kind) false = tt
closed_whole request found = tt

answer_whole : (s : Slot) (request : Call) (bytes : List ℕ) (found : Bool) → is_honest_call request bytes (answer s request bytes found).reply ≡ true → SlotWhole s → SlotWhole (answer s request bytes found).slot
unfolding answer SlotWhole
answer_whole None request bytes found n w = closed_whole request found
answer_whole (Some c) request bytes found n w = context_whole c request bytes found n w

-- Claims

cap_claim_whole : (o k : QueueState) (sort : RunSort) → AreWhole o k → AreWhole o (cap_after_claim sort k)
cap_claim_whole o k copy w = lend_cap_whole o k k.ready w
cap_claim_whole o k encode w = lend_cap_whole o k k.ready w
cap_claim_whole o k decode w = lend_cap_whole o k k.ready w
cap_claim_whole o k probe w = w

claimed_whole : (c : Context) (sort : RunSort) (ready : List Buffer) → IsWhole c → IsWhole (claim_front c sort ready)
unfolding IsWhole
claimed_whole c sort [] w = w
claimed_whole c sort (b ∷ rest) w =
    lend_whole c.out (cap_after_claim sort c.cap) c.out.ready refl (cap_claim_whole c.out c.cap sort w)

claim_step_whole : (s : Slot) (b : Bool) → SlotWhole s → SlotWhole (claim_step s b).slot
unfolding SlotWhole after_claim
claim_step_whole None b w = tt
claim_step_whole (Some c) true w = claimed_whole c (sort_of c.kind c.geometry) c.out.ready w
claim_step_whole (Some c) false w = w

-- Finishes: the job's data are of a context with these buffers of OUTPUT in the job

abbrev IsSource : Context → JobData → Type 0
IsSource c j = j.source ≡ source_of c.out.job

done_whole : (c : Context) (j : JobData) (flags : ℕ) → IsSource c j → (flags ≡ 0) ⊎ (flags ≡ error_flag) → IsWhole c → IsWhole (source_done c j flags)
unfolding IsWhole
done_whole c j flags s f w =
    subst (λ b. AreWhole (retire_after c.out b.used b.bytes flags b.stamp) c.cap) (sym s) (retire_whole c.out c.cap c.out.job flags refl f w)

back_whole : (c : Context) (j : JobData) (cursor : ℕ) → IsSource c j → IsWhole c → IsWhole (source_back c j cursor)
unfolding IsWhole
back_whole c j cursor s w =
    subst (λ b. AreWhole (give_back_after c.out cursor b.bytes) c.cap) (sym s) (give_back_whole c.out c.cap c.out.job cursor refl w)

moved_whole : (c : Context) (j : JobData) (cursor : ℕ) (b : Bool) → IsSource c j → IsWhole c → IsWhole (source_moved c j cursor b)
moved_whole c j cursor true s w = done_whole c j 0 s (inl refl) w
moved_whole c j cursor false s w = back_whole c j cursor s w

dest_split_whole :
    (c : Context) (bytes : List ℕ) (flags : ℕ) (stamp : Stamp) (b : Bool) → IsWhole c
    → IsWhole
    (cond b (raise_end drain (record c { cap = retire_after c.cap (length bytes) bytes (flags + last_flag) stamp; phase = last drain }))
    (record c { cap = retire_after c.cap (length bytes) bytes flags stamp }))
unfolding IsWhole
dest_split_whole c bytes flags stamp true w =
    raised_whole drain (record c { cap = retire_after c.cap (length bytes) bytes (flags + last_flag) stamp; phase = last drain }) (retire_cap_whole c.out c.cap c.cap.job bytes (flags + last_flag) stamp w)
dest_split_whole c bytes flags stamp false w = retire_cap_whole c.out c.cap c.cap.job bytes flags stamp w

dest_whole : (c : Context) (dest : List Buffer) (used_up : Bool) (bytes : List ℕ) (flags : ℕ) (stamp : Stamp) → IsWhole c → IsWhole (dest_done c dest used_up (length bytes) bytes flags stamp)
dest_whole c [] used_up bytes flags stamp w = w
dest_whole c (b ∷ rest) used_up bytes flags stamp w =
    dest_split_whole c bytes flags stamp (used_up && is_drained c.out.ready c.mark) w

dest_back_whole : (c : Context) (dest : List Buffer) → IsWhole c → IsWhole (dest_back c dest)
unfolding IsWhole
dest_back_whole c [] w = w
dest_back_whole c (b ∷ rest) w = give_back_cap_whole c.out c.cap c.cap.job 0 [] w

changed_whole :
    (y : Context) (geometry : Option Geometry) (formats : FormatPair) (events : EventState) (b : Bool) → IsWhole y
    → IsWhole (cond b (record y { geometry = geometry; formats = formats; events = events; phase = owe change }) (record y { geometry = geometry; formats = formats; events = events }))
unfolding IsWhole
changed_whole y geometry formats events true w = w
changed_whole y geometry formats events false w = w

decoded_whole : (c : Context) (j : JobData) (cursor : ℕ) (result : DecodedResult) → IsSource c j → IsWhole c → IsWhole (decoded_effect c j cursor result)
decoded_whole c j cursor (picture bytes key stamp) s w =
    dest_whole (source_moved c j cursor (cursor == j.source.used)) j.dest (cursor == j.source.used) bytes (type_flag key) stamp (moved_whole c j cursor (cursor == j.source.used) s w)
decoded_whole c j cursor (damaged stamp) s w =
    dest_whole (source_moved c j cursor (cursor == j.source.used)) j.dest (cursor == j.source.used) [] error_flag stamp (moved_whole c j cursor (cursor == j.source.used) s w)
decoded_whole c j cursor (changed geometry) s w =
    let y = dest_back (source_back c j cursor) j.dest in
    changed_whole y (Some geometry) _ _ y.cap.streams (dest_back_whole (source_back c j cursor) j.dest (back_whole c j cursor s w))
decoded_whole c j cursor spent s w =
    dest_back_whole (source_done c j 0) j.dest (done_whole c j 0 s (inl refl) w)

with_codec : (c : Context) (codec : CodecState) → IsWhole c → IsWhole (record c { codec = codec })
unfolding IsWhole
with_codec c codec w = w

run_whole : (c : Context) (j : JobData) (result : RunResult) → IsSource c j → IsWhole c → IsWhole (run_effect c j result)
run_whole c j (copied bytes) s w =
    dest_whole (source_done c j 0) j.dest true bytes 0 j.source.stamp (done_whole c j 0 s (inl refl) w)
run_whole c j (encoded frame) s w =
    let x = record c { codec = encoder frame.state } in
    dest_whole (source_done x j 0) j.dest true frame.bytes (type_flag frame.key) j.source.stamp (done_whole x j 0 s (inl refl) (with_codec c (encoder frame.state) w))
run_whole c j (decoded step) s w =
    decoded_whole (record c { codec = decoder step.state }) j (j.source.cursor + step.moved) (step_outcome j.format.fourcc step) s (with_codec c (decoder step.state) w)

fault_whole : (c : Context) (j : JobData) → IsSource c j → IsWhole c → IsWhole (fault_effect c j)
fault_whole c j s w =
    let x = record c { codec = reset c.codec } in
    dest_whole (source_done x j error_flag) j.dest true [] error_flag j.source.stamp (done_whole x j error_flag s (inr refl) (with_codec c (reset c.codec) w))

without_running : (c : Context) → IsWhole c → IsWhole (record c { running = None })
unfolding IsWhole
without_running c w = w

finish_whole : (coder : Coder) (c : Context) (r : Running) (fault : Bool) → IsWhole c → IsWhole (after_finish coder c r fault)
unfolding after_finish
finish_whole coder c r true w =
    let x = record c { running = None } in
    settle_whole (fault_effect x (job_data c r)) (fault_whole x (job_data c r) refl (without_running c w))
finish_whole coder c r false w =
    let x = record c { running = None } in
    settle_whole (run_effect x (job_data c r) (run_result coder (job_data c r))) (run_whole x (job_data c r) (run_result coder (job_data c r)) refl (without_running c w))

finish_job_whole : (coder : Coder) (c : Context) (o : Option Running) (fault : Bool) → IsWhole c → SlotWhole (solo_finish coder c o fault).slot
unfolding SlotWhole
finish_job_whole coder c None fault w = w
finish_job_whole coder c (Some r) fault w = finish_whole coder c r fault w

finish_step_whole : (coder : Coder) (s : Slot) (fault : Bool) → SlotWhole s → SlotWhole (finish_step coder s fault).slot
unfolding SlotWhole
finish_step_whole coder None fault w = tt
finish_step_whole coder (Some c) fault w = finish_job_whole coder c c.running fault w

-- Steps and runs

step_whole : (coder : Coder) (s : Slot) (e : SoloEvent) → is_honest e (solo_step coder s e).told ≡ true → SlotWhole s → SlotWhole (solo_step coder s e).slot
unfolding solo_step
step_whole coder s (Called request bytes found) n w = answer_whole s request bytes found n w
step_whole coder s Claims n w = claim_step_whole s (is_claimable s) w
step_whole coder s (Finishes fault) n w = finish_step_whole coder s fault w

run_whole_slot : (coder : Coder) (s : Slot) (es : List SoloEvent) → AreHonest (solo_run coder s es) → SlotWhole s → SlotWhole (solo_slot coder s es)
run_whole_slot coder s [] n w = w
run_whole_slot coder s (e ∷ es) n w =
    run_whole_slot coder (solo_step coder s e).slot es n.1 (step_whole coder s e n.0 w)

-- What is handed out

front_out : (b : Buffer) (rest : List Buffer) (c : Context) → c.out.done ≡ b ∷ rest → IsWhole c → is_whole Out b.flags b.used b.bytes ≡ true
unfolding IsWhole
front_out b rest c e w =
    and_left (is_whole_out b) (list_all is_whole_out rest) (subst (λ l. list_all is_whole_out l ≡ true) e w.out_done)

front_cap : (b : Buffer) (rest : List Buffer) (c : Context) → c.cap.done ≡ b ∷ rest → IsWhole c → is_whole Cap b.flags b.used b.bytes ≡ true
unfolding IsWhole
front_cap b rest c e w =
    and_left (has_bytes b) (list_all has_bytes rest) (subst (λ l. list_all has_bytes l ≡ true) e w.cap_done)

take_hands : (c : Context) (side : Side) (block : Bool) (ds : List Buffer) → (queue_of c side).done ≡ ds → IsWhole c → is_whole_reply (DqBuf side block) (taken_answer c side ds).reply (taken_answer c side ds).bytes ≡ true
take_hands c side block [] e w = refl
take_hands c Out block (b ∷ rest) e w = front_out b rest c e w
take_hands c Cap block (b ∷ rest) e w = front_cap b rest c e w

block_hands :
    (c : Context) (side : Side) (o : Option Errno) (block : Bool) (a : Answer) → is_whole_reply (DqBuf side block) a.reply a.bytes ≡ true
    → is_whole_reply (DqBuf side block) (unless_or_block c o block a).reply (unless_or_block c o block a).bytes ≡ true
block_hands c side None block a h = h
block_hands c side (Some Again) true a h = refl
block_hands c side (Some Again) false a h = refl
block_hands c side (Some NoEnt) true a h = refl
block_hands c side (Some NoEnt) false a h = refl
block_hands c side (Some NoMem) block a h = refl
block_hands c side (Some Busy) block a h = refl
block_hands c side (Some Inval) block a h = refl
block_hands c side (Some NoTty) block a h = refl
block_hands c side (Some Pipe) block a h = refl

context_hands : (c : Context) (request : Call) (bytes : List ℕ) (found : Bool) → IsWhole c → is_whole_reply request (context_answer c request bytes found).reply (context_answer c request bytes found).bytes ≡ true
unfolding context_answer
context_hands c (DqBuf side block) bytes found w =
    block_hands c side (dqbuf_refusal (queue_of c side) (is_ended c side)) block (taken_answer c side (queue_of c side).done) (take_hands c side block (queue_of c side).done refl w)
context_hands c request bytes found w = refl

closed_hands : (request : Call) (found : Bool) → is_whole_reply request (closed_answer request found).reply (closed_answer request found).bytes ≡ true
unfolding closed_answer
closed_hands (DqBuf side block) found = refl
closed_hands request found = refl

answer_hands : (s : Slot) (request : Call) (bytes : List ℕ) (found : Bool) → SlotWhole s → is_whole_reply request (answer s request bytes found).reply (answer s request bytes found).bytes ≡ true
unfolding answer SlotWhole
answer_hands None request bytes found w = closed_hands request found
answer_hands (Some c) request bytes found w = context_hands c request bytes found w

step_hands : (coder : Coder) (s : Slot) (e : SoloEvent) → SlotWhole s → hands_whole e (solo_step coder s e).told ≡ true
unfolding solo_step
step_hands coder s (Called request bytes found) w = answer_hands s request bytes found w
step_hands coder s Claims w = refl
step_hands coder s (Finishes fault) w = refl

pub always_hands : HandsWhole
unfolding SlotWhole
always_hands coder events e n =
    step_hands coder (solo_slot coder None events) e (run_whole_slot coder None events n tt)

context_sources : (c : Context) → IsWhole c → HaveBytes c.out.ready × HaveBytes c.out.job
unfolding IsWhole
context_sources c w = (w.ready, w.job)

slot_sources : (c : Context) → SlotWhole (Some c) → HaveBytes c.out.ready × HaveBytes c.out.job
unfolding SlotWhole
slot_sources c w = context_sources c w

none_whole : SlotWhole None
unfolding SlotWhole
none_whole = tt

pub sources_are_whole : SourcesAreWhole
sources_are_whole coder events c h e =
    slot_sources c (subst SlotWhole e (run_whole_slot coder None events h none_whole))
