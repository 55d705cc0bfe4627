-- No number that counts up in a context, as an ordinal, a sequence number or the number of an event, is above the
-- number of steps of the device. A step adds one at most to each, and a call that answers Blocked, which is no step,
-- adds nothing.
use Rattle.std.proofs.Common.{ℕ, ◌≡◌, ◌≤◌, ◌+◌, ◌==◌, Bool, true, false, not, cond, ◌&&◌, is_none, is_some, Option, Some, None, List, [], ◌∷◌, length, refl, sym, ap, ◌∙◌, subst, arith}
use Rattle.std.proofs.lemmas.Bool.{false≢true}
use Rattle.vc_base.specs.declared.Stamp.{Stamp}
use Rattle.vc_base.specs.declared.Side.{Side}
use Rattle.vc_base.specs.declared.Side.TheVariants.{Out, Cap}
use Rattle.vc_base.specs.declared.Kind.{Kind}
use Rattle.vc_base.specs.declared.Kind.TheVariants.{Copy, Enc, Dec}
use Rattle.vc_base.specs.declared.Fourcc.{Fourcc}
use Rattle.vc_base.specs.declared.Errno.{Errno}
use Rattle.vc_base.specs.declared.Errno.TheVariants.{NoEnt, Again, NoMem, Busy, Inval, NoTty, Pipe}
use Rattle.vc_base.specs.declared.Call.{Call}
use Rattle.vc_base.specs.declared.Call.TheVariants.{Open, Close, EnumFmt, GetFmt, TryFmt, SetFmt, ReqBufs, CreateBufs, QueryBuf, QBuf, DqBuf, StreamOn, StreamOff, Subscribe, Unsubscribe, DqEvent, DecCmd, EncCmd, GetCtrl, SetCtrl, Poll}
use Rattle.vc_base.specs.declared.Reply.{Reply}
use Rattle.vc_base.specs.declared.Reply.TheVariants.{Done, Created, Blocked}
use Rattle.vc_base.specs.Buffers.{Buffer, QueueState, buffer_count, is_empty, refuse_if, with_index, queued_buffer, queue_held, held_refusal, take_front}
use Rattle.vc_base.specs.Buffers.{long_enough, reqbufs_after, create_refusal, create_after, created, qbuf_after, dqbuf_after, streamon_refusal, streamon_after}
use Rattle.vc_base.specs.Buffers.{streamoff_after, dqbuf_refusal}
use Rattle.vc_base.specs.Events.{EventState}
use Rattle.vc_model.specs.Formats.{FormatPair}
use Rattle.vc_model.specs.Coder.{CodecState, reset}
use Rattle.vc_defs.specs.Encoder.{RunRates}
use Rattle.vc_model.specs.Context.{Context, Slot, Running, Cause, drain, change, PhaseState, run, owe, last, stopped, fresh_context, queue_of, with_queue, is_run, sizeimage, is_dec, is_enc, is_drained}
use Rattle.vc_model.specs.Answer.{Answer, unchanged, refused, answered, unless, if_found, unless_or_block, desc_answer, set_refusal, after_new_format}
use Rattle.vc_model.specs.Answer.{after_new_buffers, query_answer, is_no_whole_picture, taken_answer, stop_at_last, is_ended, streamoff_effect}
use Rattle.vc_model.specs.Answer.{without_drain_stop, after_output_off, mark_after_restart, after_capture_off, both_stream, stop_answer, start_is_early}
use Rattle.vc_model.specs.Answer.{start_answer, command_answer, value_answer, control_answer, context_answer, closed_answer, answer}
use Rattle.vc_model.specs.Phases.{is_stopped_by_drain}
use Rattle.vc_model.specs.Sound.{HasItsBuffers, IsSoundButUnsettled, IsOrderedSlot}
use Rattle.std.specs.Prelude.{min, slice_get}
use Rattle.std.proofs.Common.{length-append}
use Rattle.vc_base.specs.declared.Reply.TheVariants.{Fmt, Count}
use Rattle.vc_base.specs.Buffers.{lend_front, lend_after, retire_from, retire_after, give_back_from, give_back_after, zero_stamp, reqbufs_refusal, querybuf_reply}
use Rattle.vc_base.specs.Limits.{most_buffers, last_flag, error_flag, source_change_event, eos_event}
use Rattle.vc_base.specs.Events.{event_refusal, event_reply, raise_after, subscribe_after, unsubscribe_after, take_event_after}
use Rattle.vc_defs.specs.declared.Geometry.{Geometry}
use Rattle.vc_defs.specs.Decoder.{DecodedResult, picture, damaged, changed, spent, step_outcome}
use Rattle.vc_model.specs.Formats.{formats_listed, formats_for, formats_found}
use Rattle.vc_model.specs.Coder.{Coder, encoder, decoder}
use Rattle.vc_model.specs.Context.{RunSort, copy, encode, decode, probe, format_of, raise_end, settle, settle_drain, settle_last, give_last}
use Rattle.vc_model.specs.Answer.{control_of, with_control}
use Rattle.vc_model.specs.Runs.{sort_of, cap_after_claim, claim_front, after_claim, JobData, job_data, RunResult, copied, encoded, decoded, run_result}
use Rattle.vc_model.specs.Runs.{source_done, source_back, source_moved, dest_done, dest_back, decoded_effect, run_effect, fault_effect, type_flag, after_finish}
use Rattle.vc_model.specs.Solo.{solo_slot}
use Rattle.vc_model.specs.Sound.{IsOrderedSlot}
use Rattle.vc_model.proofs.EventsKeepSound.{always_ordered}
use Rattle.std.proofs.Common.{◌<◌, eqb, ltb, get_or, set, get_or-set_same, get_or-set_other}
use Rattle.std.proofs.lemmas.Bool.{eqb-true, eqb-false, ltb-true}
use Rattle.vc_base.specs.Device.{DeviceEvent, call, claim, finish, shut}
use Rattle.vc_base.specs.Events.{is_subscribed, with_event}
use Rattle.vc_model.specs.Context.{is_run}
use Rattle.vc_model.specs.Sound.{IsSettled, last_not_given}
use Rattle.vc_model.specs.Devices.{DeviceState, new_device, slot_of, job_of, with_slot, steps_of, ignored, call_answered, claim_slot, claim_first, finish_of, finish_slot, finish_job, device_step, device_after}
use Rattle.vc_model.specs.Counters.{IsCounted, CountersAreSteps}
use Rattle.vc_model.specs.Answer.{after_taking}
use Rattle.vc_model.specs.Devices.{projection}
use Rattle.vc_model.specs.Sound.{HasItsBuffers}
use Rattle.vc_model.proofs.SlotsAreIsolated.{isolated, is_there, closed_at_first}
use Rattle.vc_model.proofs.EachSlotPrintsItsOwn.{Comes, comes_next}
use Rattle.vc_model.proofs.SettlingSettles.{settles_once}
use Rattle.vc_model.proofs.BlockedChangesNothing.{blocked_stays}

-- a buffer goes to done only after it was queued
abbrev Queued : QueueState → Type 0
Queued q = q.next_seq + (length q.ready + length q.job) ≤ q.next_ordinal

lend_queued : (q : QueueState) (ready : List Buffer) → q.ready ≡ ready → Queued q → Queued (lend_front q ready)
lend_queued q [] e h = h
lend_queued q (b ∷ rest) e h = let l = ap length e in omega arith

retire_queued : (q : QueueState) (job : List Buffer) (used : ℕ) (bytes : List ℕ) (flags : ℕ) (stamp : Stamp) → q.job ≡ job → Queued q → Queued (retire_from q job used bytes flags stamp)
retire_queued q [] used bytes flags stamp e h = h
retire_queued q (b ∷ bs) used bytes flags stamp e h = let l = ap length e in omega arith

give_queued : (q : QueueState) (job : List Buffer) (cursor : ℕ) (bytes : List ℕ) → q.job ≡ job → Queued q → Queued (give_back_from q job cursor bytes)
give_queued q [] cursor bytes e h = h
give_queued q (b ∷ bs) cursor bytes e h = let l = ap length e in omega arith

take_queued : (q : QueueState) (ds : List Buffer) → Queued q → Queued (take_front q ds)
take_queued q [] h = h
take_queued q (b ∷ rest) h = h

queue_queued : (q : QueueState) (k used : ℕ) (stamp : Stamp) (bytes : List ℕ) (o : Option Buffer) → Queued q → Queued (queue_held q k o used stamp bytes)
queue_queued q k used stamp bytes None h = h
queue_queued q k used stamp bytes (Some b) h =
    let l = length-append q.ready (queued_buffer q.side b used stamp bytes q.next_ordinal ∷ []) in omega arith

off_queued : (q : QueueState) → Queued q → Queued (streamoff_after q)
off_queued q h = omega arith

new_queued : (q : QueueState) (count size : ℕ) → Queued q → Queued (reqbufs_after q count size)
new_queued q count size h = omega arith

-- how far the number of queued buffers goes
lend_ordinal : (q : QueueState) (ready : List Buffer) → (lend_front q ready).next_ordinal ≡ q.next_ordinal
lend_ordinal q [] = refl
lend_ordinal q (b ∷ rest) = refl

retire_ordinal : (q : QueueState) (job : List Buffer) (used : ℕ) (bytes : List ℕ) (flags : ℕ) (stamp : Stamp) → (retire_from q job used bytes flags stamp).next_ordinal ≡ q.next_ordinal
retire_ordinal q [] used bytes flags stamp = refl
retire_ordinal q (b ∷ bs) used bytes flags stamp = refl

give_ordinal : (q : QueueState) (job : List Buffer) (cursor : ℕ) (bytes : List ℕ) → (give_back_from q job cursor bytes).next_ordinal ≡ q.next_ordinal
give_ordinal q [] cursor bytes = refl
give_ordinal q (b ∷ bs) cursor bytes = refl

take_ordinal : (q : QueueState) (ds : List Buffer) → (take_front q ds).next_ordinal ≡ q.next_ordinal
take_ordinal q [] = refl
take_ordinal q (b ∷ rest) = refl

queue_ordinal : (q : QueueState) (k used : ℕ) (stamp : Stamp) (bytes : List ℕ) (o : Option Buffer) → (queue_held q k o used stamp bytes).next_ordinal ≤ q.next_ordinal + 1
queue_ordinal q k used stamp bytes None = omega arith
queue_ordinal q k used stamp bytes (Some b) = omega arith

-- The numbers of a context, with one bound for buffers and one for events
record Bounded (buffers_at events_at : ℕ) (c : Context) : Type 0 where
  pub out : Queued c.out
  pub cap : Queued c.cap
  pub out_at : c.out.next_ordinal ≤ buffers_at
  pub cap_at : c.cap.next_ordinal ≤ buffers_at
  pub events_at_most : c.events.next_seq ≤ events_at

abbrev Within : ℕ → Context → Type 0
Within m c = Bounded m m c

wider : (m k n l : ℕ) (c : Context) → m ≤ n → k ≤ l → Bounded m k c → Bounded n l c
wider m k n l c h i b =
    record { out = b.out; cap = b.cap; out_at = let x = b.out_at in omega arith; cap_at = let x = b.cap_at in omega arith; events_at_most = let x = b.events_at_most in omega arith }

out_bounded : (m k : ℕ) (c : Context) (q : QueueState) → Queued q → q.next_ordinal ≤ m → Bounded m k c → Bounded m k (record c { out = q })
out_bounded m k c q h l b = record { out = h; cap = b.cap; out_at = l; cap_at = b.cap_at; events_at_most = b.events_at_most }

cap_bounded : (m k : ℕ) (c : Context) (q : QueueState) → Queued q → q.next_ordinal ≤ m → Bounded m k c → Bounded m k (record c { cap = q })
cap_bounded m k c q h l b = record { out = b.out; cap = h; out_at = b.out_at; cap_at = l; events_at_most = b.events_at_most }

-- a part that counts nothing
rest_bounded :
    (m k : ℕ) (c : Context) (formats : FormatPair) (geometry : Option Geometry) (codec : CodecState) (phase : PhaseState) (mark : Option ℕ) (rates : RunRates) (running : Option Running)
    → Bounded m k c
    → Bounded m k (record c { formats = formats; geometry = geometry; codec = codec; phase = phase; mark = mark; rates = rates; running = running })
rest_bounded m k c formats geometry codec phase mark rates running b =
    record { out = b.out; cap = b.cap; out_at = b.out_at; cap_at = b.cap_at; events_at_most = b.events_at_most }

raised_split :
    (s : EventState) (event changes k : ℕ) → s.next_seq ≤ k → (b : Bool)
    → (cond b (record s { pending = with_event s.pending (record { event = event; seq = s.next_seq; changes = changes }); next_seq = s.next_seq + 1 }) s).next_seq ≤ k + 1
raised_split s event changes k h true = omega arith
raised_split s event changes k h false = omega arith

raised : (s : EventState) (event changes k : ℕ) → s.next_seq ≤ k → (raise_after s event changes).next_seq ≤ k + 1
raised s event changes k h = raised_split s event changes k h (is_subscribed s event)

raise_bounded : (m k : ℕ) (cause : Cause) (c : Context) → Bounded m k c → Bounded m (k + 1) (raise_end cause c)
raise_bounded m k drain c b =
    record { out = b.out; cap = b.cap; out_at = b.out_at; cap_at = b.cap_at; events_at_most = raised c.events eos_event 0 k b.events_at_most }
raise_bounded m k change c b = wider m k m (k + 1) c (omega arith) (omega arith) b

-- Settling

given_bounded : (m k : ℕ) (c : Context) (cause : Cause) → Bounded m k c → Bounded m k (record c { cap = retire_after (lend_after c.cap) 0 [] last_flag zero_stamp; phase = last cause })
given_bounded m k c cause b =
    let q = lend_after c.cap in
    let e = retire_ordinal q q.job 0 [] last_flag zero_stamp in
    let f = lend_ordinal c.cap c.cap.ready in
    let x = b.cap_at in
    record { out = b.out; cap = retire_queued q q.job 0 [] last_flag zero_stamp refl (lend_queued c.cap c.cap.ready refl b.cap); out_at = b.out_at; cap_at = omega arith; events_at_most = b.events_at_most }

give_bounded : (m k : ℕ) (c : Context) (cause : Cause) (ready : List Buffer) → Bounded m k c → Bounded m (k + 1) (give_last c cause ready)
give_bounded m k c cause [] b = wider m k m (k + 1) c (omega arith) (omega arith) b
give_bounded m k c cause (x ∷ rest) b =
    raise_bounded m k cause (record c { cap = retire_after (lend_after c.cap) 0 [] last_flag zero_stamp; phase = last cause }) (given_bounded m k c cause b)

-- a change ends with no event
give_change : (m k : ℕ) (c : Context) (ready : List Buffer) → Bounded m k c → Bounded m k (give_last c change ready)
give_change m k c [] b = b
give_change m k c (x ∷ rest) b = given_bounded m k c change b

owed_bounded : (m k : ℕ) (c : Context) (phase : PhaseState) → Bounded m k c → Bounded m (k + 1) (settle_last c phase)
owed_bounded m k c run b = wider m k m (k + 1) c (omega arith) (omega arith) b
owed_bounded m k c (owe cause) b = give_bounded m k c cause c.cap.ready b
owed_bounded m k c (last cause) b = wider m k m (k + 1) c (omega arith) (omega arith) b
owed_bounded m k c (stopped cause) b = wider m k m (k + 1) c (omega arith) (omega arith) b

noted_bounded : (m k : ℕ) (c : Context) (b : Bool) → Bounded m k c → Bounded m k (cond b (record c { phase = owe drain }) c)
noted_bounded m k c true x =
    record { out = x.out; cap = x.cap; out_at = x.out_at; cap_at = x.cap_at; events_at_most = x.events_at_most }
noted_bounded m k c false x = x

settle_bounded : (m k : ℕ) (c : Context) → Bounded m k c → Bounded m (k + 1) (settle c)
unfolding settle
settle_bounded m k c b =
    let d = settle_drain c in
    owed_bounded m k d d.phase (noted_bounded m k c (is_run c.phase && (c.cap.streams && (is_none c.running && is_drained c.out.ready c.mark))) b)

settled_bounded : (m k : ℕ) (c : Context) → IsSettled c → Bounded m k c → Bounded m k (settle c)
settled_bounded m k c s b = subst (Bounded m k) (sym ((settles_once c).again s)) b

change_split : (m k : ℕ) (c : Context) (p : PhaseState) → p ≡ owe change → Bounded m k c → Bounded m k (settle_last c p)
change_split m k c p e b = subst (λ q. Bounded m k (settle_last c q)) (sym e) (give_change m k c c.cap.ready b)

change_drain : (c : Context) (t : Bool) → c.phase ≡ owe change → is_run c.phase && t ≡ false
change_drain c t e = ap (λ p. is_run p && t) e

change_bounded : (m k : ℕ) (c : Context) → c.phase ≡ owe change → Bounded m k c → Bounded m k (settle c)
unfolding settle
change_bounded m k c e b =
    let t = c.cap.streams && (is_none c.running && is_drained c.out.ready c.mark) in
    subst (λ d. Bounded m k (settle_last d d.phase)) (sym (ap (λ v. cond v (record c { phase = owe drain }) c) (change_drain c t e))) (change_split m k c c.phase e b)

-- Slots after a step

StepSlot : ℕ → Slot → Type 0
StepSlot m None = Unit {0}
StepSlot m (Some c) = Within (m + 1) c

same_slot : (m : ℕ) (c : Context) → Within m c → StepSlot m (Some c)
unfolding StepSlot
same_slot m c b = wider m m (m + 1) (m + 1) c (omega arith) (omega arith) b

settled_slot : (m : ℕ) (y : Context) → Bounded (m + 1) m y → StepSlot m (Some (settle y))
unfolding StepSlot
settled_slot m y b = settle_bounded (m + 1) m y b

more_buffers : (m : ℕ) (c : Context) → Within m c → Bounded (m + 1) m c
more_buffers m c b = wider m m (m + 1) m c (omega arith) (omega arith) b

unless_step : (m : ℕ) (c : Context) (o : Option Errno) (a : Answer) → Within m c → StepSlot m a.slot → StepSlot m (unless c o a).slot
unless_step m c None a b h = h
unless_step m c (Some e) a b h = same_slot m c b

found_step : (m : ℕ) (c : Context) (found : Bool) (a : Answer) → Within m c → StepSlot m a.slot → StepSlot m (if_found c found a).slot
found_step m c true a b h = h
found_step m c false a b h = same_slot m c b

block_step : (m : ℕ) (c : Context) (o : Option Errno) (block : Bool) (a : Answer) → Within m c → StepSlot m a.slot → StepSlot m (unless_or_block c o block a).slot
block_step m c None block a b h = h
block_step m c (Some Again) true a b h = same_slot m c b
block_step m c (Some Again) false a b h = same_slot m c b
block_step m c (Some NoEnt) true a b h = same_slot m c b
block_step m c (Some NoEnt) false a b h = same_slot m c b
block_step m c (Some NoMem) block a b h = same_slot m c b
block_step m c (Some Busy) block a b h = same_slot m c b
block_step m c (Some Inval) block a b h = same_slot m c b
block_step m c (Some NoTty) block a b h = same_slot m c b
block_step m c (Some Pipe) block a b h = same_slot m c b

either_step : (m : ℕ) (t : Bool) (x y : Answer) → StepSlot m x.slot → StepSlot m y.slot → StepSlot m (cond t x y).slot
either_step m true x y h k = h
either_step m false x y h k = k

-- an effect that counts nothing
rest_step :
    (m : ℕ) (c : Context) (formats : FormatPair) (geometry : Option Geometry) (codec : CodecState) (phase : PhaseState) (mark : Option ℕ) (rates : RunRates)
    → Within m c
    → StepSlot m (Some (settle (record c { formats = formats; geometry = geometry; codec = codec; phase = phase; mark = mark; rates = rates })))
rest_step m c formats geometry codec phase mark rates b =
    settled_slot m (record c { formats = formats; geometry = geometry; codec = codec; phase = phase; mark = mark; rates = rates }) (rest_bounded (m + 1) m c formats geometry codec phase mark rates c.running (more_buffers m c b))

format_step : (m : ℕ) (kind : Kind) (side : Side) (c : Context) (formats : FormatPair) → Within m c → StepSlot m (Some (settle (after_new_format kind side (record c { formats = formats }))))
format_step m Copy side c formats b = rest_step m c formats c.geometry c.codec c.phase c.mark c.rates b
format_step m Enc Out c formats b = rest_step m c formats c.geometry (reset c.codec) c.phase c.mark c.rates b
format_step m Enc Cap c formats b = rest_step m c formats c.geometry c.codec c.phase c.mark c.rates b
format_step m Dec Out c formats b = rest_step m c formats None c.codec c.phase c.mark c.rates b
format_step m Dec Cap c formats b = rest_step m c formats c.geometry c.codec c.phase c.mark c.rates b

side_bounded : (m k : ℕ) (c : Context) (side : Side) (q : QueueState) → Queued q → q.next_ordinal ≤ m → Bounded m k c → Bounded m k (with_queue c side q)
side_bounded m k c Out q h l b = out_bounded m k c q h l b
side_bounded m k c Cap q h l b = cap_bounded m k c q h l b

queued_at : (m k : ℕ) (c : Context) (side : Side) → Bounded m k c → Queued (queue_of c side)
queued_at m k c Out b = b.out
queued_at m k c Cap b = b.cap

ordinal_at : (m k : ℕ) (c : Context) (side : Side) → Bounded m k c → (queue_of c side).next_ordinal ≤ m
ordinal_at m k c Out b = b.out_at
ordinal_at m k c Cap b = b.cap_at

new_bounded : (m k : ℕ) (kind : Kind) (side : Side) (x : Context) → Bounded m k x → Bounded m k (after_new_buffers kind side x)
new_bounded m k Copy side x b = b
new_bounded m k Enc Out x b = rest_bounded m k x x.formats x.geometry (reset x.codec) x.phase x.mark x.rates x.running b
new_bounded m k Enc Cap x b = b
new_bounded m k Dec Out x b = rest_bounded m k x x.formats None (reset x.codec) x.phase x.mark x.rates x.running b
new_bounded m k Dec Cap x b = b

last_bounded : (m k : ℕ) (c : Context) (phase : PhaseState) (emptied : Bool) → Bounded m k c → Bounded m k (stop_at_last c phase emptied)
last_bounded m k c run emptied b = b
last_bounded m k c (owe cause) emptied b = b
last_bounded m k c (last drain) true b = rest_bounded m k c c.formats c.geometry c.codec (stopped drain) None c.rates c.running b
last_bounded m k c (last drain) false b = b
last_bounded m k c (last change) true b = rest_bounded m k c c.formats c.geometry c.codec (stopped change) c.mark c.rates c.running b
last_bounded m k c (last change) false b = b
last_bounded m k c (stopped cause) emptied b = b

taking_bounded : (m k : ℕ) (y : Context) (side : Side) → Bounded m k y → Bounded m k (after_taking y side)
taking_bounded m k y Out b = b
taking_bounded m k y Cap b = last_bounded m k y y.phase (is_empty y.cap.done) b

take_step : (m : ℕ) (c : Context) (side : Side) (ds : List Buffer) → Within m c → StepSlot m (taken_answer c side ds).slot
take_step m c side [] b = same_slot m c b
take_step m c side (x ∷ rest) b =
    let q = queue_of c side in
    let y = with_queue c side (dqbuf_after q) in
    let e = take_ordinal q q.done in
    let l = ordinal_at m m c side b in
    settled_slot m (after_taking y side) (taking_bounded (m + 1) m y side (side_bounded (m + 1) m c side (dqbuf_after q) (take_queued q q.done (queued_at m m c side b)) (omega arith) (more_buffers m c b)))

output_step : (m : ℕ) (kind : Kind) (c : Context) → Within m c → StepSlot m (Some (settle (after_output_off kind (record c { out = streamoff_after c.out; mark = None; phase = without_drain_stop c.phase }))))
output_step m kind c b =
    settled_slot m (after_output_off kind (record c { out = streamoff_after c.out; mark = None; phase = without_drain_stop c.phase })) (off_kind kind)
  where
    off_bounded : Bounded (m + 1) m (record c { out = streamoff_after c.out })
    off_bounded = out_bounded (m + 1) m c (streamoff_after c.out) (off_queued c.out b.out) (let l = b.out_at in omega arith) (more_buffers m c b)

    off_kind : (k : Kind) → Bounded (m + 1) m (after_output_off k (record c { out = streamoff_after c.out; mark = None; phase = without_drain_stop c.phase }))
    off_kind Copy = rest_bounded (m + 1) m (record c { out = streamoff_after c.out }) c.formats c.geometry c.codec (without_drain_stop c.phase) None c.rates c.running off_bounded
    off_kind Enc = rest_bounded (m + 1) m (record c { out = streamoff_after c.out }) c.formats c.geometry c.codec (without_drain_stop c.phase) None c.rates c.running off_bounded
    off_kind Dec = rest_bounded (m + 1) m (record c { out = streamoff_after c.out }) c.formats c.geometry (reset c.codec) (without_drain_stop c.phase) None c.rates c.running off_bounded

capture_bounded : (m : ℕ) (c : Context) → Within m c → Bounded (m + 1) m (record c { cap = streamoff_after c.cap })
capture_bounded m c b = cap_bounded (m + 1) m c (streamoff_after c.cap) (off_queued c.cap b.cap) (let l = b.cap_at in omega arith) (more_buffers m c b)

capture_kind : (m : ℕ) (kind : Kind) (c : Context) → Within m c → Bounded (m + 1) m (after_capture_off kind (record c { cap = streamoff_after c.cap; mark = mark_after_restart c.phase c.mark; phase = run }))
capture_kind m Copy c b = rest_bounded (m + 1) m (record c { cap = streamoff_after c.cap }) c.formats c.geometry c.codec run (mark_after_restart c.phase c.mark) c.rates c.running (capture_bounded m c b)
capture_kind m Enc c b = rest_bounded (m + 1) m (record c { cap = streamoff_after c.cap }) c.formats c.geometry (reset c.codec) run (mark_after_restart c.phase c.mark) c.rates c.running (capture_bounded m c b)
capture_kind m Dec c b = rest_bounded (m + 1) m (record c { cap = streamoff_after c.cap }) c.formats c.geometry c.codec run (mark_after_restart c.phase c.mark) c.rates c.running (capture_bounded m c b)

capture_split :
    (m : ℕ) (c : Context) (t : Bool) → Within m c
    → Bounded (m + 1) m (cond t (after_capture_off c.kind (record c { cap = streamoff_after c.cap; mark = mark_after_restart c.phase c.mark; phase = run })) (record c { cap = streamoff_after c.cap }))
capture_split m c true b = capture_kind m c.kind c b
capture_split m c false b = capture_bounded m c b

off_step : (m : ℕ) (c : Context) (side : Side) → Within m c → StepSlot m (Some (settle (streamoff_effect c side)))
off_step m c Out b = output_step m c.kind c b
off_step m c Cap b = settled_slot m (streamoff_effect c Cap) (capture_split m c c.cap.streams b)

stop_step : (m : ℕ) (c : Context) (x y z : Bool) → Within m c → StepSlot m (cond x (unchanged c Done) (cond y (refused c Busy) (cond z (unchanged c Done) (answered (record c { mark = Some c.out.next_ordinal }) Done)))).slot
stop_step m c true y z b = same_slot m c b
stop_step m c false true z b = same_slot m c b
stop_step m c false false true b = same_slot m c b
stop_step m c false false false b = rest_step m c c.formats c.geometry c.codec c.phase (Some c.out.next_ordinal) c.rates b

start_step : (m : ℕ) (c : Context) (x y z : Bool) → Within m c → StepSlot m (cond x (unchanged c Done) (cond y (refused c Busy) (cond z (refused c Inval) (answered (record c { phase = run }) Done)))).slot
start_step m c true y z b = same_slot m c b
start_step m c false true z b = same_slot m c b
start_step m c false false true b = same_slot m c b
start_step m c false false false b = rest_step m c c.formats c.geometry c.codec run c.mark c.rates b

command_step : (m : ℕ) (c : Context) (x y : Bool) → Within m c → StepSlot m (cond x (start_answer c) (cond y (stop_answer c) (refused c Inval))).slot
command_step m c true y b =
    start_step m c (not (both_stream c)) (start_is_early c.phase c.mark) (not (long_enough c.cap (sizeimage c Cap))) b
command_step m c false true b = stop_step m c (not (both_stream c)) (is_some c.mark) (is_stopped_by_drain c.phase) b
command_step m c false false b = same_slot m c b

kind_step : (m : ℕ) (c : Context) (cmd : ℕ) (t : Bool) → Within m c → StepSlot m (cond t (command_answer c cmd) (refused c NoTty)).slot
kind_step m c cmd true b = command_step m c (cmd == 0) (cmd == 1) b
kind_step m c cmd false b = same_slot m c b

desc_step : (m : ℕ) (c : Context) (o : Option Fourcc) → Within m c → StepSlot m (desc_answer c o).slot
desc_step m c None b = same_slot m c b
desc_step m c (Some f) b = same_slot m c b

query_step : (m : ℕ) (c : Context) (o : Option Reply) → Within m c → StepSlot m (query_answer c o).slot
query_step m c None b = same_slot m c b
query_step m c (Some r) b = same_slot m c b

value_step : (m : ℕ) (c : Context) (o : Option ℕ) → Within m c → StepSlot m (value_answer c o).slot
value_step m c None b = same_slot m c b
value_step m c (Some v) b = same_slot m c b

control_step : (m : ℕ) (c : Context) (o : Option RunRates) → Within m c → StepSlot m (control_answer c o).slot
control_step m c None b = same_slot m c b
control_step m c (Some rates) b = rest_step m c c.formats c.geometry c.codec c.phase c.mark rates b

-- other subscriptions, with the number of the next event as it was
events_step : (m : ℕ) (c : Context) (events : EventState) → events.next_seq ≡ c.events.next_seq → Within m c → StepSlot m (Some (settle (record c { events = events })))
events_step m c events e b =
    let l = b.events_at_most in
    settled_slot m (record c { events = events }) (record { out = b.out; cap = b.cap; out_at = let x = b.out_at in omega arith; cap_at = let x = b.cap_at in omega arith; events_at_most = omega arith })

subscribed_next : (s : EventState) (event : ℕ) (t : Bool) → (cond t (record s { eos = true }) (record s { source_change = true })).next_seq ≡ s.next_seq
subscribed_next s event true = refl
subscribed_next s event false = refl

unsubscribed_next : (s : EventState) (t : Bool) → (cond t (record s { eos = false }) (record s { source_change = false })).next_seq ≡ s.next_seq
unsubscribed_next s true = refl
unsubscribed_next s false = refl

close_step : (m : ℕ) (c : Context) (t : Bool) → Within m c → StepSlot m (cond t (record { slot = None; reply = Done; bytes = [] }) (unchanged c Blocked)).slot
unfolding StepSlot
close_step m c true b = tt
close_step m c false b = wider m m (m + 1) (m + 1) c (omega arith) (omega arith) b

context_step : (m : ℕ) (c : Context) (request : Call) (bytes : List ℕ) (found : Bool) → Within m c → StepSlot m (context_answer c request bytes found).slot
unfolding context_answer
context_step m c (Open kind) bytes found b = same_slot m c b
context_step m c Close bytes found b = close_step m c (is_none c.running) b
context_step m c (EnumFmt side index) bytes found b = desc_step m c (slice_get (formats_listed c.kind side c.formats) index) b
context_step m c (GetFmt side) bytes found b = same_slot m c b
context_step m c (TryFmt side want) bytes found b = same_slot m c b
context_step m c (SetFmt side want) bytes found b =
    let formats = formats_for c.kind side c.formats want in
    unless_step m c (set_refusal c side) (answered (after_new_format c.kind side (record c { formats = formats })) (Fmt (format_of formats side))) b (format_step m c.kind side c formats b)
context_step m c (ReqBufs side count) bytes found b =
    let q = reqbufs_after (queue_of c side) count (sizeimage c side) in
    let y = after_new_buffers c.kind side (with_queue c side q) in
    let a = answered y (Count (min count most_buffers)) in
    let l = ordinal_at m m c side b in
    unless_step m c (reqbufs_refusal (queue_of c side)) (if_found c found a) b
    (found_step m c found a b
    (settled_slot m y
    (new_bounded (m + 1) m c.kind side (with_queue c side q)
    (side_bounded (m + 1) m c side q (new_queued (queue_of c side) count (sizeimage c side) (queued_at m m c side b)) (omega arith) (more_buffers m c b)))))
context_step m c (CreateBufs side count size) bytes found b =
    let q = queue_of c side in
    let y = with_queue c side (create_after q count size) in
    let a = answered y (Created (buffer_count q) (created q count)) in
    let l = ordinal_at m m c side b in
    unless_step m c (create_refusal q count size) (if_found c found a) b (found_step m c found a b (settled_slot m y (side_bounded (m + 1) m c side (create_after q count size) (queued_at m m c side b) (omega arith) (more_buffers m c b))))
context_step m c (QueryBuf side index) bytes found b = query_step m c (querybuf_reply (queue_of c side) index) b
context_step m c (QBuf side index used stamp) bytes found b =
    let q = queue_of c side in
    let y = with_queue c side (qbuf_after q index used stamp bytes) in
    let o = refuse_if (is_no_whole_picture c side used) Inval None in
    let e = queue_ordinal q index used stamp bytes (with_index index q.held) in
    let l = ordinal_at m m c side b in
    unless_step m c (held_refusal q.side (with_index index q.held) used (sizeimage c side)) (unless c o (answered y Done)) b
    (unless_step m c o (answered y Done) b
    (settled_slot m y
    (side_bounded (m + 1) m c side (qbuf_after q index used stamp bytes)
    (queue_queued q index used stamp bytes (with_index index q.held) (queued_at m m c side b)) (omega arith) (more_buffers m c b))))
context_step m c (DqBuf side block) bytes found b =
    block_step m c (dqbuf_refusal (queue_of c side) (is_ended c side)) block (taken_answer c side (queue_of c side).done) b (take_step m c side (queue_of c side).done b)
context_step m c (StreamOn side) bytes found b =
    let q = streamon_after (queue_of c side) in
    let y = with_queue c side q in
    let l = ordinal_at m m c side b in
    unless_step m c (streamon_refusal (queue_of c side) (sizeimage c side)) (answered y Done) b (settled_slot m y (side_bounded (m + 1) m c side q (queued_at m m c side b) (omega arith) (more_buffers m c b)))
context_step m c (StreamOff side) bytes found b =
    either_step m (is_none c.running) (answered (streamoff_effect c side) Done) (unchanged c Blocked) (off_step m c side b) (same_slot m c b)
context_step m c (Subscribe event) bytes found b =
    unless_step m c (event_refusal c.kind event) (answered (record c { events = subscribe_after c.events event }) Done) b (events_step m c (subscribe_after c.events event) (subscribed_next c.events event (event == eos_event)) b)
context_step m c (Unsubscribe event) bytes found b =
    unless_step m c (event_refusal c.kind event) (answered (record c { events = unsubscribe_after c.events event }) Done) b (events_step m c (unsubscribe_after c.events event) (unsubscribed_next _ (event == eos_event)) b)
context_step m c (DqEvent block) bytes found b =
    block_step m c (refuse_if (is_empty c.events.pending) NoEnt None) block (answered (record c { events = take_event_after c.events }) (event_reply c.events.pending)) b (events_step m c (take_event_after c.events) refl b)
context_step m c (DecCmd cmd) bytes found b = kind_step m c cmd (is_dec c.kind) b
context_step m c (EncCmd cmd) bytes found b = kind_step m c cmd (is_enc c.kind) b
context_step m c (GetCtrl id) bytes found b = value_step m c (control_of c.kind c.rates id) b
context_step m c (SetCtrl id value) bytes found b = control_step m c (with_control c.kind c.rates id value) b
context_step m c Poll bytes found b = same_slot m c b

BoundedSlot : ℕ → Slot → Type 0
BoundedSlot m None = Unit {0}
BoundedSlot m (Some c) = Within m c

fresh_step : (m : ℕ) (kind : Kind) → StepSlot m (Some (fresh_context kind))
unfolding StepSlot
fresh_step m kind = record { out = omega arith; cap = omega arith; out_at = omega arith; cap_at = omega arith; events_at_most = omega arith }

closed_step : (m : ℕ) (request : Call) (found : Bool) → StepSlot m (closed_answer request found).slot
unfolding closed_answer StepSlot
closed_step m (Open kind) true = fresh_step m kind
closed_step m (Open kind) false = tt
closed_step m request found = tt

answer_step : (m : ℕ) (s : Slot) (request : Call) (bytes : List ℕ) (found : Bool) → BoundedSlot m s → StepSlot m (answer s request bytes found).slot
unfolding answer BoundedSlot
answer_step m None request bytes found b = closed_step m request found
answer_step m (Some c) request bytes found b = context_step m c request bytes found b

-- Claims

cap_claim_queued : (sort : RunSort) (q : QueueState) → Queued q → Queued (cap_after_claim sort q)
cap_claim_queued copy q h = lend_queued q q.ready refl h
cap_claim_queued encode q h = lend_queued q q.ready refl h
cap_claim_queued decode q h = lend_queued q q.ready refl h
cap_claim_queued probe q h = h

cap_claim_ordinal : (sort : RunSort) (q : QueueState) → (cap_after_claim sort q).next_ordinal ≡ q.next_ordinal
cap_claim_ordinal copy q = lend_ordinal q q.ready
cap_claim_ordinal encode q = lend_ordinal q q.ready
cap_claim_ordinal decode q = lend_ordinal q q.ready
cap_claim_ordinal probe q = refl

claimed_bounded : (m : ℕ) (c : Context) (sort : RunSort) (ready : List Buffer) → Within m c → Within m (claim_front c sort ready)
claimed_bounded m c sort [] b = b
claimed_bounded m c sort (x ∷ rest) b =
    let e = lend_ordinal c.out c.out.ready in
    let f = cap_claim_ordinal sort c.cap in
    let l = b.out_at in
    let k = b.cap_at in
    record { out = lend_queued c.out c.out.ready refl b.out; cap = cap_claim_queued sort c.cap b.cap; out_at = omega arith; cap_at = omega arith; events_at_most = b.events_at_most }

claim_step_slot : (m : ℕ) (c : Context) → Within m c → StepSlot m (Some (after_claim c))
unfolding after_claim
claim_step_slot m c b =
    same_slot m (claim_front c (sort_of c.kind c.geometry) c.out.ready) (claimed_bounded m c (sort_of c.kind c.geometry) c.out.ready b)

-- Finishes: what settling does to an effect

record Ends (m : ℕ) (y : Context) : Type 0 where
  pub settled : Within (m + 1) (settle y)

quiet_ends : (m : ℕ) (y : Context) → Within m y → Ends m y
quiet_ends m y b = record { settled = settle_bounded (m + 1) m y (more_buffers m y b) }

rested_ends : (m : ℕ) (y : Context) → IsSettled y → Within (m + 1) y → Ends m y
rested_ends m y s b = record { settled = settled_bounded (m + 1) (m + 1) y s b }

changed_ends : (m : ℕ) (y : Context) → y.phase ≡ owe change → Within (m + 1) y → Ends m y
changed_ends m y e b = record { settled = change_bounded (m + 1) (m + 1) y e b }

done_bounded : (m : ℕ) (c : Context) (j : JobData) (flags : ℕ) → Within m c → Within m (source_done c j flags)
done_bounded m c j flags b =
    let e = retire_ordinal c.out c.out.job j.source.used j.source.bytes flags j.source.stamp in
    let l = b.out_at in
    out_bounded m m c (retire_after c.out j.source.used j.source.bytes flags j.source.stamp) (retire_queued c.out c.out.job j.source.used j.source.bytes flags j.source.stamp refl b.out) (omega arith) b

back_bounded : (m : ℕ) (c : Context) (j : JobData) (cursor : ℕ) → Within m c → Within m (source_back c j cursor)
back_bounded m c j cursor b =
    let e = give_ordinal c.out c.out.job cursor j.source.bytes in
    let l = b.out_at in
    out_bounded m m c (give_back_after c.out cursor j.source.bytes) (give_queued c.out c.out.job cursor j.source.bytes refl b.out) (omega arith) b

moved_bounded : (m : ℕ) (c : Context) (j : JobData) (cursor : ℕ) (t : Bool) → Within m c → Within m (source_moved c j cursor t)
moved_bounded m c j cursor true b = done_bounded m c j 0 b
moved_bounded m c j cursor false b = back_bounded m c j cursor b

retired_bounded : (m : ℕ) (c : Context) (used : ℕ) (bytes : List ℕ) (flags : ℕ) (stamp : Stamp) → Within m c → Within m (record c { cap = retire_after c.cap used bytes flags stamp })
retired_bounded m c used bytes flags stamp b =
    let e = retire_ordinal c.cap c.cap.job used bytes flags stamp in
    let l = b.cap_at in
    cap_bounded m m c (retire_after c.cap used bytes flags stamp) (retire_queued c.cap c.cap.job used bytes flags stamp refl b.cap) (omega arith) b

dest_split_ends :
    (m : ℕ) (c : Context) (used : ℕ) (bytes : List ℕ) (flags : ℕ) (stamp : Stamp) (t : Bool) → Within m c
    → Ends m (cond t (raise_end drain (record c { cap = retire_after c.cap used bytes (flags + last_flag) stamp; phase = last drain })) (record c { cap = retire_after c.cap used bytes flags stamp }))
dest_split_ends m c used bytes flags stamp true b =
    let x = record c { cap = retire_after c.cap used bytes (flags + last_flag) stamp } in
    let y = record x { phase = last drain } in
    rested_ends m (raise_end drain y) (record { noted = refl; given = refl })
    (wider m (m + 1) (m + 1) (m + 1) (raise_end drain y) (omega arith) (omega arith)
    (raise_bounded m m drain y (rest_bounded m m x x.formats x.geometry x.codec (last drain) x.mark x.rates x.running (retired_bounded m c used bytes (flags + last_flag) stamp b))))
dest_split_ends m c used bytes flags stamp false b =
    quiet_ends m (record c { cap = retire_after c.cap used bytes flags stamp }) (retired_bounded m c used bytes flags stamp b)

dest_ends : (m : ℕ) (c : Context) (dest : List Buffer) (used_up : Bool) (used : ℕ) (bytes : List ℕ) (flags : ℕ) (stamp : Stamp) → Within m c → Ends m (dest_done c dest used_up used bytes flags stamp)
dest_ends m c [] used_up used bytes flags stamp b = quiet_ends m c b
dest_ends m c (x ∷ bs) used_up used bytes flags stamp b =
    dest_split_ends m c used bytes flags stamp (used_up && is_drained c.out.ready c.mark) b

dest_back_bounded : (m : ℕ) (c : Context) (dest : List Buffer) → Within m c → Within m (dest_back c dest)
dest_back_bounded m c [] b = b
dest_back_bounded m c (x ∷ bs) b =
    let e = give_ordinal c.cap c.cap.job 0 [] in
    let l = b.cap_at in
    cap_bounded m m c (give_back_after c.cap 0 []) (give_queued c.cap c.cap.job 0 [] refl b.cap) (omega arith) b

still_run : (y : Context) → is_run y.phase ≡ true → y.cap.streams ≡ false → IsSettled y
still_run y p s = record { noted = quiet_test (is_run y.phase) y.cap.streams _ s; given = run_owes y.phase p }
  where
    quiet_test : (a b c : Bool) → b ≡ false → (a && (b && c)) ≡ false
    quiet_test true b c e = ap (λ t. t && c) e
    quiet_test false b c e = refl

    run_owes : (q : PhaseState) → is_run q ≡ true → last_not_given q y.cap.ready ≡ false
    run_owes run e = refl
    run_owes (owe cause) e = absurd (false≢true e)
    run_owes (last cause) e = refl
    run_owes (stopped cause) e = refl

change_ends : (m : ℕ) (c : Context) (t : Bool) → c.cap.streams ≡ t → is_run c.phase ≡ true → Within (m + 1) c → Ends m (cond t (record c { phase = owe change }) c)
change_ends m c true e p b =
    changed_ends m (record c { phase = owe change }) refl (rest_bounded (m + 1) (m + 1) c c.formats c.geometry c.codec (owe change) c.mark c.rates c.running b)
change_ends m c false e p b = rested_ends m c (still_run c p e) b

back_phase : (c : Context) (dest : List Buffer) → (dest_back c dest).phase ≡ c.phase
back_phase c [] = refl
back_phase c (x ∷ bs) = refl

decoded_ends : (m : ℕ) (c : Context) (j : JobData) (cursor : ℕ) (result : DecodedResult) → is_run c.phase ≡ true → Within m c → Ends m (decoded_effect c j cursor result)
decoded_ends m c j cursor (picture bytes key stamp) p b =
    let used_up = cursor == j.source.used in
    dest_ends m (source_moved c j cursor used_up) j.dest used_up (length bytes) bytes (type_flag key) stamp (moved_bounded m c j cursor used_up b)
decoded_ends m c j cursor (damaged stamp) p b =
    let used_up = cursor == j.source.used in
    dest_ends m (source_moved c j cursor used_up) j.dest used_up 0 [] error_flag stamp (moved_bounded m c j cursor used_up b)
decoded_ends m c j cursor (changed geometry) p b =
    let here = dest_back (source_back c j cursor) j.dest in
    let there = record here { geometry = Some geometry; formats = formats_found here.formats geometry; events = raise_after here.events source_change_event 1 } in
    let x = dest_back_bounded m (source_back c j cursor) j.dest (back_bounded m c j cursor b) in
    let q : is_run here.phase ≡ true = ap is_run (back_phase (source_back c j cursor) j.dest) ∙ p in
    change_ends m there here.cap.streams refl q
    (record
    { out = x.out; cap = x.cap; out_at = let l = x.out_at in omega arith; cap_at = let l = x.cap_at in omega arith; events_at_most = raised here.events source_change_event 1 m x.events_at_most })
decoded_ends m c j cursor spent p b =
    quiet_ends m (dest_back (source_done c j 0) j.dest) (dest_back_bounded m (source_done c j 0) j.dest (done_bounded m c j 0 b))

codec_bounded : (m : ℕ) (c : Context) (codec : CodecState) → Within m c → Within m (record c { codec = codec })
codec_bounded m c codec b = rest_bounded m m c c.formats c.geometry codec c.phase c.mark c.rates c.running b

effect_ends : (m : ℕ) (c : Context) (j : JobData) (result : RunResult) → is_run c.phase ≡ true → Within m c → Ends m (run_effect c j result)
effect_ends m c j (copied bytes) p b =
    dest_ends m (source_done c j 0) j.dest true (length bytes) bytes 0 j.source.stamp (done_bounded m c j 0 b)
effect_ends m c j (encoded frame) p b =
    let x = record c { codec = encoder frame.state } in
    dest_ends m (source_done x j 0) j.dest true (length frame.bytes) frame.bytes (type_flag frame.key) j.source.stamp (done_bounded m x j 0 (codec_bounded m c (encoder frame.state) b))
effect_ends m c j (decoded step) p b =
    decoded_ends m (record c { codec = decoder step.state }) j (j.source.cursor + step.moved) (step_outcome j.format.fourcc step) p (codec_bounded m c (decoder step.state) b)

fault_ends : (m : ℕ) (c : Context) (j : JobData) → Within m c → Ends m (fault_effect c j)
fault_ends m c j b =
    let x = record c { codec = reset c.codec } in
    dest_ends m (source_done x j error_flag) j.dest true 0 [] error_flag j.source.stamp (done_bounded m x j error_flag (codec_bounded m c (reset c.codec) b))

finish_bounded : (m : ℕ) (coder : Coder) (c : Context) (r : Running) (fault : Bool) → is_run c.phase ≡ true → Within m c → Within (m + 1) (after_finish coder c r fault)
unfolding after_finish run_result
finish_bounded m coder c r true p b =
    (fault_ends m (record c { running = None }) (job_data c r) (rest_bounded m m c c.formats c.geometry c.codec c.phase c.mark c.rates None b)).settled
finish_bounded m coder c r false p b =
    (effect_ends m (record c { running = None }) (job_data c r) (run_result coder (job_data c r)) p (rest_bounded m m c c.formats c.geometry c.codec c.phase c.mark c.rates None b)).settled

finish_step_slot : (m : ℕ) (coder : Coder) (c : Context) (r : Running) (fault : Bool) → is_run c.phase ≡ true → Within m c → StepSlot m (Some (after_finish coder c r fault))
unfolding StepSlot
finish_step_slot m coder c r fault p b = finish_bounded m coder c r fault p b

-- The device

after_one : (m : ℕ) (s : Slot) → StepSlot m s → BoundedSlot (m + 1) s
unfolding StepSlot BoundedSlot
after_one m None b = tt
after_one m (Some c) b = b

slot_wider : (m n : ℕ) (s : Slot) → m ≤ n → BoundedSlot m s → BoundedSlot n s
unfolding BoundedSlot
slot_wider m n None h b = tt
slot_wider m n (Some c) h b = wider m m n n c h h b

abbrev AllBounded : ℕ → List Slot → Type 0
AllBounded m slots = (k : ℕ) → BoundedSlot m (get_or slots k None)

set_split : (m n : ℕ) (slots : List Slot) (j k : ℕ) (s : Slot) → m ≤ n → j < length slots → BoundedSlot n s → AllBounded m slots → (t : Bool) → eqb j k ≡ t → BoundedSlot n (get_or (set slots j s) k None)
set_split m n slots j k s h l b a true e =
    subst (λ i. BoundedSlot n (get_or (set slots j s) i None)) (eqb-true j k e) (subst (BoundedSlot n) (sym (get_or-set_same slots j s None l)) b)
set_split m n slots j k s h l b a false e =
    subst (BoundedSlot n) (sym (get_or-set_other slots j k s None (λ (w : k ≡ j). eqb-false j k e (sym w)))) (slot_wider m n (get_or slots k None) h (a k))

set_bounded : (m n : ℕ) (slots : List Slot) (j : ℕ) (s : Slot) → m ≤ n → j < length slots → BoundedSlot n s → AllBounded m slots → AllBounded n (set slots j s)
set_bounded m n slots j s h l b a = λ k. set_split m n slots j k s h l b a (eqb j k) refl

-- a call that answers Blocked is no step, and changes nothing
call_bounded : (m : ℕ) (s : Slot) (request : Call) (bytes : List ℕ) (found : Bool) → BoundedSlot m s → (reply : Reply) → (answer s request bytes found).reply ≡ reply → BoundedSlot (m + steps_of reply) (answer s request bytes found).slot
call_bounded m s request bytes found b Blocked e =
    subst (BoundedSlot (m + 0)) (sym (blocked_stays s request bytes found e)) (slot_wider m (m + 0) s (omega arith) b)
call_bounded m s request bytes found b reply e =
    after_one m (answer s request bytes found).slot (answer_step m s request bytes found b)

-- what holds of a device and its steps
record InSteps (d : DeviceState) : Type 0 where
  pub bounded : AllBounded d.steps d.slots

-- a running job is one of a context in phase Run
abbrev RunsInRun : DeviceState → Type 0
RunsInRun d = (k : ℕ) (c : Context) (r : Running) → slot_of d k ≡ Some c → c.running ≡ Some r → is_run c.phase ≡ true

call_steps :
    (d : DeviceState) (j : ℕ) (request : Call) (bytes : List ℕ) (found : Bool) → InSteps d → (t : Bool) → ltb j (length d.slots) ≡ t
    → InSteps (cond t (call_answered d j (answer (slot_of d j) request bytes found)) (ignored d)).device
unfolding with_slot
call_steps d j request bytes found x true e =
    let a = answer (slot_of d j) request bytes found in
    record { bounded = set_bounded d.steps (d.steps + steps_of a.reply) d.slots j a.slot (omega arith) (ltb-true j (length d.slots) e) (call_bounded d.steps (slot_of d j) request bytes found (x.bounded j) a.reply refl) x.bounded }
call_steps d j request bytes found x false e = x

within_of : (m : ℕ) (c : Context) → BoundedSlot m (Some c) → Within m c
unfolding BoundedSlot
within_of m c v = v

open_bounded : (m : ℕ) (c : Context) (s : Slot) → s ≡ Some c → BoundedSlot m s → Within m c
open_bounded m c s e b = within_of m c (subst (BoundedSlot m) e b)

claim_steps : (d : DeviceState) (worker j : ℕ) (rest : List ℕ) → InSteps d → (s : Slot) → slot_of d j ≡ s → InSteps (claim_slot (record d { waiting = rest }) worker j s).device
unfolding with_slot
claim_steps d worker j rest x None e = record { bounded = x.bounded }
claim_steps d worker j rest x (Some c) e =
    record {
      bounded =
          set_bounded d.steps (d.steps + 1) d.slots j (Some (after_claim c)) (omega arith) (is_there d.slots j c e)
          (after_one d.steps (Some (after_claim c)) (claim_step_slot d.steps c (open_bounded d.steps c (slot_of d j) e (x.bounded j)))) x.bounded;
    }

first_steps : (d : DeviceState) (worker : ℕ) (waiting : List ℕ) → InSteps d → InSteps (claim_first d worker waiting).device
first_steps d worker [] x = x
first_steps d worker (j ∷ rest) x = claim_steps d worker j rest x (slot_of d j) refl

free_steps : (d : DeviceState) (worker : ℕ) (a b : Bool) → InSteps d → InSteps (cond a (cond b (claim_first d worker d.waiting) (ignored d)) (ignored d)).device
free_steps d worker true true x = first_steps d worker d.waiting x
free_steps d worker true false x = x
free_steps d worker false b x = x

job_steps : (coder : Coder) (d : DeviceState) (worker j : ℕ) (c : Context) (fault : Bool) → slot_of d j ≡ Some c → RunsInRun d → InSteps d → (o : Option Running) → c.running ≡ o → InSteps (finish_job coder d worker j c o fault).device
unfolding with_slot
job_steps coder d worker j c fault e h x None p = x
job_steps coder d worker j c fault e h x (Some r) p =
    record {
      bounded =
          set_bounded d.steps (d.steps + 1) d.slots j (Some (after_finish coder c r fault)) (omega arith) (is_there d.slots j c e)
          (after_one d.steps (Some (after_finish coder c r fault)) (finish_step_slot d.steps coder c r fault (h j c r e p) (open_bounded d.steps c (slot_of d j) e (x.bounded j))))
          x.bounded;
    }

ended_steps : (coder : Coder) (d : DeviceState) (worker j : ℕ) (fault : Bool) → RunsInRun d → InSteps d → (s : Slot) → slot_of d j ≡ s → InSteps (finish_slot coder d worker j s fault).device
ended_steps coder d worker j fault h x None e = x
ended_steps coder d worker j fault h x (Some c) e = job_steps coder d worker j c fault e h x c.running refl

worker_steps : (coder : Coder) (d : DeviceState) (worker : ℕ) (fault : Bool) → RunsInRun d → InSteps d → (o : Option ℕ) → InSteps (finish_of coder d worker o fault).device
worker_steps coder d worker fault h x None = x
worker_steps coder d worker fault h x (Some j) = ended_steps coder d worker j fault h x (slot_of d j) refl

event_steps : (coder : Coder) (d : DeviceState) (e : DeviceEvent) → RunsInRun d → InSteps d → InSteps (device_step coder d e).device
unfolding device_step
event_steps coder d (call j request bytes found) h x = call_steps d j request bytes found x (ltb j (length d.slots)) refl
event_steps coder d (claim worker) h x = free_steps d worker (ltb worker (length d.workers)) (is_none (job_of d worker)) x
event_steps coder d (finish worker fault) h x = worker_steps coder d worker fault h x (job_of d worker)
event_steps coder d shut h x =
    record { bounded = λ k. slot_wider d.steps (d.steps + 1) (slot_of d k) (omega arith) (x.bounded k) }

runs_in_run : (c : Context) (r : Running) → c.running ≡ Some r → IsSoundButUnsettled c → is_run c.phase ≡ true
runs_in_run c r e f = (subst (HasItsBuffers c) e f.has_buffers).0

comes_runs : (coder : Coder) (n : ℕ) (d : DeviceState) → Comes coder n d → RunsInRun d
comes_runs coder n d c k x r e p =
    let s : slot_of d k ≡ solo_slot coder None (projection coder (new_device n) c.past k) = ap (λ y. slot_of y k) c.same ∙ (isolated coder n k c.past).slot in
    let o = subst IsOrderedSlot (sym s ∙ e) (always_ordered coder (projection coder (new_device n) c.past k)) in
    runs_in_run x r p o.firm

run_steps : (coder : Coder) (n : ℕ) (d : DeviceState) (es : List DeviceEvent) → Comes coder n d → InSteps d → InSteps (device_after coder d es)
run_steps coder n d [] c x = x
run_steps coder n d (e ∷ es) c x =
    run_steps coder n (device_step coder d e).device es (comes_next coder n d e c) (event_steps coder d e (comes_runs coder n d c) x)

none_bounded : (m : ℕ) → BoundedSlot m None
unfolding BoundedSlot
none_bounded m = tt

closed_bounded : (m : ℕ) (s : Slot) → s ≡ None → BoundedSlot m s
closed_bounded m s e = subst (BoundedSlot m) (sym e) (none_bounded m)

counted_of : (m : ℕ) (c : Context) → Within m c → IsCounted m c
counted_of m c b =
    let x = b.out in
    let y = b.cap in
    let u = b.out_at in
    let v = b.cap_at in
    record { out_queued = b.out_at; cap_queued = b.cap_at; out_done = omega arith; cap_done = omega arith; events = b.events_at_most }

pub counters_are_steps : CountersAreSteps
counters_are_steps coder n k history c e =
    let d = device_after coder (new_device n) history in
    let x = run_steps coder n (new_device n) history (record { past = []; same = refl }) (record { bounded = λ i. closed_bounded 0 (slot_of (new_device n) i) (closed_at_first n i) }) in
    counted_of d.steps c (open_bounded d.steps c (slot_of d k) e (x.bounded k))
