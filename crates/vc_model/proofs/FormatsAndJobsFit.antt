-- In every context formats and sizes fit each other, and the running job is one that this context could have claimed.
-- A SetFmt is refused while its queue has buffers, and a job needs buffers; a change of the resolution comes with the
-- end of a job.
use Rattle.std.proofs.Common.{ℕ, ◌≡◌, ◌≤◌, ◌+◌, ◌==◌, nat_lt, nat_le, Bool, true, false, not, cond, ◌&&◌, ◌||◌, is_none, is_some, Option, Some, None, List, [], ◌∷◌, ◌++◌, length, refl, sym, ap, ◌∙◌, subst, arith}
use Rattle.std.specs.List.{list_all}
use Rattle.std.proofs.lemmas.Bool.{ltb-false, le-leb, false≢true, or_parts}
use Rattle.std.proofs.lemmas.List.Folds.{list_all-append}
use Rattle.vc_base.specs.declared.Stamp.{Stamp}
use Rattle.vc_base.specs.declared.Side.{Side}
use Rattle.vc_base.specs.declared.Side.TheVariants.{Out, Cap}
use Rattle.vc_base.specs.declared.Kind.{Kind}
use Rattle.vc_base.specs.declared.Kind.TheVariants.{Copy, Enc, Dec}
use Rattle.vc_base.specs.declared.Fourcc.{Fourcc}
use Rattle.vc_base.specs.declared.Format.{Format}
use Rattle.vc_base.specs.declared.Errno.{Errno}
use Rattle.vc_base.specs.declared.Errno.TheVariants.{NoEnt, Again, NoMem, Busy, Inval, NoTty, Pipe}
use Rattle.vc_base.specs.declared.Call.{Call}
use Rattle.vc_base.specs.declared.Call.TheVariants.{Open, Close, EnumFmt, GetFmt, TryFmt, SetFmt, ReqBufs, CreateBufs, QueryBuf, QBuf, DqBuf, StreamOn, StreamOff, Subscribe, Unsubscribe, DqEvent, DecCmd, EncCmd, GetCtrl, SetCtrl, Poll}
use Rattle.vc_base.specs.declared.Reply.{Reply}
use Rattle.vc_base.specs.declared.Reply.TheVariants.{Done, Created, Blocked}
use Rattle.vc_base.specs.Buffers.{Buffer, QueueState, buffer_count, is_empty, is_out, refuse_if, with_index, queued_buffer, queue_held, held_refusal}
use Rattle.vc_base.specs.Buffers.{take_front, long_enough, reqbufs_after, create_refusal, create_after, created, qbuf_after, dqbuf_after, streamon_refusal}
use Rattle.vc_base.specs.Buffers.{streamon_after, streamoff_after, dqbuf_refusal}
use Rattle.vc_base.specs.Events.{EventState}
use Rattle.vc_model.specs.Formats.{FormatPair}
use Rattle.vc_model.specs.Coder.{CodecState, reset}
use Rattle.vc_defs.specs.Encoder.{RunRates}
use Rattle.vc_model.specs.Context.{Context, Slot, Running, Cause, drain, change, PhaseState, run, owe, last, stopped, fresh_context, queue_of, with_queue, is_run, sizeimage, is_dec, is_enc, is_drained}
use Rattle.vc_model.specs.Answer.{Answer, unchanged, refused, answered, unless, if_found, unless_or_block, desc_answer, set_refusal, set_answer}
use Rattle.vc_model.specs.Answer.{after_new_format, reqbufs_answer, after_new_buffers, create_answer, query_answer, qbuf_answer, is_no_whole_picture}
use Rattle.vc_model.specs.Answer.{taken_answer, stop_at_last, is_ended, streamon_answer, streamoff_effect, without_drain_stop, after_output_off}
use Rattle.vc_model.specs.Answer.{mark_after_restart, after_capture_off, both_stream, stop_answer, start_is_early, start_answer, command_answer, value_answer}
use Rattle.vc_model.specs.Answer.{control_answer, context_answer, closed_answer, answer}
use Rattle.vc_model.specs.Phases.{is_stopped_by_drain}
use Rattle.vc_model.specs.Sound.{HasItsBuffers, stops_by_change, IsSoundButUnsettled, IsOrderedSlot}
use Rattle.vc_model.proofs.PartsOfTests.{and_left}
use Rattle.std.specs.Prelude.{min, slice_get}
use Rattle.std.specs.List.{list_any}
use Rattle.std.proofs.Common.{map, length-append}
use Rattle.std.proofs.lemmas.Slice.Eq.{bytes_eq-Decides}
use Rattle.vc_base.specs.declared.Reply.TheVariants.{Fmt, Count}
use Rattle.vc_base.specs.Buffers.{held_again, new_buffers, lend_front, lend_after, retire_from, retire_after, give_back_from, give_back_after, known_bytes, zero_stamp, reqbufs_refusal, querybuf_reply}
use Rattle.vc_base.specs.Limits.{most_buffers, last_flag, error_flag, source_change_event}
use Rattle.vc_base.specs.Events.{event_refusal, event_reply, raise_after, subscribe_after, unsubscribe_after, take_event_after}
use Rattle.vc_defs.specs.declared.Layout.{Layout}
use Rattle.vc_defs.specs.declared.Layout.TheVariants.{Grey, C420, C422}
use Rattle.vc_defs.specs.declared.Geometry.{Geometry}
use Rattle.vc_defs.specs.Raw.{grey, yu12, nv12, yuyv, same_fourcc, layout_of, raw_formats, first_raw}
use Rattle.vc_defs.specs.Decoder.{DecodedStep, DecodedResult, picture, damaged, changed, spent, step_outcome}
use Rattle.vc_model.specs.Formats.{formats_at_open, formats_listed, formats_for, formats_found}
use Rattle.vc_model.specs.Coder.{Coder, encoder, decoder}
use Rattle.vc_model.specs.Context.{RunSort, copy, encode, decode, probe, format_of, raise_end, settle, settle_drain, settle_last, give_last}
use Rattle.vc_model.specs.Answer.{control_of, with_control}
use Rattle.vc_model.specs.Runs.{is_claimable, sort_of, cap_after_claim, running_of, claim_front, after_claim, source_of, JobData, job_data, RunResult, copied}
use Rattle.vc_model.specs.Runs.{encoded, decoded, run_result, source_done, source_back, source_moved, dest_done, dest_back, decoded_effect, run_effect}
use Rattle.vc_model.specs.Runs.{fault_effect, type_flag, after_finish}
use Rattle.vc_model.specs.Solo.{SoloEvent, Called, Claims, Finishes, solo_step, solo_slot, claim_step, solo_finish, finish_step}
use Rattle.vc_model.specs.Sound.{dest_count, IsOrderedSlot, HasFormats, HasGeometry, has_dest, HasRun, AreShort, IsFit, IsSoundSlot}
use Rattle.vc_model.specs.Soundness.{Soundness}
use Rattle.vc_model.proofs.PartsOfTests.{and_right, and_both}
use Rattle.vc_model.proofs.QueuesKeepSound.{find_index, length_without, length_new, length_back}
use Rattle.vc_model.proofs.AnswersKeepSound.{refused_split, restart_change}
use Rattle.vc_model.proofs.EventsKeepSound.{run_fits, HasResult, step_sound, always_ordered}

-- the context fits, and its running job is one of it
abbrev Fits : Context → Type 0
Fits c = IsFit c × HasRun c.kind c.formats c.geometry c.running

FitSlot : Slot → Type 0
FitSlot None = Unit {0}
FitSlot (Some c) = Fits c

-- Queues

lend_few : (q : QueueState) (ready : List Buffer) → q.ready ≡ ready → buffer_count (lend_front q ready) ≤ buffer_count q
lend_few q [] e = omega arith
lend_few q (b ∷ rest) e = let l = ap length e in omega arith

retire_few : (q : QueueState) (job : List Buffer) (used : ℕ) (bytes : List ℕ) (flags : ℕ) (stamp : Stamp) → q.job ≡ job → buffer_count (retire_from q job used bytes flags stamp) ≤ buffer_count q
retire_few q [] used bytes flags stamp e = omega arith
retire_few q (b ∷ bs) used bytes flags stamp e =
    let x : Buffer = record b { used = used; bytes = known_bytes q.side flags bytes; flags = flags; stamp = stamp; seq = q.next_seq } in
    let l = ap length e in
    let m = length-append q.done (x ∷ []) in
    omega arith

give_few : (q : QueueState) (job : List Buffer) (cursor : ℕ) (bytes : List ℕ) → q.job ≡ job → buffer_count (give_back_from q job cursor bytes) ≤ buffer_count q
give_few q [] cursor bytes e = omega arith
give_few q (b ∷ bs) cursor bytes e = let l = ap length e in omega arith

take_few : (q : QueueState) (ds : List Buffer) → q.done ≡ ds → buffer_count (take_front q ds) ≤ buffer_count q
take_few q [] e = omega arith
take_few q (b ∷ rest) e =
    let l = ap length e in
    let m = length-append q.held (held_again b ∷ []) in
    omega arith

queue_few : (q : QueueState) (k used : ℕ) (stamp : Stamp) (bytes : List ℕ) (o : Option Buffer) → with_index k q.held ≡ o → buffer_count (queue_held q k o used stamp bytes) ≤ buffer_count q
queue_few q k used stamp bytes None e = omega arith
queue_few q k used stamp bytes (Some b) e =
    let found = (find_index q.held k b e).1 in
    let l = length_without q.held k in
    let m = length-append q.ready (queued_buffer q.side b used stamp bytes q.next_ordinal ∷ []) in
    omega arith

off_few : (q : QueueState) → buffer_count (streamoff_after q) ≤ buffer_count q
off_few q =
    let l1 = length-append (q.held ++ map held_again q.ready) (map held_again q.done) in
    let l2 = length-append q.held (map held_again q.ready) in
    let l3 = length_back q.ready in
    let l4 = length_back q.done in
    omega arith

new_few : (q : QueueState) (count size : ℕ) → buffer_count (reqbufs_after q count size) ≤ most_buffers
new_few q count size = let l = length_new size 0 (min count most_buffers) in omega arith

more_few : (q : QueueState) (count size : ℕ) → buffer_count q ≤ most_buffers → buffer_count (create_after q count size) ≤ most_buffers
more_few q count size h =
    let n = created q count in
    let l1 = length_new size (buffer_count q) n in
    let l2 = length-append q.held (new_buffers size (buffer_count q) n) in
    omega arith

-- used bytes
abbrev is_short : Buffer → Bool
is_short b = nat_le b.used b.size

short_end : (bs : List Buffer) (x : Buffer) → AreShort bs → is_short x ≡ true → AreShort (bs ++ x ∷ [])
short_end bs x h e =
    list_all-append is_short bs (x ∷ []) ∙ (ap (λ b. b && (is_short x && true)) h ∙ ap (λ b. b && true) e)

-- OUTPUT's lists of buffers that the user does not hold
abbrev Short : QueueState → Type 0
Short q = AreShort q.ready × AreShort q.job × AreShort q.done

lend_short : (q : QueueState) (ready : List Buffer) → q.ready ≡ ready → Short q → Short (lend_front q ready)
lend_short q [] e h = h
lend_short q (b ∷ rest) e h =
    let all = subst AreShort e h.0 in
    (and_right (is_short b) (list_all is_short rest) all, and_both (is_short b) true (and_left (is_short b) (list_all is_short rest) all) refl, h.2)

retire_short : (q : QueueState) (job : List Buffer) (flags : ℕ) → q.job ≡ job → Short q → Short (retire_from q job (source_of job).used (source_of job).bytes flags (source_of job).stamp)
retire_short q [] flags e h = h
retire_short q (b ∷ bs) flags e h =
    let all = subst AreShort e h.1 in
    let x : Buffer = record b { bytes = known_bytes q.side flags b.bytes; flags = flags; seq = q.next_seq } in
    (h.0, refl, short_end q.done x h.2 (and_left (is_short b) (list_all is_short bs) all))

give_short : (q : QueueState) (job : List Buffer) (cursor : ℕ) (bytes : List ℕ) → q.job ≡ job → Short q → Short (give_back_from q job cursor bytes)
give_short q [] cursor bytes e h = h
give_short q (b ∷ bs) cursor bytes e h =
    let all = subst AreShort e h.1 in
    (and_both (is_short b) (list_all is_short q.ready) (and_left (is_short b) (list_all is_short bs) all) h.0, refl, h.2)

take_short : (q : QueueState) (ds : List Buffer) → q.done ≡ ds → Short q → Short (take_front q ds)
take_short q [] e h = h
take_short q (b ∷ rest) e h = (h.0, h.1, and_right (is_short b) (list_all is_short rest) (subst AreShort e h.2))

queue_short : (q : QueueState) (k used : ℕ) (stamp : Stamp) (bytes : List ℕ) (o : Option Buffer) (least : ℕ) → q.side ≡ Out → held_refusal q.side o used least ≡ None → Short q → Short (queue_held q k o used stamp bytes)
queue_short q k used stamp bytes None least s r h = h
queue_short q k used stamp bytes (Some b) least s r h =
    let t = (refused_split (is_out q.side && nat_lt b.size used) Inval (refuse_if (nat_lt b.size least) Inval None) r).0 in
    let u : nat_lt b.size used ≡ false = ap (λ side. is_out side && nat_lt b.size used) (sym s) ∙ t in
    let fits : nat_le used b.size ≡ true = le-leb used b.size (ltb-false b.size used u) in
    (short_end q.ready (queued_buffer q.side b used stamp bytes q.next_ordinal) h.0 (ap (λ side. is_short (queued_buffer side b used stamp bytes q.next_ordinal)) s ∙ fits), h.1, h.2)

-- Parts that are changed alone

-- another state of OUTPUT
out_fit : (c : Context) (q : QueueState) → buffer_count q ≤ most_buffers → Short q → Fits c → Fits (record c { out = q })
out_fit c q n s f =
    (record { few_out = n; few_cap = f.0.few_cap; short_ready = s.0; short_job = s.1; short_done = s.2; formats = f.0.formats; geometry = f.0.geometry; change = f.0.change }, f.1)

cap_fit : (c : Context) (q : QueueState) → buffer_count q ≤ most_buffers → Fits c → Fits (record c { cap = q })
cap_fit c q n f =
    (record { few_out = f.0.few_out; few_cap = n; short_ready = f.0.short_ready; short_job = f.0.short_job; short_done = f.0.short_done; formats = f.0.formats; geometry = f.0.geometry; change = f.0.change }, f.1)

short_of : (c : Context) → Fits c → Short c.out
short_of c f = (f.0.short_ready, f.0.short_job, f.0.short_done)

-- another phase, mark and state of the codec
phase_fit : (c : Context) (phase : PhaseState) (mark : Option ℕ) (codec : CodecState) → (stops_by_change phase ≡ true → is_dec c.kind ≡ true) → Fits c → Fits (record c { phase = phase; mark = mark; codec = codec })
phase_fit c phase mark codec h f =
    (record { few_out = f.0.few_out; few_cap = f.0.few_cap; short_ready = f.0.short_ready; short_job = f.0.short_job; short_done = f.0.short_done; formats = f.0.formats; geometry = f.0.geometry; change = h }, f.1)

-- other events and rates
events_fit : (c : Context) (events : EventState) (rates : RunRates) → Fits c → Fits (record c { events = events; rates = rates })
events_fit c events rates f =
    (record { few_out = f.0.few_out; few_cap = f.0.few_cap; short_ready = f.0.short_ready; short_job = f.0.short_job; short_done = f.0.short_done; formats = f.0.formats; geometry = f.0.geometry; change = f.0.change }, f.1)

-- other formats and another geometry
formats_fit :
    (c : Context) (formats : FormatPair) (geometry : Option Geometry) (codec : CodecState) → HasFormats c.kind formats
    → HasGeometry c.kind formats geometry → HasRun c.kind formats geometry c.running → Fits c
    → Fits (record c { formats = formats; geometry = geometry; codec = codec })
formats_fit c formats geometry codec h g r f =
    (record { few_out = f.0.few_out; few_cap = f.0.few_cap; short_ready = f.0.short_ready; short_job = f.0.short_job; short_done = f.0.short_done; formats = h; geometry = g; change = f.0.change }, r)

-- another running job, or none
running_fit : (c : Context) (o : Option Running) → HasRun c.kind c.formats c.geometry o → Fits c → Fits (record c { running = o })
running_fit c o r f =
    (record { few_out = f.0.few_out; few_cap = f.0.few_cap; short_ready = f.0.short_ready; short_job = f.0.short_job; short_done = f.0.short_done; formats = f.0.formats; geometry = f.0.geometry; change = f.0.change }, r)

-- Settling

raised_fit : (cause : Cause) (c : Context) → Fits c → Fits (raise_end cause c)
raised_fit drain c f = events_fit c _ c.rates f
raised_fit change c f = f

give_fit : (c : Context) (cause : Cause) (ready : List Buffer) → c.phase ≡ owe cause → c.cap.ready ≡ ready → Fits c → Fits (give_last c cause ready)
give_fit c cause [] p r f = f
give_fit c cause (b ∷ rest) p r f =
    let q = lend_after c.cap in
    let n1 = lend_few c.cap c.cap.ready refl in
    let n2 = retire_few q q.job 0 [] last_flag zero_stamp refl in
    let n3 = f.0.few_cap in
    raised_fit cause (record c { cap = retire_after q 0 [] last_flag zero_stamp; phase = last cause })
    (phase_fit (record c { cap = retire_after q 0 [] last_flag zero_stamp }) (last cause) c.mark c.codec (λ e. f.0.change (ap stops_by_change p ∙ e))
    (cap_fit c (retire_after q 0 [] last_flag zero_stamp) (omega arith) f))

owed_fit : (c : Context) (phase : PhaseState) → c.phase ≡ phase → Fits c → Fits (settle_last c phase)
owed_fit c run p f = f
owed_fit c (owe cause) p f = give_fit c cause c.cap.ready p refl f
owed_fit c (last cause) p f = f
owed_fit c (stopped cause) p f = f

drained_fit : (c : Context) (b : Bool) → Fits c → Fits (cond b (record c { phase = owe drain }) c)
drained_fit c true f = phase_fit c (owe drain) c.mark c.codec (λ (e : false ≡ true). absurd (false≢true e)) f
drained_fit c false f = f

settle_fit : (c : Context) → Fits c → Fits (settle c)
unfolding settle
settle_fit c f =
    let d = settle_drain c in
    owed_fit d d.phase refl (drained_fit c (is_run c.phase && (c.cap.streams && (is_none c.running && is_drained c.out.ready c.mark))) f)

-- Refusals

unless_fit : (c : Context) (o : Option Errno) (a : Answer) → Fits c → (o ≡ None → FitSlot a.slot) → FitSlot (unless c o a).slot
unfolding FitSlot
unless_fit c None a s h = h refl
unless_fit c (Some e) a s h = s

found_fit : (c : Context) (found : Bool) (a : Answer) → Fits c → FitSlot a.slot → FitSlot (if_found c found a).slot
unfolding FitSlot
found_fit c true a s h = h
found_fit c false a s h = s

block_fit : (c : Context) (o : Option Errno) (block : Bool) (a : Answer) → Fits c → FitSlot a.slot → FitSlot (unless_or_block c o block a).slot
unfolding FitSlot
block_fit c None block a s h = h
block_fit c (Some Again) true a s h = s
block_fit c (Some Again) false a s h = s
block_fit c (Some NoEnt) true a s h = s
block_fit c (Some NoEnt) false a s h = s
block_fit c (Some NoMem) block a s h = s
block_fit c (Some Busy) block a s h = s
block_fit c (Some Inval) block a s h = s
block_fit c (Some NoTty) block a s h = s
block_fit c (Some Pipe) block a s h = s

either_fit : (b : Bool) (x y : Answer) → FitSlot x.slot → FitSlot y.slot → FitSlot (cond b x y).slot
either_fit true x y h k = h
either_fit false x y h k = k

settled_fit : (x : Context) → Fits x → FitSlot (Some (settle x))
unfolding FitSlot
settled_fit x f = settle_fit x f

same_fit : (c : Context) → Fits c → FitSlot (Some c)
unfolding FitSlot
same_fit c f = f

-- Formats

same_as : (f x : Fourcc) → same_fourcc f x ≡ true → f ≡ x
same_as f x e = ap {B = Fourcc} (λ l. record { 0 = l }) ((bytes_eq-Decides f.0 x.0).0 e)

listed_split : (f a b : Fourcc) (layout : Layout) → layout_of a ≡ layout → layout_of b ≡ layout → (s t : Bool) → same_fourcc f a ≡ s → same_fourcc f b ≡ t → (s || (t || false)) ≡ true → layout_of f ≡ layout
listed_split f a b layout p q true t e g h = ap layout_of (same_as f a e) ∙ p
listed_split f a b layout p q false true e g h = ap layout_of (same_as f b g) ∙ q
listed_split f a b layout p q false false e g h = absurd (false≢true h)

single_split : (f a : Fourcc) (layout : Layout) → layout_of a ≡ layout → (s : Bool) → same_fourcc f a ≡ s → (s || false) ≡ true → layout_of f ≡ layout
single_split f a layout p true e h = ap layout_of (same_as f a e) ∙ p
single_split f a layout p false e h = absurd (false≢true h)

-- a raw format of a layout has it
raw_layout : (layout : Layout) (f : Fourcc) (b : Bool) → list_any (same_fourcc f) (raw_formats layout) ≡ b → layout_of (cond b f (first_raw layout)) ≡ layout
raw_layout Grey f true e = single_split f grey Grey refl (same_fourcc f grey) refl e
raw_layout Grey f false e = refl
raw_layout C420 f true e =
    listed_split f yu12 nv12 C420 refl refl (same_fourcc f yu12) (same_fourcc f nv12) refl refl e
raw_layout C420 f false e = refl
raw_layout C422 f true e = single_split f yuyv C422 refl (same_fourcc f yuyv) refl e
raw_layout C422 f false e = refl

third_of : (x y z w : Bool) → (x || false) ≡ true → (x || (y || (z || (w || false)))) ≡ true
third_of true y z w e = refl
third_of false y z w e = absurd (false≢true e)

middle_of : (x y z w : Bool) → (y || (z || false)) ≡ true → (x || (y || (z || (w || false)))) ≡ true
middle_of true y z w e = refl
middle_of false true z w e = refl
middle_of false false true w e = refl
middle_of false false false w e = absurd (false≢true e)

end_of : (x y z w : Bool) → (w || false) ≡ true → (x || (y || (z || (w || false)))) ≡ true
end_of true y z w e = refl
end_of false true z w e = refl
end_of false false true w e = refl
end_of false false false w e = e

raw_listed : (layout : Layout) (f : Fourcc) (b : Bool) → list_any (same_fourcc f) (raw_formats layout) ≡ b → list_any (same_fourcc (cond b f (first_raw layout))) (grey ∷ yu12 ∷ nv12 ∷ yuyv ∷ []) ≡ true
raw_listed Grey f true e = third_of (same_fourcc f grey) (same_fourcc f yu12) (same_fourcc f nv12) (same_fourcc f yuyv) e
raw_listed Grey f false e = refl
raw_listed C420 f true e = middle_of (same_fourcc f grey) (same_fourcc f yu12) (same_fourcc f nv12) (same_fourcc f yuyv) e
raw_listed C420 f false e = refl
raw_listed C422 f true e = end_of (same_fourcc f grey) (same_fourcc f yu12) (same_fourcc f nv12) (same_fourcc f yuyv) e
raw_listed C422 f false e = refl

encoder_listed : (f : Fourcc) (b : Bool) → list_any (same_fourcc f) (grey ∷ yu12 ∷ nv12 ∷ yuyv ∷ []) ≡ b → list_any (same_fourcc (cond b f yu12)) (grey ∷ yu12 ∷ nv12 ∷ yuyv ∷ []) ≡ true
encoder_listed f true e = e
encoder_listed f false e = refl

formats_of : (kind : Kind) (side : Side) (present : FormatPair) (want : Format) → HasFormats kind present → HasFormats kind (formats_for kind side present want)
formats_of Copy side present want h = tt
formats_of Enc Out present want h =
    (refl, encoder_listed want.fourcc (list_any (same_fourcc want.fourcc) (grey ∷ yu12 ∷ nv12 ∷ yuyv ∷ [])) refl)
formats_of Enc Cap present want h = h
formats_of Dec Out present want h = (refl, refl)
formats_of Dec Cap present want h =
    let layout = layout_of present.cap.fourcc in
    (refl, raw_listed layout want.fourcc (list_any (same_fourcc want.fourcc) (raw_formats layout)) refl)

cap_geometry : (present : FormatPair) (want : Format) (o : Option Geometry) → HasGeometry Dec present o → HasGeometry Dec (formats_for Dec Cap present want) o
cap_geometry present want None h = tt
cap_geometry present want (Some g) h =
    let layout = layout_of present.cap.fourcc in
    (h.0, h.1, raw_layout layout want.fourcc (list_any (same_fourcc want.fourcc) (raw_formats layout)) refl ∙ h.2)

-- what SetFmt on CAPTURE leaves of a run that takes no CAPTURE buffer
cap_run : (present : FormatPair) (want : Format) (g : Option Geometry) (o : Option Running) → ((r : Running) → o ≡ Some r → has_dest r.sort ≡ false) → HasRun Dec present g o → HasRun Dec (formats_for Dec Cap present want) g o
cap_run present want g None h x = tt
cap_run present want g (Some r) h x =
    record { sort = x.sort; same_geometry = x.same_geometry; limit = x.limit; format = λ e. absurd (false≢true (sym (h r refl) ∙ e)) }

-- without CAPTURE buffers a job is a probe
no_dest : (sort : RunSort) → dest_count sort ≡ 0 → has_dest sort ≡ false
no_dest copy e = absurd (omega arith)
no_dest encode e = absurd (omega arith)
no_dest decode e = absurd (omega arith)
no_dest probe e = refl

probes : (c : Context) → IsSoundButUnsettled c → buffer_count c.cap ≤ 0 → (r : Running) → c.running ≡ Some r → has_dest r.sort ≡ false
probes c f n r e =
    let h = subst (HasItsBuffers c) e f.has_buffers in
    let m = h.2 in
    no_dest r.sort (omega arith)

-- without OUTPUT buffers, or where OUTPUT does not stream, no job runs
idle_split : (c : Context) (o : Option Running) → HasItsBuffers c o → length c.out.job ≡ 0 → o ≡ None
idle_split c None h n = refl
idle_split c (Some r) h n = let m = h.1 in absurd (omega arith)

idle_without : (c : Context) → IsSoundButUnsettled c → length c.out.job ≡ 0 → c.running ≡ None
idle_without c f n = idle_split c c.running f.has_buffers n

no_run : (c : Context) (kind : Kind) (formats : FormatPair) (geometry : Option Geometry) → c.running ≡ None → HasRun kind formats geometry c.running
no_run c kind formats geometry e = subst (HasRun kind formats geometry) (sym e) tt

copy_geometry : (present formats : FormatPair) (o : Option Geometry) → HasGeometry Copy present o → HasGeometry Copy formats o
copy_geometry present formats None h = tt
copy_geometry present formats (Some g) h = h

encoder_geometry : (present formats : FormatPair) (o : Option Geometry) → HasGeometry Enc present o → HasGeometry Enc formats o
encoder_geometry present formats None h = tt
encoder_geometry present formats (Some g) h = h

-- SetFmt, kind by kind
set_out_fit : (k : Kind) (c : Context) (want : Format) → c.kind ≡ k → c.running ≡ None → Fits c → Fits (after_new_format k Out (record c { formats = formats_for k Out c.formats want }))
set_out_fit Copy c want e n f =
    let formats = formats_for Copy Out c.formats want in
    formats_fit c formats c.geometry c.codec (subst (λ k. HasFormats k formats) (sym e) tt)
    (subst (λ k. HasGeometry k formats c.geometry) (sym e) (copy_geometry c.formats formats c.geometry (subst (λ k. HasGeometry k c.formats c.geometry) e f.0.geometry)))
    (no_run c c.kind formats c.geometry n) f
set_out_fit Enc c want e n f =
    let formats = formats_for Enc Out c.formats want in
    formats_fit c formats c.geometry (reset c.codec)
    (subst (λ k. HasFormats k formats) (sym e) (formats_of Enc Out c.formats want (subst (λ k. HasFormats k c.formats) e f.0.formats)))
    (subst (λ k. HasGeometry k formats c.geometry) (sym e) (encoder_geometry c.formats formats c.geometry (subst (λ k. HasGeometry k c.formats c.geometry) e f.0.geometry)))
    (no_run c c.kind formats c.geometry n) f
set_out_fit Dec c want e n f =
    let formats = formats_for Dec Out c.formats want in
    formats_fit c formats None c.codec
    (subst (λ k. HasFormats k formats) (sym e) (formats_of Dec Out c.formats want (subst (λ k. HasFormats k c.formats) e f.0.formats)))
    (subst (λ k. HasGeometry k formats None) (sym e) tt) (no_run c c.kind formats None n) f

set_cap_fit : (k : Kind) (c : Context) (want : Format) → c.kind ≡ k → ((r : Running) → c.running ≡ Some r → has_dest r.sort ≡ false) → Fits c → Fits (after_new_format k Cap (record c { formats = formats_for k Cap c.formats want }))
set_cap_fit Copy c want e n f = f
set_cap_fit Enc c want e n f = f
set_cap_fit Dec c want e n f =
    let formats = formats_for Dec Cap c.formats want in
    formats_fit c formats c.geometry c.codec
    (subst (λ k. HasFormats k formats) (sym e) (formats_of Dec Cap c.formats want (subst (λ k. HasFormats k c.formats) e f.0.formats)))
    (subst (λ k. HasGeometry k formats c.geometry) (sym e) (cap_geometry c.formats want c.geometry (subst (λ k. HasGeometry k c.formats c.geometry) e f.0.geometry)))
    (subst (λ k. HasRun k formats c.geometry c.running) (sym e) (cap_run c.formats want c.geometry c.running n (subst (λ k. HasRun k c.formats c.geometry c.running) e f.1)))
    f

-- a job list is no longer than all
job_below : (q : QueueState) → buffer_count q ≤ 0 → length q.job ≡ 0
job_below q n = omega arith

set_fit : (c : Context) (side : Side) (want : Format) → IsSoundButUnsettled c → Fits c → FitSlot (set_answer c side want).slot
set_fit c Out want x f =
    let formats = formats_for c.kind Out c.formats want in
    unless_fit c (set_refusal c Out) (answered (after_new_format c.kind Out (record c { formats = formats })) (Fmt (format_of formats Out))) f
    (λ (p : set_refusal c Out ≡ None).
    let t = (refused_split (nat_lt 0 (buffer_count c.out) || nat_lt 0 (buffer_count c.cap)) Busy None p).0 in
    let u = (or_parts (nat_lt 0 (buffer_count c.out)) (nat_lt 0 (buffer_count c.cap)) t).0 in
    settled_fit (after_new_format c.kind Out (record c { formats = formats })) (set_out_fit c.kind c want refl (idle_without c x (job_below c.out (ltb-false 0 (buffer_count c.out) u))) f))
set_fit c Cap want x f =
    let formats = formats_for c.kind Cap c.formats want in
    unless_fit c (set_refusal c Cap) (answered (after_new_format c.kind Cap (record c { formats = formats })) (Fmt (format_of formats Cap))) f
    (λ (p : set_refusal c Cap ≡ None).
    let t = (refused_split (nat_lt 0 (buffer_count c.cap)) Busy None p).0 in
    settled_fit (after_new_format c.kind Cap (record c { formats = formats })) (set_cap_fit c.kind c want refl (probes c x (ltb-false 0 (buffer_count c.cap) t)) f))

-- ReqBufs

new_out_fit : (k : Kind) (c : Context) (count size : ℕ) → c.kind ≡ k → c.running ≡ None → Fits c → Fits (after_new_buffers k Out (record c { out = reqbufs_after c.out count size }))
new_out_fit Copy c count size e n f = out_fit c (reqbufs_after c.out count size) (new_few c.out count size) (refl, refl, refl) f
new_out_fit Enc c count size e n f =
    let x = record c { out = reqbufs_after c.out count size } in
    phase_fit x c.phase c.mark (reset c.codec) f.0.change (out_fit c (reqbufs_after c.out count size) (new_few c.out count size) (refl, refl, refl) f)
new_out_fit Dec c count size e n f =
    let x = record c { out = reqbufs_after c.out count size } in
    formats_fit x c.formats None (reset c.codec) f.0.formats (subst (λ k. HasGeometry k c.formats None) (sym e) tt) (no_run c c.kind c.formats None n)
    (out_fit c (reqbufs_after c.out count size) (new_few c.out count size) (refl, refl, refl) f)

new_cap_fit : (k : Kind) (c : Context) (count size : ℕ) → Fits c → Fits (after_new_buffers k Cap (record c { cap = reqbufs_after c.cap count size }))
new_cap_fit Copy c count size f = cap_fit c (reqbufs_after c.cap count size) (new_few c.cap count size) f
new_cap_fit Enc c count size f = cap_fit c (reqbufs_after c.cap count size) (new_few c.cap count size) f
new_cap_fit Dec c count size f = cap_fit c (reqbufs_after c.cap count size) (new_few c.cap count size) f

reqbufs_fit : (c : Context) (side : Side) (count : ℕ) (found : Bool) → IsSoundButUnsettled c → Fits c → FitSlot (reqbufs_answer c side count found).slot
reqbufs_fit c Out count found x f =
    let y = after_new_buffers c.kind Out (record c { out = reqbufs_after c.out count (sizeimage c Out) }) in
    let a = answered y (Count (min count most_buffers)) in
    unless_fit c (reqbufs_refusal c.out) (if_found c found a) f (λ (p : reqbufs_refusal c.out ≡ None).
    found_fit c found a f (settled_fit y (new_out_fit c.kind c count (sizeimage c Out) refl (idle_without c x (ap length (x.out.job_at_rest (refused_split c.out.streams Busy None p).0))) f)))
reqbufs_fit c Cap count found x f =
    let y = after_new_buffers c.kind Cap (record c { cap = reqbufs_after c.cap count (sizeimage c Cap) }) in
    let a = answered y (Count (min count most_buffers)) in
    unless_fit c (reqbufs_refusal c.cap) (if_found c found a) f (λ (p : reqbufs_refusal c.cap ≡ None). found_fit c found a f (settled_fit y (new_cap_fit c.kind c count (sizeimage c Cap) f)))

side_fit : (c : Context) (side : Side) (q : QueueState) → buffer_count q ≤ most_buffers → (is_out side ≡ true → Short q) → Fits c → Fits (with_queue c side q)
side_fit c Out q n s f = out_fit c q n (s refl) f
side_fit c Cap q n s f = cap_fit c q n f

few_of : (c : Context) (side : Side) → Fits c → buffer_count (queue_of c side) ≤ most_buffers
few_of c Out f = f.0.few_out
few_of c Cap f = f.0.few_cap

create_short : (c : Context) (side : Side) (count size : ℕ) → Fits c → is_out side ≡ true → Short (create_after (queue_of c side) count size)
create_short c Out count size f e = short_of c f
create_short c Cap count size f e = absurd (false≢true e)

create_fit : (c : Context) (side : Side) (count size : ℕ) (found : Bool) → Fits c → FitSlot (create_answer c side count size found).slot
create_fit c side count size found f =
    let q = queue_of c side in
    let y = with_queue c side (create_after q count size) in
    let a = answered y (Created (buffer_count q) (created q count)) in
    unless_fit c (create_refusal q count size) (if_found c found a) f (λ p. found_fit c found a f (settled_fit y (side_fit c side (create_after q count size) (more_few q count size (few_of c side f)) (create_short c side count size f) f)))

-- QBuf

queued_short :
    (c : Context) (side : Side) (k used : ℕ) (stamp : Stamp) (bytes : List ℕ) → IsSoundButUnsettled c
    → held_refusal (queue_of c side).side (with_index k (queue_of c side).held) used (sizeimage c side) ≡ None → Fits c → is_out side ≡ true
    → Short (qbuf_after (queue_of c side) k used stamp bytes)
queued_short c Out k used stamp bytes x p f e =
    queue_short c.out k used stamp bytes (with_index k c.out.held) (sizeimage c Out) x.out_side p (short_of c f)
queued_short c Cap k used stamp bytes x p f e = absurd (false≢true e)

queue_fit : (c : Context) (side : Side) (k used : ℕ) (stamp : Stamp) (bytes : List ℕ) → IsSoundButUnsettled c → Fits c → FitSlot (qbuf_answer c side k used stamp bytes).slot
queue_fit c side k used stamp bytes x f =
    let q = queue_of c side in
    let y = with_queue c side (qbuf_after q k used stamp bytes) in
    let o = refuse_if (is_no_whole_picture c side used) Inval None in
    let n1 = queue_few q k used stamp bytes (with_index k q.held) refl in
    let n2 = few_of c side f in
    unless_fit c (held_refusal q.side (with_index k q.held) used (sizeimage c side)) (unless c o (answered y Done)) f
    (λ p. unless_fit c o (answered y Done) f (λ r. settled_fit y (side_fit c side (qbuf_after q k used stamp bytes) (omega arith) (queued_short c side k used stamp bytes x p f) f)))

-- DqBuf

last_fit : (c : Context) (phase : PhaseState) (emptied : Bool) → c.phase ≡ phase → Fits c → Fits (stop_at_last c phase emptied)
last_fit c run emptied p f = f
last_fit c (owe cause) emptied p f = f
last_fit c (last drain) true p f =
    phase_fit c (stopped drain) None c.codec (λ (e : false ≡ true). absurd (false≢true e)) f
last_fit c (last drain) false p f = f
last_fit c (last change) true p f =
    phase_fit c (stopped change) c.mark c.codec (λ e. f.0.change (ap stops_by_change p ∙ e)) f
last_fit c (last change) false p f = f
last_fit c (stopped cause) emptied p f = f

take_fit : (c : Context) (side : Side) (ds : List Buffer) → (queue_of c side).done ≡ ds → Fits c → FitSlot (taken_answer c side ds).slot
take_fit c side [] d f = same_fit c f
take_fit c Out (b ∷ rest) d f =
    let n1 = take_few c.out c.out.done refl in
    let n2 = f.0.few_out in
    settled_fit (record c { out = dqbuf_after c.out }) (out_fit c (dqbuf_after c.out) (omega arith) (take_short c.out c.out.done refl (short_of c f)) f)
take_fit c Cap (b ∷ rest) d f =
    let n1 = take_few c.cap c.cap.done refl in
    let n2 = f.0.few_cap in
    let x = record c { cap = dqbuf_after c.cap } in
    settled_fit (stop_at_last x x.phase (is_empty x.cap.done)) (last_fit x x.phase (is_empty x.cap.done) refl (cap_fit c (dqbuf_after c.cap) (omega arith) f))

-- StreamOn and StreamOff

streamon_fit : (c : Context) (side : Side) → Fits c → FitSlot (streamon_answer c side).slot
streamon_fit c Out f =
    unless_fit c (streamon_refusal c.out (sizeimage c Out)) (answered (record c { out = streamon_after c.out }) Done) f
    (λ p. settled_fit (record c { out = streamon_after c.out }) (out_fit c (streamon_after c.out) f.0.few_out (short_of c f) f))
streamon_fit c Cap f =
    unless_fit c (streamon_refusal c.cap (sizeimage c Cap)) (answered (record c { cap = streamon_after c.cap }) Done) f (λ p. settled_fit (record c { cap = streamon_after c.cap }) (cap_fit c (streamon_after c.cap) f.0.few_cap f))

off_out_fit : (c : Context) (codec : CodecState) → Fits c → Fits (record c { out = streamoff_after c.out; mark = None; phase = without_drain_stop c.phase; codec = codec })
off_out_fit c codec f =
    let n1 = off_few c.out in
    let n2 = f.0.few_out in
    phase_fit (record c { out = streamoff_after c.out }) (without_drain_stop c.phase) None codec (λ e. f.0.change (restart_change c.phase ∙ e)) (out_fit c (streamoff_after c.out) (omega arith) (refl, f.0.short_job, refl) f)

output_off_fit : (k : Kind) (c : Context) → Fits c → Fits (after_output_off k (record c { out = streamoff_after c.out; mark = None; phase = without_drain_stop c.phase }))
output_off_fit Copy c f = off_out_fit c c.codec f
output_off_fit Enc c f = off_out_fit c c.codec f
output_off_fit Dec c f = off_out_fit c (reset c.codec) f

still_fit : (c : Context) → Fits c → Fits (record c { cap = streamoff_after c.cap })
still_fit c f =
    let n1 = off_few c.cap in
    let n2 = f.0.few_cap in
    cap_fit c (streamoff_after c.cap) (omega arith) f

off_cap_fit : (c : Context) (codec : CodecState) → Fits c → Fits (record c { cap = streamoff_after c.cap; mark = mark_after_restart c.phase c.mark; phase = run; codec = codec })
off_cap_fit c codec f =
    phase_fit (record c { cap = streamoff_after c.cap }) run (mark_after_restart c.phase c.mark) codec (λ (e : false ≡ true). absurd (false≢true e)) (still_fit c f)

capture_off_fit : (k : Kind) (c : Context) → Fits c → Fits (after_capture_off k (record c { cap = streamoff_after c.cap; mark = mark_after_restart c.phase c.mark; phase = run }))
capture_off_fit Copy c f = off_cap_fit c c.codec f
capture_off_fit Enc c f = off_cap_fit c (reset c.codec) f
capture_off_fit Dec c f = off_cap_fit c c.codec f

capture_split : (c : Context) (b : Bool) → Fits c → Fits (cond b (after_capture_off c.kind (record c { cap = streamoff_after c.cap; mark = mark_after_restart c.phase c.mark; phase = run })) (record c { cap = streamoff_after c.cap }))
capture_split c true f = capture_off_fit c.kind c f
capture_split c false f = still_fit c f

off_fit : (c : Context) (side : Side) → Fits c → Fits (streamoff_effect c side)
off_fit c Out f = output_off_fit c.kind c f
off_fit c Cap f = capture_split c c.cap.streams f

-- STOP and START

stop_fit : (c : Context) (x y z : Bool) → Fits c → FitSlot (cond x (unchanged c Done) (cond y (refused c Busy) (cond z (unchanged c Done) (answered (record c { mark = Some c.out.next_ordinal }) Done)))).slot
stop_fit c true y z f = same_fit c f
stop_fit c false true z f = same_fit c f
stop_fit c false false true f = same_fit c f
stop_fit c false false false f =
    settled_fit (record c { mark = Some c.out.next_ordinal }) (phase_fit c c.phase (Some c.out.next_ordinal) c.codec f.0.change f)

start_fit : (c : Context) (x y z : Bool) → Fits c → FitSlot (cond x (unchanged c Done) (cond y (refused c Busy) (cond z (refused c Inval) (answered (record c { phase = run }) Done)))).slot
start_fit c true y z f = same_fit c f
start_fit c false true z f = same_fit c f
start_fit c false false true f = same_fit c f
start_fit c false false false f =
    settled_fit (record c { phase = run }) (phase_fit c run c.mark c.codec (λ (e : false ≡ true). absurd (false≢true e)) f)

command_fit : (c : Context) (x y : Bool) → Fits c → FitSlot (cond x (start_answer c) (cond y (stop_answer c) (refused c Inval))).slot
command_fit c true y f =
    start_fit c (not (both_stream c)) (start_is_early c.phase c.mark) (not (long_enough c.cap (sizeimage c Cap))) f
command_fit c false true f = stop_fit c (not (both_stream c)) (is_some c.mark) (is_stopped_by_drain c.phase) f
command_fit c false false f = same_fit c f

kind_fit : (c : Context) (cmd : ℕ) (b : Bool) → Fits c → FitSlot (cond b (command_answer c cmd) (refused c NoTty)).slot
kind_fit c cmd true f = command_fit c (cmd == 0) (cmd == 1) f
kind_fit c cmd false f = same_fit c f

-- Controls and events

desc_fit : (c : Context) (o : Option Fourcc) → Fits c → FitSlot (desc_answer c o).slot
desc_fit c None f = same_fit c f
desc_fit c (Some x) f = same_fit c f

query_fit : (c : Context) (o : Option Reply) → Fits c → FitSlot (query_answer c o).slot
query_fit c None f = same_fit c f
query_fit c (Some r) f = same_fit c f

value_fit : (c : Context) (o : Option ℕ) → Fits c → FitSlot (value_answer c o).slot
value_fit c None f = same_fit c f
value_fit c (Some v) f = same_fit c f

control_fit : (c : Context) (o : Option RunRates) → Fits c → FitSlot (control_answer c o).slot
control_fit c None f = same_fit c f
control_fit c (Some rates) f = settled_fit (record c { rates = rates }) (events_fit c c.events rates f)

events_slot : (c : Context) (o : Option Errno) (events : EventState) → Fits c → FitSlot (unless c o (answered (record c { events = events }) Done)).slot
events_slot c o events f =
    unless_fit c o (answered (record c { events = events }) Done) f (λ p. settled_fit (record c { events = events }) (events_fit c events c.rates f))

close_fit : (c : Context) (b : Bool) → Fits c → FitSlot (cond b (record { slot = None; reply = Done; bytes = [] }) (unchanged c Blocked)).slot
unfolding FitSlot
close_fit c true f = tt
close_fit c false f = f

context_fit : (c : Context) (request : Call) (bytes : List ℕ) (found : Bool) → IsSoundButUnsettled c → Fits c → FitSlot (context_answer c request bytes found).slot
unfolding context_answer
context_fit c (Open kind) bytes found x f = same_fit c f
context_fit c Close bytes found x f = close_fit c (is_none c.running) f
context_fit c (EnumFmt side index) bytes found x f =
    desc_fit c (slice_get (formats_listed c.kind side c.formats) index) f
context_fit c (GetFmt side) bytes found x f = same_fit c f
context_fit c (TryFmt side want) bytes found x f = same_fit c f
context_fit c (SetFmt side want) bytes found x f = set_fit c side want x f
context_fit c (ReqBufs side count) bytes found x f = reqbufs_fit c side count found x f
context_fit c (CreateBufs side count length) bytes found x f = create_fit c side count length found f
context_fit c (QueryBuf side index) bytes found x f = query_fit c (querybuf_reply (queue_of c side) index) f
context_fit c (QBuf side index used stamp) bytes found x f = queue_fit c side index used stamp bytes x f
context_fit c (DqBuf side block) bytes found x f =
    block_fit c (dqbuf_refusal (queue_of c side) (is_ended c side)) block (taken_answer c side (queue_of c side).done) f (take_fit c side (queue_of c side).done refl f)
context_fit c (StreamOn side) bytes found x f = streamon_fit c side f
context_fit c (StreamOff side) bytes found x f =
    either_fit (is_none c.running) (answered (streamoff_effect c side) Done) (unchanged c Blocked) (settled_fit (streamoff_effect c side) (off_fit c side f)) (same_fit c f)
context_fit c (Subscribe event) bytes found x f =
    events_slot c (event_refusal c.kind event) (subscribe_after c.events event) f
context_fit c (Unsubscribe event) bytes found x f =
    events_slot c (event_refusal c.kind event) (unsubscribe_after c.events event) f
context_fit c (DqEvent block) bytes found x f =
    block_fit c (refuse_if (is_empty c.events.pending) NoEnt None) block
    (answered (record c { events = take_event_after c.events }) (event_reply c.events.pending)) f
    (settled_fit (record c { events = take_event_after c.events }) (events_fit c (take_event_after c.events) c.rates f))
context_fit c (DecCmd cmd) bytes found x f = kind_fit c cmd (is_dec c.kind) f
context_fit c (EncCmd cmd) bytes found x f = kind_fit c cmd (is_enc c.kind) f
context_fit c (GetCtrl id) bytes found x f = value_fit c (control_of c.kind c.rates id) f
context_fit c (SetCtrl id value) bytes found x f = control_fit c (with_control c.kind c.rates id value) f
context_fit c Poll bytes found x f = same_fit c f

-- Open

fresh_fit : (kind : Kind) → Fits (fresh_context kind)
fresh_fit kind = (
  record {
    few_out = omega arith;
    few_cap = omega arith;
    short_ready = refl;
    short_job = refl;
    short_done = refl;
    formats = fresh_formats kind;
    geometry = fresh_geometry kind;
    change = λ (e : false ≡ true). absurd (false≢true e);
  },
  fresh_run kind,
)
  where
    fresh_formats : (k : Kind) → HasFormats k (formats_at_open k)
    fresh_formats Copy = tt
    fresh_formats Enc = (refl, refl)
    fresh_formats Dec = (refl, refl)

    fresh_geometry : (k : Kind) → HasGeometry k (formats_at_open k) None
    fresh_geometry Copy = tt
    fresh_geometry Enc = tt
    fresh_geometry Dec = tt

    fresh_run : (k : Kind) → HasRun k (formats_at_open k) None None
    fresh_run k = tt

closed_fit : (request : Call) (found : Bool) → FitSlot (closed_answer request found).slot
unfolding closed_answer FitSlot
closed_fit (Open kind) true = fresh_fit kind
closed_fit (Open kind) false = tt
closed_fit request found = tt

answer_fit : (s : Slot) (request : Call) (bytes : List ℕ) (found : Bool) → IsOrderedSlot s → FitSlot s → FitSlot (answer s request bytes found).slot
unfolding answer FitSlot
answer_fit None request bytes found x f = closed_fit request found
answer_fit (Some c) request bytes found x f = context_fit c request bytes found x.firm f

-- Claims

cap_claim_few : (sort : RunSort) (q : QueueState) → buffer_count (cap_after_claim sort q) ≤ buffer_count q
cap_claim_few copy q = lend_few q q.ready refl
cap_claim_few encode q = lend_few q q.ready refl
cap_claim_few decode q = lend_few q q.ready refl
cap_claim_few probe q = omega arith

claimed_fit : (c : Context) (ready : List Buffer) → Fits c → Fits (claim_front c (sort_of c.kind c.geometry) ready)
claimed_fit c [] f = f
claimed_fit c (b ∷ rest) f =
    let sort = sort_of c.kind c.geometry in
    let n1 = lend_few c.out c.out.ready refl in
    let n2 = f.0.few_out in
    let n3 = cap_claim_few sort c.cap in
    let n4 = f.0.few_cap in
    let x = record c { out = lend_after c.out; cap = cap_after_claim sort c.cap } in
    running_fit x (Some (running_of c sort)) (record { sort = refl; same_geometry = refl; limit = refl; format = λ e. refl })
    (cap_fit (record c { out = lend_after c.out }) (cap_after_claim sort c.cap) (omega arith) (out_fit c (lend_after c.out) (omega arith) (lend_short c.out c.out.ready refl (short_of c f)) f))

claim_fit : (s : Slot) (b : Bool) → FitSlot s → FitSlot (claim_step s b).slot
unfolding FitSlot after_claim
claim_fit None b f = tt
claim_fit (Some c) true f = claimed_fit c c.out.ready f
claim_fit (Some c) false f = f

-- Finishes

-- the source is the buffer of OUTPUT's job list
abbrev FromJob : Context → JobData → Type 0
FromJob c j = j.source ≡ source_of c.out.job

done_fit : (c : Context) (j : JobData) (flags : ℕ) → FromJob c j → Fits c → Fits (source_done c j flags)
done_fit c j flags e f =
    let n1 = retire_few c.out c.out.job j.source.used j.source.bytes flags j.source.stamp refl in
    let n2 = f.0.few_out in
    out_fit c (retire_after c.out j.source.used j.source.bytes flags j.source.stamp) (omega arith) (subst (λ s. Short (retire_after c.out s.used s.bytes flags s.stamp)) (sym e) (retire_short c.out c.out.job flags refl (short_of c f))) f

back_fit : (c : Context) (j : JobData) (cursor : ℕ) → Fits c → Fits (source_back c j cursor)
back_fit c j cursor f =
    let n1 = give_few c.out c.out.job cursor j.source.bytes refl in
    let n2 = f.0.few_out in
    out_fit c (give_back_after c.out cursor j.source.bytes) (omega arith) (give_short c.out c.out.job cursor j.source.bytes refl (short_of c f)) f

moved_fit : (c : Context) (j : JobData) (cursor : ℕ) (b : Bool) → FromJob c j → Fits c → Fits (source_moved c j cursor b)
moved_fit c j cursor true e f = done_fit c j 0 e f
moved_fit c j cursor false e f = back_fit c j cursor f

retired_fit : (c : Context) (used : ℕ) (bytes : List ℕ) (flags : ℕ) (stamp : Stamp) → Fits c → Fits (record c { cap = retire_after c.cap used bytes flags stamp })
retired_fit c used bytes flags stamp f =
    let n1 = retire_few c.cap c.cap.job used bytes flags stamp refl in
    let n2 = f.0.few_cap in
    cap_fit c (retire_after c.cap used bytes flags stamp) (omega arith) f

dest_split_fit :
    (c : Context) (used : ℕ) (bytes : List ℕ) (flags : ℕ) (stamp : Stamp) (b : Bool) → Fits c
    → Fits (cond b (raise_end drain (record c { cap = retire_after c.cap used bytes (flags + last_flag) stamp; phase = last drain })) (record c { cap = retire_after c.cap used bytes flags stamp }))
dest_split_fit c used bytes flags stamp true f =
    raised_fit drain (record c { cap = retire_after c.cap used bytes (flags + last_flag) stamp; phase = last drain })
    (phase_fit (record c { cap = retire_after c.cap used bytes (flags + last_flag) stamp }) (last drain) c.mark c.codec
    (λ (e : false ≡ true). absurd (false≢true e)) (retired_fit c used bytes (flags + last_flag) stamp f))
dest_split_fit c used bytes flags stamp false f = retired_fit c used bytes flags stamp f

dest_fit : (c : Context) (dest : List Buffer) (used_up : Bool) (used : ℕ) (bytes : List ℕ) (flags : ℕ) (stamp : Stamp) → Fits c → Fits (dest_done c dest used_up used bytes flags stamp)
dest_fit c [] used_up used bytes flags stamp f = f
dest_fit c (b ∷ bs) used_up used bytes flags stamp f =
    dest_split_fit c used bytes flags stamp (used_up && is_drained c.out.ready c.mark) f

dest_back_fit : (c : Context) (dest : List Buffer) → Fits c → Fits (dest_back c dest)
dest_back_fit c [] f = f
dest_back_fit c (b ∷ bs) f =
    let n1 = give_few c.cap c.cap.job 0 [] refl in
    let n2 = f.0.few_cap in
    cap_fit c (give_back_after c.cap 0 []) (omega arith) f

found_formats : (present : FormatPair) (geometry : Geometry) → HasFormats Dec (formats_found present geometry)
found_formats present geometry =
    (refl, raw_listed geometry.layout present.cap.fourcc (list_any (same_fourcc present.cap.fourcc) (raw_formats geometry.layout)) refl)

found_geometry : (present : FormatPair) (geometry : Geometry) → HasGeometry Dec (formats_found present geometry) (Some geometry)
found_geometry present geometry =
    (refl, refl, raw_layout geometry.layout present.cap.fourcc (list_any (same_fourcc present.cap.fourcc) (raw_formats geometry.layout)) refl)

stop_change_fit : (c : Context) (b : Bool) → c.kind ≡ Dec → Fits c → Fits (cond b (record c { phase = owe change }) c)
stop_change_fit c true e f = phase_fit c (owe change) c.mark c.codec (λ p. ap is_dec e) f
stop_change_fit c false e f = f

-- an effect leaves the kind, and no job runs
abbrev Idle : Context → Kind → Type 0
Idle c kind = (c.kind ≡ kind) × (c.running ≡ None)

back_idle : (c : Context) (dest : List Buffer) (kind : Kind) → Idle c kind → Idle (dest_back c dest) kind
back_idle c [] kind i = i
back_idle c (b ∷ bs) kind i = i

decoded_fit : (c : Context) (j : JobData) (cursor : ℕ) (result : DecodedResult) → FromJob c j → Idle c Dec → Fits c → Fits (decoded_effect c j cursor result)
decoded_fit c j cursor (picture bytes key stamp) e i f =
    let used_up = cursor == j.source.used in
    dest_fit (source_moved c j cursor used_up) j.dest used_up (length bytes) bytes (type_flag key) stamp (moved_fit c j cursor used_up e f)
decoded_fit c j cursor (damaged stamp) e i f =
    let used_up = cursor == j.source.used in
    dest_fit (source_moved c j cursor used_up) j.dest used_up 0 [] error_flag stamp (moved_fit c j cursor used_up e f)
decoded_fit c j cursor (changed geometry) e i f =
    let here = dest_back (source_back c j cursor) j.dest in
    let k = back_idle (source_back c j cursor) j.dest Dec i in
    let formats = formats_found here.formats geometry in
    let y = record here { geometry = Some geometry; formats = formats } in
    let g =
    formats_fit here formats (Some geometry) here.codec (subst (λ x. HasFormats x formats) (sym k.0) (found_formats here.formats geometry))
    (subst (λ x. HasGeometry x formats (Some geometry)) (sym k.0) (found_geometry here.formats geometry))
    (no_run here here.kind formats (Some geometry) k.1) (dest_back_fit (source_back c j cursor) j.dest (back_fit c j cursor f)) in
    stop_change_fit (record y { events = raise_after here.events source_change_event 1 }) here.cap.streams k.0 (events_fit y (raise_after here.events source_change_event 1) here.rates g)
decoded_fit c j cursor spent e i f = dest_back_fit (source_done c j 0) j.dest (done_fit c j 0 e f)

dec_kind : (kind : Kind) (step : DecodedStep) → HasResult kind (decoded step) → kind ≡ Dec
unfolding HasResult
dec_kind Copy step h = absurd h
dec_kind Enc step h = absurd h
dec_kind Dec step h = refl

codec_fit : (c : Context) (codec : CodecState) → Fits c → Fits (record c { codec = codec })
codec_fit c codec f = phase_fit c c.phase c.mark codec f.0.change f

effect_fit : (c : Context) (j : JobData) (result : RunResult) → FromJob c j → c.running ≡ None → HasResult c.kind result → Fits c → Fits (run_effect c j result)
effect_fit c j (copied bytes) e n h f =
    dest_fit (source_done c j 0) j.dest true (length bytes) bytes 0 j.source.stamp (done_fit c j 0 e f)
effect_fit c j (encoded frame) e n h f =
    let x = record c { codec = encoder frame.state } in
    dest_fit (source_done x j 0) j.dest true (length frame.bytes) frame.bytes (type_flag frame.key) j.source.stamp (done_fit x j 0 e (codec_fit c (encoder frame.state) f))
effect_fit c j (decoded step) e n h f =
    decoded_fit (record c { codec = decoder step.state }) j (j.source.cursor + step.moved) (step_outcome j.format.fourcc step) e (dec_kind c.kind step h, n) (codec_fit c (decoder step.state) f)

finish_fit : (coder : Coder) (c : Context) (r : Running) (fault : Bool) → IsSoundButUnsettled c → Fits c → Fits (after_finish coder c r fault)
unfolding after_finish run_result
finish_fit coder c r true x f =
    let y = record c { running = None } in
    let z = record y { codec = reset c.codec } in
    settle_fit (fault_effect y (job_data c r))
    (dest_fit (source_done z (job_data c r) error_flag) c.cap.job true 0 [] error_flag (job_data c r).source.stamp
    (done_fit z (job_data c r) error_flag refl (codec_fit y (reset c.codec) (running_fit c None tt f))))
finish_fit coder c r false x f =
    let y = record c { running = None } in
    settle_fit (run_effect y (job_data c r) (run_result coder (job_data c r))) (effect_fit y (job_data c r) (run_result coder (job_data c r)) refl refl (run_fits coder (job_data c r) c.kind r.sort x.has_codec) (running_fit c None tt f))

ended_fit : (coder : Coder) (c : Context) (o : Option Running) (fault : Bool) → IsSoundButUnsettled c → Fits c → FitSlot (solo_finish coder c o fault).slot
unfolding FitSlot
ended_fit coder c None fault x f = f
ended_fit coder c (Some r) fault x f = finish_fit coder c r fault x f

finish_step_fit : (coder : Coder) (s : Slot) (fault : Bool) → IsOrderedSlot s → FitSlot s → FitSlot (finish_step coder s fault).slot
unfolding FitSlot
finish_step_fit coder None fault x f = tt
finish_step_fit coder (Some c) fault x f = ended_fit coder c c.running fault x.firm f

-- Every step, and every run

step_fit : (coder : Coder) (s : Slot) (e : SoloEvent) → IsOrderedSlot s → FitSlot s → FitSlot (solo_step coder s e).slot
unfolding solo_step
step_fit coder s (Called request bytes found) x f = answer_fit s request bytes found x f
step_fit coder s Claims x f = claim_fit s (is_claimable s) f
step_fit coder s (Finishes fault) x f = finish_step_fit coder s fault x f

run_fit : (coder : Coder) (s : Slot) (es : List SoloEvent) → IsOrderedSlot s → FitSlot s → FitSlot (solo_slot coder s es)
run_fit coder s [] x f = f
run_fit coder s (e ∷ es) x f =
    run_fit coder (solo_step coder s e).slot es (step_sound coder s e x) (step_fit coder s e x f)

sound_slot : (s : Slot) → IsOrderedSlot s → FitSlot s → IsSoundSlot s
unfolding FitSlot
sound_slot None x f = tt
sound_slot (Some c) x f = record { firm = x.firm; settled = x.settled; fit = f.0; run = f.1 }

pub always_sound : Soundness
unfolding FitSlot
always_sound coder events = sound_slot (solo_slot coder None events) (always_ordered coder events) (run_fit coder None events tt tt)
