-- Each row of the table of calls leaves a sound slot sound, whatever it answers. A refusal leaves the context as it
-- was; any other answer changes one queue, the phase or the formats, and each part of soundness is shown for what was
-- changed while the rest is carried over.
use Rattle.std.proofs.Common.{ℕ, zero, suc, ◌≡◌, ◌≤◌, ◌<◌, ◌+◌, ◌==◌, eqb, nat_lt, nat_le, Bool, true, false, not, cond, ◌&&◌, ◌||◌, is_none, is_some, Option, Some, None, List, [], ◌∷◌, ◌++◌, length, refl, sym, ap, ◌∙◌, subst, arith}
use Rattle.std.specs.List.{list_all}
use Rattle.std.proofs.lemmas.Bool.{ltb-false, le-leb, le-ltb, false≢true, or_parts}
use Rattle.std.proofs.lemmas.List.Folds.{list_all-append, list_any-append}
use Rattle.vc_base.specs.declared.Stamp.{Stamp}
use Rattle.vc_base.specs.declared.Side.{Side}
use Rattle.vc_base.specs.declared.Side.TheVariants.{Out, Cap}
use Rattle.vc_base.specs.declared.Kind.{Kind}
use Rattle.vc_base.specs.declared.Kind.TheVariants.{Copy, Enc, Dec}
use Rattle.vc_base.specs.declared.Fourcc.{Fourcc}
use Rattle.vc_base.specs.declared.Format.{Format}
use Rattle.vc_base.specs.declared.Errno.{Errno}
use Rattle.vc_base.specs.declared.Errno.TheVariants.{NoEnt, Again, NoMem, Busy, Inval, NoTty, Pipe}
use Rattle.vc_base.specs.declared.Call.{Call}
use Rattle.vc_base.specs.declared.Call.TheVariants.{Open, Close, EnumFmt, GetFmt, TryFmt, SetFmt, ReqBufs, CreateBufs, QueryBuf, QBuf, DqBuf, StreamOn, StreamOff, Subscribe, Unsubscribe, DqEvent, DecCmd, EncCmd, GetCtrl, SetCtrl, Poll}
use Rattle.vc_base.specs.declared.Reply.{Reply}
use Rattle.vc_base.specs.declared.Reply.TheVariants.{Done, Created, Blocked}
use Rattle.vc_base.specs.Buffers.{Buffer, QueueState, buffer_count, is_empty, is_out, refuse_if, with_index, queued_buffer, queue_held, held_refusal}
use Rattle.vc_base.specs.Buffers.{take_front, long_enough, reqbufs_after, create_refusal, create_after, created, qbuf_after, dqbuf_after, streamon_refusal}
use Rattle.vc_base.specs.Buffers.{streamon_after, streamoff_after, dqbuf_refusal}
use Rattle.vc_base.specs.Events.{EventState}
use Rattle.vc_model.specs.Formats.{FormatPair}
use Rattle.vc_model.specs.Coder.{CodecState, reset}
use Rattle.vc_defs.specs.Encoder.{RunRates}
use Rattle.vc_model.specs.Context.{Context, Slot, Running, Cause, drain, change, PhaseState, run, owe, last, stopped, fresh_context, codec_at_open, queue_of, with_queue, is_run, sizeimage, is_dec, is_enc, is_drained, has_before}
use Rattle.vc_model.specs.Answer.{Answer, unchanged, refused, answered, unless, if_found, unless_or_block, desc_answer, set_refusal, set_answer}
use Rattle.vc_model.specs.Answer.{after_new_format, reqbufs_answer, after_new_buffers, create_answer, query_answer, qbuf_answer, is_no_whole_picture}
use Rattle.vc_model.specs.Answer.{taken_answer, dqbuf_answer, after_taking, stop_at_last, is_ended, streamon_answer, streamoff_answer, streamoff_effect}
use Rattle.vc_model.specs.Answer.{without_drain_stop, after_output_off, mark_after_restart, after_capture_off, both_stream, stop_answer, start_is_early}
use Rattle.vc_model.specs.Answer.{start_answer, command_answer, value_answer, control_answer, context_answer, closed_answer, answer}
use Rattle.vc_model.specs.Phases.{is_stopped_by_drain}
use Rattle.vc_model.specs.Sound.{IsSoundQueue, HasItsBuffers, HasCodec, ends_with_last, is_last, stops_by_change, AreLong, is_at_end, MarkIsQueued, IsSoundButUnsettled, IsOrdered, IsOrderedSlot}
use Rattle.vc_model.proofs.PartsOfTests.{and_left, not_true, not_false}
use Rattle.vc_model.proofs.QueuesKeepSound.{no_longer, new_sound, reqbufs_sound, create_sound, queue_sound, queued_ordinal, queued_size, take_sound, streamon_sound, streamoff_sound}
use Rattle.vc_model.proofs.CallsKeepFirm.{run_no_change, idle, without_job, no_job_there, events_firm, rates_firm, formats_firm, out_firm, cap_firm, settle_sound, codec_reset}

-- Refusals

pub refused_split : (t : Bool) (e : Errno) (o : Option Errno) → refuse_if t e o ≡ None → (t ≡ false) × (o ≡ None)
refused_split true e o p = absurd (cc)
refused_split false e o p = (refl, p)

-- a refusal leaves the context, and else the effect counts
unless_sound : (c : Context) (o : Option Errno) (a : Answer) → IsOrdered c → (o ≡ None → IsOrderedSlot a.slot) → IsOrderedSlot (unless c o a).slot
unless_sound c None a s h = h refl
unless_sound c (Some e) a s h = s

if_found_sound : (c : Context) (found : Bool) (a : Answer) → IsOrdered c → IsOrderedSlot a.slot → IsOrderedSlot (if_found c found a).slot
if_found_sound c true a s h = h
if_found_sound c false a s h = s

unless_running_sound : (c : Context) (b : Bool) (a : Answer) → IsOrdered c → (b ≡ true → IsOrderedSlot a.slot) → IsOrderedSlot (cond b a (unchanged c Blocked)).slot
unless_running_sound c true a s h = h refl
unless_running_sound c false a s h = s

or_block_sound : (c : Context) (o : Option Errno) (block : Bool) (a : Answer) → IsOrdered c → (o ≡ None → IsOrderedSlot a.slot) → IsOrderedSlot (unless_or_block c o block a).slot
or_block_sound c None block a s h = h refl
or_block_sound c (Some Again) true a s h = s
or_block_sound c (Some Again) false a s h = s
or_block_sound c (Some NoEnt) true a s h = s
or_block_sound c (Some NoEnt) false a s h = s
or_block_sound c (Some NoMem) block a s h = s
or_block_sound c (Some Busy) block a s h = s
or_block_sound c (Some Inval) block a s h = s
or_block_sound c (Some NoTty) block a s h = s
or_block_sound c (Some Pipe) block a s h = s

-- Marks

drained_mark : (ready : List Buffer) (mark : Option ℕ) → is_drained ready mark ≡ true → is_some mark ≡ true
drained_mark ready None e = absurd (false≢true e)
drained_mark ready (Some m) e = refl

-- with no ready buffer
still_drained : (ready : List Buffer) (mark : Option ℕ) → is_drained ready mark ≡ true → is_drained [] mark ≡ true
still_drained ready None e = absurd (false≢true e)
still_drained ready (Some m) e = refl

still_past : (mark : Option ℕ) (next : ℕ) → MarkIsQueued mark next → MarkIsQueued mark (next + 1)
still_past None next p = tt
still_past (Some m) next p = omega arith

not_before : (m n : ℕ) → m ≤ n → nat_lt n m ≡ false
not_before m n h = le-ltb n m h

-- with one ready buffer more that was queued after the mark
drained_end : (ready : List Buffer) (x : Buffer) (mark : Option ℕ) (next : ℕ) → x.ordinal ≡ next → MarkIsQueued mark next → is_drained ready mark ≡ true → is_drained (ready ++ x ∷ []) mark ≡ true
drained_end ready x None next o p e = absurd (false≢true e)
drained_end ready x (Some m) next o p e =
    ap not (list_any-append (λ b. nat_lt b.ordinal m) ready (x ∷ []) ∙ (ap (λ b. b || (nat_lt x.ordinal m || false)) (not_true (has_before ready m) e) ∙ ap (λ b. b || false) (ap (λ n. nat_lt n m) o ∙ not_before m next p)))

kept_past : (p : PhaseState) (mark : Option ℕ) (next : ℕ) → MarkIsQueued mark next → MarkIsQueued (mark_after_restart p mark) next
kept_past run mark next h = tt
kept_past (owe drain) mark next h = tt
kept_past (owe change) mark next h = h
kept_past (last drain) mark next h = tt
kept_past (last change) mark next h = h
kept_past (stopped drain) mark next h = tt
kept_past (stopped change) mark next h = h

restart_end : {A : Type 0} → (p : PhaseState) → is_at_end (without_drain_stop p) ≡ true → A
restart_end run e = absurd (false≢true e)
restart_end (owe drain) e = absurd (false≢true e)
restart_end (owe change) e = absurd (false≢true e)
restart_end (last drain) e = absurd (false≢true e)
restart_end (last change) e = absurd (false≢true e)
restart_end (stopped drain) e = absurd (false≢true e)
restart_end (stopped change) e = absurd (false≢true e)

-- Formats

desc_sound : (c : Context) (o : Option Fourcc) → IsOrdered c → IsOrderedSlot (desc_answer c o).slot
desc_sound c None s = s
desc_sound c (Some fourcc) s = s

-- a queue without buffers does not stream
pub no_buffers : (q : QueueState) → IsSoundQueue q → buffer_count q ≤ 0 → (b : Bool) → q.streams ≡ b → b ≡ false
no_buffers q s n true e = let f = s.filled e in absurd (omega arith)
no_buffers q s n false e = refl

set_quiet : (c : Context) (side : Side) → IsSoundButUnsettled c → set_refusal c side ≡ None → c.cap.streams ≡ false
set_quiet c Out f p =
    let t = refused_split (nat_lt 0 (buffer_count c.out) || nat_lt 0 (buffer_count c.cap)) Busy None p in
    no_buffers c.cap f.cap (ltb-false 0 (buffer_count c.cap) (or_parts (nat_lt 0 (buffer_count c.out)) (nat_lt 0 (buffer_count c.cap)) t.0).1) c.cap.streams refl
set_quiet c Cap f p =
    let t = refused_split (nat_lt 0 (buffer_count c.cap)) Busy None p in
    no_buffers c.cap f.cap (ltb-false 0 (buffer_count c.cap) t.0) c.cap.streams refl

new_format_firm : (kind : Kind) (side : Side) (c : Context) (formats : FormatPair) → c.cap.streams ≡ false → IsSoundButUnsettled c → IsSoundButUnsettled (after_new_format kind side (record c { formats = formats }))
new_format_firm Copy side c formats s f = formats_firm c formats c.codec c.geometry f.has_codec s f
new_format_firm Enc Out c formats s f =
    formats_firm c formats (reset c.codec) c.geometry (codec_reset c.kind c.codec f.has_codec) s f
new_format_firm Enc Cap c formats s f = formats_firm c formats c.codec c.geometry f.has_codec s f
new_format_firm Dec Out c formats s f = formats_firm c formats c.codec None f.has_codec s f
new_format_firm Dec Cap c formats s f = formats_firm c formats c.codec c.geometry f.has_codec s f

set_sound : (c : Context) (side : Side) (want : Format) → IsOrdered c → IsOrderedSlot (set_answer c side want).slot
set_sound c side want s =
    unless_sound c (set_refusal c side) _ s (λ (p : set_refusal c side ≡ None). settle_sound _ (new_format_firm c.kind side c _ (set_quiet c side s.firm p) s.firm))

-- ReqBufs and CreateBufs

new_buffers_firm : (kind : Kind) (c : Context) (count size : ℕ) → c.out.streams ≡ false → IsSoundButUnsettled c → IsSoundButUnsettled (after_new_buffers kind Out (record c { out = reqbufs_after c.out count size }))
new_buffers_firm Copy c count size s f =
    out_firm c (reqbufs_after c.out count size) c.codec c.geometry f.out_side (reqbufs_sound c.out count size s f.out) (sym (f.out.job_at_rest s)) (λ e. e) f.queued (λ e. still_drained c.out.ready c.mark (f.drained e)) f.has_codec f
new_buffers_firm Enc c count size s f =
    out_firm c (reqbufs_after c.out count size) (reset c.codec) c.geometry f.out_side (reqbufs_sound c.out count size s f.out)
    (sym (f.out.job_at_rest s)) (λ e. e) f.queued (λ e. still_drained c.out.ready c.mark (f.drained e)) (codec_reset c.kind c.codec f.has_codec) f
new_buffers_firm Dec c count size s f =
    out_firm c (reqbufs_after c.out count size) (reset c.codec) None f.out_side (reqbufs_sound c.out count size s f.out) (sym (f.out.job_at_rest s))
    (λ e. e) f.queued (λ e. still_drained c.out.ready c.mark (f.drained e)) (codec_reset c.kind c.codec f.has_codec) f

-- where CAPTURE does not stream the context is in phase Run
last_is_stop : (p : PhaseState) → is_last p ≡ true → is_run p ≡ false
last_is_stop run e = absurd (false≢true e)
last_is_stop (owe cause) e = refl
last_is_stop (last cause) e = refl
last_is_stop (stopped cause) e = refl

new_capture_firm : (kind : Kind) (c : Context) (count size : ℕ) → c.cap.streams ≡ false → IsSoundButUnsettled c → IsSoundButUnsettled (after_new_buffers kind Cap (record c { cap = reqbufs_after c.cap count size }))
new_capture_firm Copy c count size s f =
    cap_firm c (reqbufs_after c.cap count size) f.cap_side (reqbufs_sound c.cap count size s f.cap) (sym (f.cap.job_at_rest s)) (λ e. e) (λ e. no_longer c.cap.streams (f.stopping (last_is_stop c.phase e)) s) (λ e p. refl) (λ e p. refl) f
new_capture_firm Enc c count size s f =
    cap_firm c (reqbufs_after c.cap count size) f.cap_side (reqbufs_sound c.cap count size s f.cap) (sym (f.cap.job_at_rest s)) (λ e. e) (λ e. no_longer c.cap.streams (f.stopping (last_is_stop c.phase e)) s) (λ e p. refl) (λ e p. refl) f
new_capture_firm Dec c count size s f =
    cap_firm c (reqbufs_after c.cap count size) f.cap_side (reqbufs_sound c.cap count size s f.cap) (sym (f.cap.job_at_rest s)) (λ e. e) (λ e. no_longer c.cap.streams (f.stopping (last_is_stop c.phase e)) s) (λ e p. refl) (λ e p. refl) f

reqbufs_slot : (c : Context) (side : Side) (count : ℕ) (found : Bool) → IsOrdered c → IsOrderedSlot (reqbufs_answer c side count found).slot
reqbufs_slot c Out count found s =
    unless_sound c (refuse_if c.out.streams Busy None) _ s (λ (p : refuse_if c.out.streams Busy None ≡ None).
    if_found_sound c found _ s (settle_sound _ (new_buffers_firm c.kind c count (sizeimage c Out) (refused_split c.out.streams Busy None p).0 s.firm)))
reqbufs_slot c Cap count found s =
    unless_sound c (refuse_if c.cap.streams Busy None) _ s (λ (p : refuse_if c.cap.streams Busy None ≡ None).
    if_found_sound c found _ s (settle_sound _ (new_capture_firm c.kind c count (sizeimage c Cap) (refused_split c.cap.streams Busy None p).0 s.firm)))

create_firm : (c : Context) (side : Side) (count size : ℕ) → IsSoundButUnsettled c → IsSoundButUnsettled (with_queue c side (create_after (queue_of c side) count size))
create_firm c Out count size f =
    out_firm c (create_after c.out count size) c.codec c.geometry f.out_side (create_sound c.out count size f.out) refl (λ e. e) f.queued f.drained f.has_codec f
create_firm c Cap count size f =
    cap_firm c (create_after c.cap count size) f.cap_side (create_sound c.cap count size f.cap) refl (λ e. e) f.ends f.long.ready f.long.job f

create_slot : (c : Context) (side : Side) (count size : ℕ) (found : Bool) → IsOrdered c → IsOrderedSlot (create_answer c side count size found).slot
create_slot c side count size found s =
    let q = queue_of c side in
    let a = answered (with_queue c side (create_after q count size)) (Created (buffer_count q) (created q count)) in
    unless_sound c (create_refusal q count size) (if_found c found a) s
    (λ (p : create_refusal q count size ≡ None). if_found_sound c found a s (settle_sound (with_queue c side (create_after q count size)) (create_firm c side count size s.firm)))

query_sound : (c : Context) (o : Option Reply) → IsOrdered c → IsOrderedSlot (query_answer c o).slot
query_sound c None s = s
query_sound c (Some reply) s = s

-- QBuf

-- the buffer that is queued is held and as long as the format
queued_fits : (side : Side) (o : Option Buffer) (used least : ℕ) → held_refusal side o used least ≡ None → (b : Buffer) × ((o ≡ Some b) × (nat_lt b.size least ≡ false))
queued_fits side None used least p = absurd (cc)
queued_fits side (Some b) used least p =
    let t = refused_split (is_out side && nat_lt b.size used) Inval _ p in
    (b, (refl, (refused_split (nat_lt b.size least) Inval None t.1).0))

long_end : (least : ℕ) (bs : List Buffer) (x : Buffer) → AreLong least bs → nat_lt x.size least ≡ false → AreLong least (bs ++ x ∷ [])
long_end least bs x h l =
    list_all-append (λ b. nat_le least b.size) bs (x ∷ []) ∙ (ap (λ b. b && (nat_le least x.size && true)) h ∙ ap (λ b. b && true) (le-leb least x.size (ltb-false x.size least l)))

queue_out_firm : (c : Context) (k used : ℕ) (stamp : Stamp) (bytes : List ℕ) (b : Buffer) → with_index k c.out.held ≡ Some b → IsSoundButUnsettled c → IsSoundButUnsettled (record c { out = queue_held c.out k (Some b) used stamp bytes })
queue_out_firm c k used stamp bytes b e f =
    out_firm c (queue_held c.out k (Some b) used stamp bytes) c.codec c.geometry f.out_side (queue_sound c.out k b used stamp bytes e f.out) refl
    (λ e. e) (still_past c.mark c.out.next_ordinal f.queued) (λ x.
    drained_end c.out.ready (queued_buffer c.out.side b used stamp bytes c.out.next_ordinal) c.mark c.out.next_ordinal
    (queued_ordinal c.out.side b used stamp bytes c.out.next_ordinal) f.queued (f.drained x))
    f.has_codec f

queue_cap_firm :
    (c : Context) (k used : ℕ) (stamp : Stamp) (bytes : List ℕ) (b : Buffer) → with_index k c.cap.held ≡ Some b
    → nat_lt b.size (sizeimage c Cap) ≡ false → IsSoundButUnsettled c
    → IsSoundButUnsettled (record c { cap = queue_held c.cap k (Some b) used stamp bytes })
queue_cap_firm c k used stamp bytes b e l f =
    cap_firm c (queue_held c.cap k (Some b) used stamp bytes) f.cap_side (queue_sound c.cap k b used stamp bytes e f.cap) refl (λ e. e) f.ends
    (λ s p. long_end (sizeimage c Cap) c.cap.ready _ (f.long.ready s p) (ap (λ n. nat_lt n (sizeimage c Cap)) (queued_size c.cap.side b used stamp bytes c.cap.next_ordinal) ∙ l))
    f.long.job f

queue_firm :
    (c : Context) (side : Side) (k used : ℕ) (stamp : Stamp) (bytes : List ℕ) (b : Buffer) → with_index k (queue_of c side).held ≡ Some b
    → nat_lt b.size (sizeimage c side) ≡ false → IsSoundButUnsettled c
    → IsSoundButUnsettled (with_queue c side (queue_held (queue_of c side) k (with_index k (queue_of c side).held) used stamp bytes))
queue_firm c Out k used stamp bytes b e l f =
    subst (λ o. IsSoundButUnsettled (record c { out = queue_held c.out k o used stamp bytes })) (sym e) (queue_out_firm c k used stamp bytes b e f)
queue_firm c Cap k used stamp bytes b e l f =
    subst (λ o. IsSoundButUnsettled (record c { cap = queue_held c.cap k o used stamp bytes })) (sym e) (queue_cap_firm c k used stamp bytes b e l f)

queue_slot : (c : Context) (side : Side) (k used : ℕ) (stamp : Stamp) (bytes : List ℕ) → IsOrdered c → IsOrderedSlot (qbuf_answer c side k used stamp bytes).slot
queue_slot c side k used stamp bytes s =
    let q = queue_of c side in
    unless_sound c (held_refusal q.side (with_index k q.held) used (sizeimage c side)) _ s
    (λ (p : held_refusal q.side (with_index k q.held) used (sizeimage c side) ≡ None).
    let b = queued_fits q.side (with_index k q.held) used (sizeimage c side) p in
    unless_sound c (refuse_if (is_no_whole_picture c side used) Inval None) (answered (with_queue c side (qbuf_after q k used stamp bytes)) Done) s
    (λ (r : refuse_if (is_no_whole_picture c side used) Inval None ≡ None).
    settle_sound (with_queue c side (qbuf_after q k used stamp bytes)) (queue_firm c side k used stamp bytes b.0 b.1.0 b.1.1 s.firm)))

-- DqBuf

-- the context after the front of CAPTURE's done list was taken
taken_firm :
    (c : Context) (b : Buffer) (rest : List Buffer) → c.cap.done ≡ b ∷ rest → c.cap.streams ≡ true
    → (is_last c.phase ≡ true → ends_with_last rest ≡ true) → IsSoundButUnsettled c
    → IsSoundButUnsettled (record c { cap = take_front c.cap (b ∷ rest) })
taken_firm c b rest d s l f =
    cap_firm c (take_front c.cap (b ∷ rest)) f.cap_side (take_sound c.cap b rest d s f.cap) refl (λ e. e) l f.long.ready f.long.job f

stopped_firm :
    (c : Context) (cause : Cause) (mark : Option ℕ) (b : Buffer) (rest : List Buffer) → c.cap.done ≡ b ∷ rest → c.cap.streams ≡ true
    → c.phase ≡ last cause → (is_some mark ≡ true → is_some c.mark ≡ true) → MarkIsQueued mark c.out.next_ordinal → IsSoundButUnsettled c
    → IsSoundButUnsettled (record c { cap = take_front c.cap (b ∷ rest); phase = stopped cause; mark = mark })
stopped_firm c cause mark b rest d s p m past f =
    let none = idle c f (ap is_run p) in
    record {
      out_side = f.out_side;
      cap_side = f.cap_side;
      out = f.out;
      cap = take_sound c.cap b rest d s f.cap;
      has_buffers = no_job_there (record c { cap = take_front c.cap (b ∷ rest); phase = stopped cause; mark = mark }) c.running none.0 none.1.0 none.1.1;
      has_codec = f.has_codec;
      marked = λ e. f.marked (m e);
      queued = past;
      drained = λ (e : false ≡ true). absurd (false≢true e);
      stopping = λ e. s;
      ends = λ (e : false ≡ true). absurd (false≢true e);
      long = record { ready = λ t e. f.long.ready t (ap stops_by_change p ∙ e); job = λ t e. f.long.job t (ap stops_by_change p ∙ e) };
    }

-- the last entry of a list with at least two is that of the rest
still_last : (b d : Buffer) (rest : List Buffer) (c : Context) → c.cap.done ≡ b ∷ (d ∷ rest) → IsSoundButUnsettled c → is_last c.phase ≡ true → ends_with_last (d ∷ rest) ≡ true
still_last b d rest c e f l = ap ends_with_last (sym e) ∙ f.ends l

not_last : {A : Type 0} → (p q : PhaseState) → p ≡ q → is_last q ≡ false → is_last p ≡ true → A
not_last p q e n l = absurd (false≢true (sym n ∙ (ap is_last (sym e) ∙ l)))

take_cap_firm :
    (c : Context) (b : Buffer) (rest : List Buffer) → c.cap.done ≡ b ∷ rest → c.cap.streams ≡ true → IsSoundButUnsettled c → (phase : PhaseState)
    → c.phase ≡ phase → IsSoundButUnsettled (stop_at_last (record c { cap = take_front c.cap (b ∷ rest) }) phase (is_empty rest))
take_cap_firm c b [] d s f run p = taken_firm c b [] d s (not_last c.phase run p refl) f
take_cap_firm c b [] d s f (owe cause) p = taken_firm c b [] d s (not_last c.phase (owe cause) p refl) f
take_cap_firm c b [] d s f (last drain) p = stopped_firm c drain None b [] d s p (λ (e : false ≡ true). absurd (false≢true e)) tt f
take_cap_firm c b [] d s f (last change) p = stopped_firm c change c.mark b [] d s p (λ e. e) f.queued f
take_cap_firm c b [] d s f (stopped cause) p = taken_firm c b [] d s (not_last c.phase (stopped cause) p refl) f
take_cap_firm c b (x ∷ rest) d s f run p = taken_firm c b (x ∷ rest) d s (still_last b x rest c d f) f
take_cap_firm c b (x ∷ rest) d s f (owe cause) p = taken_firm c b (x ∷ rest) d s (still_last b x rest c d f) f
take_cap_firm c b (x ∷ rest) d s f (last drain) p = taken_firm c b (x ∷ rest) d s (still_last b x rest c d f) f
take_cap_firm c b (x ∷ rest) d s f (last change) p = taken_firm c b (x ∷ rest) d s (still_last b x rest c d f) f
take_cap_firm c b (x ∷ rest) d s f (stopped cause) p = taken_firm c b (x ∷ rest) d s (still_last b x rest c d f) f

take_out_firm : (c : Context) (b : Buffer) (rest : List Buffer) → c.out.done ≡ b ∷ rest → c.out.streams ≡ true → IsSoundButUnsettled c → IsSoundButUnsettled (record c { out = take_front c.out (b ∷ rest) })
take_out_firm c b rest d s f =
    out_firm c (take_front c.out (b ∷ rest)) c.codec c.geometry f.out_side (take_sound c.out b rest d s f.out) refl (λ e. e) f.queued f.drained f.has_codec f

take_slot : (c : Context) (side : Side) (ds : List Buffer) → (queue_of c side).done ≡ ds → (queue_of c side).streams ≡ true → IsOrdered c → IsOrderedSlot (taken_answer c side ds).slot
take_slot c side [] d t s = s
take_slot c Out (b ∷ rest) d t s =
    settle_sound (record c { out = dqbuf_after c.out }) (subst (λ l. IsSoundButUnsettled (record c { out = take_front c.out l })) (sym d) (take_out_firm c b rest d t s.firm))
take_slot c Cap (b ∷ rest) d t s =
    settle_sound (after_taking (record c { cap = dqbuf_after c.cap }) Cap) (subst (λ l. IsSoundButUnsettled (after_taking (record c { cap = take_front c.cap l }) Cap)) (sym d) (take_cap_firm c b rest d t s.firm c.phase refl))

dqbuf_slot : (c : Context) (side : Side) (block : Bool) → IsOrdered c → IsOrderedSlot (dqbuf_answer c side block).slot
dqbuf_slot c side block s =
    let q = queue_of c side in
    or_block_sound c (dqbuf_refusal q (is_ended c side)) block (taken_answer c side q.done) s
    (λ (p : dqbuf_refusal q (is_ended c side) ≡ None). take_slot c side q.done refl (not_false q.streams (refused_split (not q.streams) Inval _ p).0) s)

-- StreamOn

pub positive : (n : ℕ) → eqb n 0 ≡ false → 0 < n
positive zero e = absurd (false≢true (sym e))
positive (suc n) e = omega arith

on_number :
    (q : QueueState) (least : ℕ) → IsSoundQueue q → (b : Bool) → q.streams ≡ b
    → cond b None (refuse_if (buffer_count q == 0) Inval (refuse_if (not (is_out q.side) && not (long_enough q least)) Inval None)) ≡ None
    → 0 < buffer_count q
on_number q least s true e p = s.filled e
on_number q least s false e p = positive (buffer_count q) (refused_split (buffer_count q == 0) Inval _ p).0

on_long : (q : QueueState) (least : ℕ) → q.side ≡ Cap → refuse_if (buffer_count q == 0) Inval (refuse_if (not (is_out q.side) && not (long_enough q least)) Inval None) ≡ None → AreLong least q.ready
on_long q least c p =
    let t = (refused_split (not (is_out q.side) && not (long_enough q least)) Inval None (refused_split (buffer_count q == 0) Inval _ p).1).0 in
    let u : not (long_enough q least) ≡ false = ap (λ side. not (is_out side) && not (long_enough q least)) (sym c) ∙ t in
    and_left (list_all (λ b. nat_le least b.size) q.ready) _ (not_false (long_enough q least) u)

on_firm :
    (c : Context) (b : Bool) → c.cap.streams ≡ b
    → cond b None (refuse_if (buffer_count c.cap == 0) Inval (refuse_if (not (is_out c.cap.side) && not (long_enough c.cap (sizeimage c Cap))) Inval None)) ≡ None
    → IsSoundButUnsettled c → IsSoundButUnsettled (record c { cap = streamon_after c.cap })
on_firm c true e p f =
    cap_firm c (streamon_after c.cap) f.cap_side (streamon_sound c.cap (f.cap.filled e) f.cap) refl (λ x. refl) f.ends (λ x. f.long.ready e) (λ x. f.long.job e) f
on_firm c false e p f =
    cap_firm c (streamon_after c.cap) f.cap_side (streamon_sound c.cap (on_number c.cap (sizeimage c Cap) f.cap false e p) f.cap) refl (λ x. refl)
    f.ends (λ x y. on_long c.cap (sizeimage c Cap) f.cap_side p) (λ x y. subst (AreLong (sizeimage c Cap)) (sym (f.cap.job_at_rest e)) refl) f

streamon_slot : (c : Context) (side : Side) → IsOrdered c → IsOrderedSlot (streamon_answer c side).slot
streamon_slot c Out s =
    let f = s.firm in
    unless_sound c (streamon_refusal c.out (sizeimage c Out)) (answered (record c { out = streamon_after c.out }) Done) s
    (λ (p : streamon_refusal c.out (sizeimage c Out) ≡ None).
    settle_sound (record c { out = streamon_after c.out })
    (out_firm c (streamon_after c.out) c.codec c.geometry f.out_side
    (streamon_sound c.out (on_number c.out (sizeimage c Out) f.out c.out.streams refl p) f.out) refl (λ e. refl) f.queued f.drained f.has_codec f))
streamon_slot c Cap s =
    unless_sound c (streamon_refusal c.cap (sizeimage c Cap)) (answered (record c { cap = streamon_after c.cap }) Done) s
    (λ (p : streamon_refusal c.cap (sizeimage c Cap) ≡ None). settle_sound (record c { cap = streamon_after c.cap }) (on_firm c c.cap.streams refl p s.firm))

-- StreamOff

restart_run : (p : PhaseState) → is_run (without_drain_stop p) ≡ false → is_run p ≡ false
restart_run run e = e
restart_run (owe drain) e = refl
restart_run (owe change) e = refl
restart_run (last drain) e = refl
restart_run (last change) e = refl
restart_run (stopped drain) e = refl
restart_run (stopped change) e = refl

restart_last : (p : PhaseState) → is_last (without_drain_stop p) ≡ true → is_last p ≡ true
restart_last run e = e
restart_last (owe drain) e = e
restart_last (owe change) e = e
restart_last (last drain) e = refl
restart_last (last change) e = refl
restart_last (stopped drain) e = e
restart_last (stopped change) e = e

pub restart_change : (p : PhaseState) → stops_by_change p ≡ stops_by_change (without_drain_stop p)
restart_change run = refl
restart_change (owe drain) = refl
restart_change (owe change) = refl
restart_change (last drain) = refl
restart_change (last change) = refl
restart_change (stopped drain) = refl
restart_change (stopped change) = refl

kept_mark : (p : PhaseState) (m : Option ℕ) → is_some (mark_after_restart p m) ≡ true → is_some m ≡ true
kept_mark run m e = absurd (false≢true e)
kept_mark (owe drain) m e = absurd (false≢true e)
kept_mark (owe change) m e = e
kept_mark (last drain) m e = absurd (false≢true e)
kept_mark (last change) m e = e
kept_mark (stopped drain) m e = absurd (false≢true e)
kept_mark (stopped change) m e = e

pub none_is : (o : Option Running) → is_none o ≡ true → o ≡ None
none_is None e = refl
none_is (Some r) e = absurd (false≢true e)

off_out_firm :
    (c : Context) (codec : CodecState) → HasCodec c.kind codec → is_none c.running ≡ true → IsSoundButUnsettled c
    → IsSoundButUnsettled (record c { out = streamoff_after c.out; mark = None; phase = without_drain_stop c.phase; codec = codec })
off_out_firm c codec h n f =
    let jobs = without_job c f n in
    record {
      out_side = f.out_side;
      cap_side = f.cap_side;
      out = streamoff_sound c.out jobs.0 f.out;
      cap = f.cap;
      has_buffers = no_job_there (record c { out = streamoff_after c.out; mark = None; phase = without_drain_stop c.phase; codec = codec }) c.running (none_is c.running n) jobs.0 jobs.1;
      has_codec = h;
      marked = λ (e : false ≡ true). absurd (false≢true e);
      queued = tt;
      drained = restart_end c.phase;
      stopping = λ e. f.stopping (restart_run c.phase e);
      ends = λ e. f.ends (restart_last c.phase e);
      long = record { ready = λ s e. f.long.ready s (restart_change c.phase ∙ e); job = λ s e. f.long.job s (restart_change c.phase ∙ e) };
    }

off_cap_firm :
    (c : Context) (codec : CodecState) → HasCodec c.kind codec → is_none c.running ≡ true → IsSoundButUnsettled c
    → IsSoundButUnsettled (record c { cap = streamoff_after c.cap; mark = mark_after_restart c.phase c.mark; phase = run; codec = codec })
off_cap_firm c codec h n f =
    let jobs = without_job c f n in
    record {
      out_side = f.out_side;
      cap_side = f.cap_side;
      out = f.out;
      cap = streamoff_sound c.cap jobs.1 f.cap;
      has_buffers = no_job_there (record c { cap = streamoff_after c.cap; mark = mark_after_restart c.phase c.mark; phase = run; codec = codec }) c.running (none_is c.running n) jobs.0 jobs.1;
      has_codec = h;
      marked = λ e. f.marked (kept_mark c.phase c.mark e);
      queued = kept_past c.phase c.mark c.out.next_ordinal f.queued;
      drained = λ (e : false ≡ true). absurd (false≢true e);
      stopping = λ (e : true ≡ false). absurd (false≢true (sym e));
      ends = λ (e : false ≡ true). absurd (false≢true e);
      long = record { ready = λ (s : false ≡ true) e. absurd (false≢true s); job = λ (s : false ≡ true) e. absurd (false≢true s) };
    }

still_cap_firm : (c : Context) → c.cap.streams ≡ false → is_none c.running ≡ true → IsSoundButUnsettled c → IsSoundButUnsettled (record c { cap = streamoff_after c.cap })
still_cap_firm c s n f =
    let jobs = without_job c f n in
    cap_firm c (streamoff_after c.cap) f.cap_side (streamoff_sound c.cap jobs.1 f.cap) refl (λ e. no_longer c.cap.streams e s)
    (λ e. no_longer c.cap.streams (f.stopping (last_is_stop c.phase e)) s) (λ (e : false ≡ true) p. absurd (false≢true e))
    (λ (e : false ≡ true) p. absurd (false≢true e)) f

output_off_firm : (kind : Kind) (c : Context) → is_none c.running ≡ true → IsSoundButUnsettled c → IsSoundButUnsettled (after_output_off kind (record c { out = streamoff_after c.out; mark = None; phase = without_drain_stop c.phase }))
output_off_firm Copy c n f = off_out_firm c c.codec f.has_codec n f
output_off_firm Enc c n f = off_out_firm c c.codec f.has_codec n f
output_off_firm Dec c n f = off_out_firm c (reset c.codec) (codec_reset c.kind c.codec f.has_codec) n f

capture_off_firm :
    (kind : Kind) (c : Context) → is_none c.running ≡ true → IsSoundButUnsettled c
    → IsSoundButUnsettled (after_capture_off kind (record c { cap = streamoff_after c.cap; mark = mark_after_restart c.phase c.mark; phase = run }))
capture_off_firm Copy c n f = off_cap_firm c c.codec f.has_codec n f
capture_off_firm Enc c n f = off_cap_firm c (reset c.codec) (codec_reset c.kind c.codec f.has_codec) n f
capture_off_firm Dec c n f = off_cap_firm c c.codec f.has_codec n f

capture_split :
    (c : Context) (b : Bool) → c.cap.streams ≡ b → is_none c.running ≡ true → IsSoundButUnsettled c
    → IsSoundButUnsettled
    (cond b (after_capture_off c.kind (record c { cap = streamoff_after c.cap; mark = mark_after_restart c.phase c.mark; phase = run })) (record c { cap = streamoff_after c.cap }))
capture_split c true e n f = capture_off_firm c.kind c n f
capture_split c false e n f = still_cap_firm c e n f

off_firm : (c : Context) (side : Side) → is_none c.running ≡ true → IsSoundButUnsettled c → IsSoundButUnsettled (streamoff_effect c side)
off_firm c Out n f = output_off_firm c.kind c n f
off_firm c Cap n f = capture_split c c.cap.streams refl n f

streamoff_slot : (c : Context) (side : Side) → IsOrdered c → IsOrderedSlot (streamoff_answer c side).slot
streamoff_slot c side s =
    unless_running_sound c (is_none c.running) (answered (streamoff_effect c side) Done) s (λ (n : is_none c.running ≡ true). settle_sound (streamoff_effect c side) (off_firm c side n s.firm))

-- STOP and START

marked_firm : (c : Context) (m : ℕ) → m ≤ c.out.next_ordinal → is_some c.mark ≡ false → c.out.streams ≡ true → IsSoundButUnsettled c → IsSoundButUnsettled (record c { mark = Some m })
marked_firm c m past none s f =
    record {
      out_side = f.out_side;
      cap_side = f.cap_side;
      out = f.out;
      cap = f.cap;
      has_buffers = buffers_for c.running f.has_buffers;
      has_codec = f.has_codec;
      marked = λ e. s;
      queued = past;
      drained = λ e. absurd (false≢true (sym none ∙ drained_mark c.out.ready c.mark (f.drained e)));
      stopping = f.stopping;
      ends = f.ends;
      long = record { ready = f.long.ready; job = f.long.job };
    }
  where
    buffers_for : (o : Option Running) → HasItsBuffers c o → HasItsBuffers (record c { mark = Some m }) o
    buffers_for None h = h
    buffers_for (Some r) h = h

job_is_long : (c : Context) → IsSoundButUnsettled c → c.cap.streams ≡ true → (o : Option Running) → HasItsBuffers c o → AreLong (sizeimage c Cap) c.cap.job
job_is_long c f s None h = subst (AreLong (sizeimage c Cap)) (sym h.1) refl
job_is_long c f s (Some r) h = f.long.job s (run_no_change c.phase h.0)

running_firm : (c : Context) → AreLong (sizeimage c Cap) c.cap.ready → IsSoundButUnsettled c → IsSoundButUnsettled (record c { phase = run })
running_firm c l f =
    record {
      out_side = f.out_side;
      cap_side = f.cap_side;
      out = f.out;
      cap = f.cap;
      has_buffers = buffers_for c.running f.has_buffers;
      has_codec = f.has_codec;
      marked = f.marked;
      queued = f.queued;
      drained = λ (e : false ≡ true). absurd (false≢true e);
      stopping = λ (e : true ≡ false). absurd (false≢true (sym e));
      ends = λ (e : false ≡ true). absurd (false≢true e);
      long = record { ready = λ s e. l; job = λ s e. job_is_long c f s c.running f.has_buffers };
    }
  where
    buffers_for : (o : Option Running) → HasItsBuffers c o → HasItsBuffers (record c { phase = run }) o
    buffers_for None h = h
    buffers_for (Some r) h = (refl, h.1, h.2)

stop_split :
    (c : Context) (a b d : Bool) → both_stream c ≡ a → is_some c.mark ≡ b → IsOrdered c
    → IsOrderedSlot (cond (not a) (unchanged c Done) (cond b (refused c Busy) (cond d (unchanged c Done) (answered (record c { mark = Some c.out.next_ordinal }) Done)))).slot
stop_split c false b d e m s = s
stop_split c true true d e m s = s
stop_split c true false true e m s = s
stop_split c true false false e m s =
    settle_sound (record c { mark = Some c.out.next_ordinal }) (marked_firm c c.out.next_ordinal (omega arith) m (and_left c.out.streams c.cap.streams e) s.firm)

start_split :
    (c : Context) (a b d : Bool) → long_enough c.cap (sizeimage c Cap) ≡ d → IsOrdered c
    → IsOrderedSlot (cond (not a) (unchanged c Done) (cond b (refused c Busy) (cond (not d) (refused c Inval) (answered (record c { phase = run }) Done)))).slot
start_split c false b d e s = s
start_split c true true d e s = s
start_split c true false false e s = s
start_split c true false true e s =
    settle_sound (record c { phase = run }) (running_firm c (and_left (list_all (λ b. nat_le (sizeimage c Cap) b.size) c.cap.ready) _ e) s.firm)

command_split : (c : Context) (cmd : ℕ) (a b : Bool) → IsOrdered c → IsOrderedSlot (cond a (start_answer c) (cond b (stop_answer c) (refused c Inval))).slot
command_split c cmd true b s =
    start_split c (both_stream c) (start_is_early c.phase c.mark) (long_enough c.cap (sizeimage c Cap)) refl s
command_split c cmd false true s =
    stop_split c (both_stream c) (is_some c.mark) (is_stopped_by_drain c.phase) refl refl s
command_split c cmd false false s = s

kind_split : (c : Context) (cmd : ℕ) (b : Bool) → IsOrdered c → IsOrderedSlot (cond b (command_answer c cmd) (refused c NoTty)).slot
kind_split c cmd true s = command_split c cmd (cmd == 0) (cmd == 1) s
kind_split c cmd false s = s

-- Controls and events

value_slot : (c : Context) (o : Option ℕ) → IsOrdered c → IsOrderedSlot (value_answer c o).slot
value_slot c None s = s
value_slot c (Some v) s = s

control_slot : (c : Context) (o : Option RunRates) → IsOrdered c → IsOrderedSlot (control_answer c o).slot
control_slot c None s = s
control_slot c (Some rates) s = settle_sound (record c { rates = rates }) (rates_firm c rates s.firm)

event_slot : (c : Context) (o : Option Errno) (events : EventState) (reply : Reply) → IsOrdered c → IsOrderedSlot (unless c o (answered (record c { events = events }) reply)).slot
event_slot c o events reply s =
    unless_sound c o (answered (record c { events = events }) reply) s (λ p. settle_sound (record c { events = events }) (events_firm c events s.firm))

taken_event_slot : (c : Context) (o : Option Errno) (block : Bool) (events : EventState) (reply : Reply) → IsOrdered c → IsOrderedSlot (unless_or_block c o block (answered (record c { events = events }) reply)).slot
taken_event_slot c o block events reply s =
    or_block_sound c o block (answered (record c { events = events }) reply) s (λ p. settle_sound (record c { events = events }) (events_firm c events s.firm))

-- The whole table

context_sound : (c : Context) (request : Call) (bytes : List ℕ) (found : Bool) → IsOrdered c → IsOrderedSlot (context_answer c request bytes found).slot
unfolding context_answer
context_sound c (Open kind) bytes found s = s
context_sound c Close bytes found s =
    unless_running_sound c (is_none c.running) (record { slot = None; reply = Done; bytes = [] }) s (λ p. tt)
context_sound c (EnumFmt side index) bytes found s = desc_sound c _ s
context_sound c (GetFmt side) bytes found s = s
context_sound c (TryFmt side want) bytes found s = s
context_sound c (SetFmt side want) bytes found s = set_sound c side want s
context_sound c (ReqBufs side count) bytes found s = reqbufs_slot c side count found s
context_sound c (CreateBufs side count length) bytes found s = create_slot c side count length found s
context_sound c (QueryBuf side index) bytes found s = query_sound c _ s
context_sound c (QBuf side index used stamp) bytes found s = queue_slot c side index used stamp bytes s
context_sound c (DqBuf side block) bytes found s = dqbuf_slot c side block s
context_sound c (StreamOn side) bytes found s = streamon_slot c side s
context_sound c (StreamOff side) bytes found s = streamoff_slot c side s
context_sound c (Subscribe event) bytes found s = event_slot c _ _ Done s
context_sound c (Unsubscribe event) bytes found s = event_slot c _ _ Done s
context_sound c (DqEvent block) bytes found s = taken_event_slot c _ block _ _ s
context_sound c (DecCmd cmd) bytes found s = kind_split c cmd (is_dec c.kind) s
context_sound c (EncCmd cmd) bytes found s = kind_split c cmd (is_enc c.kind) s
context_sound c (GetCtrl id) bytes found s = value_slot c _ s
context_sound c (SetCtrl id value) bytes found s = control_slot c _ s
context_sound c Poll bytes found s = s

-- Open

codec_fresh : (kind : Kind) → HasCodec kind (codec_at_open kind)
codec_fresh Copy = tt
codec_fresh Enc = tt
codec_fresh Dec = tt

fresh_sound : (kind : Kind) → IsOrdered (fresh_context kind)
fresh_sound kind =
    record {
      firm = record {
        out_side = refl;
        cap_side = refl;
        out = new_sound Out;
        cap = new_sound Cap;
        has_buffers = (refl, refl);
        has_codec = codec_fresh kind;
        marked = λ (e : false ≡ true). absurd (false≢true e);
        queued = tt;
        drained = λ (e : false ≡ true). absurd (false≢true e);
        stopping = λ (e : true ≡ false). absurd (false≢true (sym e));
        ends = λ (e : false ≡ true). absurd (false≢true e);
        long = record { ready = λ s e. refl; job = λ s e. refl };
      };
      settled = record { noted = refl; given = refl };
    }

closed_sound : (request : Call) (found : Bool) → IsOrderedSlot (closed_answer request found).slot
unfolding closed_answer
closed_sound (Open kind) true = fresh_sound kind
closed_sound (Open kind) false = tt
closed_sound request found = tt

pub answer_sound : (s : Slot) (request : Call) (bytes : List ℕ) (found : Bool) → IsOrderedSlot s → IsOrderedSlot (answer s request bytes found).slot
unfolding answer
answer_sound None request bytes found s = closed_sound request found
answer_sound (Some c) request bytes found s = context_sound c request bytes found s
