-- Every fourcc that a slot tells is one of the six that the device knows. Formats begin with known ones, and SetFmt
-- and a change of the resolution put only known ones into them.
use Rattle.std.proofs.Common.{ℕ, ◌≡◌, ◌==◌, Bool, true, false, not, cond, ◌&&◌, ◌||◌, length, is_none, is_some, Option, Some, None, List, [], ◌∷◌, refl, sym, ap, ◌∙◌, subst}
use Rattle.std.proofs.Common.{zero, suc, ◌+◌}
use Rattle.std.specs.Prelude.{bit_or, min, slice_get}
use Rattle.std.specs.List.{list_any, list_all}
use Rattle.std.proofs.lemmas.Bool.{false≢true}
use Rattle.vc_base.specs.Buffers.{info, info_of, querybuf_reply, reqbufs_refusal, qbuf_refusal}
use Rattle.vc_base.specs.Limits.{queued_flag, done_flag, most_buffers, error_flag, source_change_event}
use Rattle.vc_base.specs.Events.{Event, event_refusal, event_reply, raise_after, subscribe_after, unsubscribe_after, take_event_after}
use Rattle.vc_defs.specs.declared.Layout.{Layout}
use Rattle.vc_defs.specs.declared.Layout.TheVariants.{Grey, C420, C422}
use Rattle.vc_defs.specs.declared.Geometry.{Geometry}
use Rattle.vc_defs.specs.Raw.{grey, yu12, nv12, yuyv, same_fourcc, layout_of, raw_formats, first_raw}
use Rattle.vc_defs.specs.Decoder.{DecodedResult, picture, damaged, changed, spent, step_outcome}
use Rattle.vc_model.specs.Formats.{FormatPair, data_format, fwht, formats_at_open, formats_listed, formats_found}
use Rattle.vc_model.specs.Coder.{Coder, encoder, decoder, reset}
use Rattle.vc_model.specs.Context.{RunSort, format_of}
use Rattle.vc_model.specs.Runs.{is_claimable, sort_of, claim_front, after_claim, JobData, job_data, RunResult, copied, encoded, decoded, run_result}
use Rattle.vc_model.specs.Runs.{source_done, source_back, source_moved, dest_done, dest_back, decoded_effect, run_effect, fault_effect, type_flag, after_finish}
use Rattle.vc_model.specs.Solo.{SoloEvent, Called, Claims, Finishes, solo_step, solo_slot, claim_step, solo_finish, finish_step}
use Rattle.vc_model.specs.Answer.{closed_answer, control_of, with_control}
use Rattle.vc_model.specs.Script.{is_known, HasKnownFourcc, FourccsAreKnown}
use Rattle.vc_model.proofs.PartsOfTests.{and_left, and_right}
use Rattle.vc_base.specs.declared.Stamp.{Stamp}
use Rattle.vc_base.specs.declared.Side.{Side}
use Rattle.vc_base.specs.declared.Side.TheVariants.{Out, Cap}
use Rattle.vc_base.specs.declared.Kind.{Kind}
use Rattle.vc_base.specs.declared.Kind.TheVariants.{Copy, Enc, Dec}
use Rattle.vc_base.specs.declared.Fourcc.{Fourcc}
use Rattle.vc_base.specs.declared.Format.{Format}
use Rattle.vc_base.specs.declared.Errno.{Errno}
use Rattle.vc_base.specs.declared.Errno.TheVariants.{NoEnt, Again, NoMem, Busy, Inval, NoTty, Pipe}
use Rattle.vc_base.specs.declared.Call.{Call}
use Rattle.vc_base.specs.declared.Call.TheVariants.{Open, Close, EnumFmt, GetFmt, TryFmt, SetFmt, ReqBufs, CreateBufs, QueryBuf, QBuf, DqBuf, StreamOn, StreamOff, Subscribe, Unsubscribe, DqEvent, DecCmd, EncCmd, GetCtrl, SetCtrl, Poll}
use Rattle.vc_base.specs.declared.Reply.{Reply}
use Rattle.vc_base.specs.declared.Reply.TheVariants.{Done, Fmt, Count, Created, Blocked}
use Rattle.vc_base.specs.Buffers.{Buffer, QueueState, buffer_count, is_empty, with_index, held_refusal, refuse_if, create_refusal, create_after, created}
use Rattle.vc_base.specs.Buffers.{qbuf_after, dqbuf_after, dqbuf_refusal, reqbufs_after, streamon_refusal, streamon_after, streamoff_after, long_enough}
use Rattle.vc_model.specs.Formats.{formats_for}
use Rattle.vc_defs.specs.Encoder.{RunRates}
use Rattle.vc_model.specs.Context.{Context, Slot, Running, Cause, drain, change, PhaseState, run, owe, last, stopped, queue_of, with_queue, is_dec, is_enc, is_run, is_drained, sizeimage, settle, settle_drain, settle_last, give_last}
use Rattle.vc_model.specs.Answer.{Answer, unchanged, refused, answered, unless, if_found, unless_or_block, desc_answer, set_refusal, after_new_format}
use Rattle.vc_model.specs.Answer.{after_new_buffers, query_answer, is_no_whole_picture, taken_answer, after_taking, stop_at_last, is_ended, streamoff_effect}
use Rattle.vc_model.specs.Answer.{without_drain_stop, after_output_off, mark_after_restart, after_capture_off, both_stream, stop_answer, start_is_early}
use Rattle.vc_model.specs.Answer.{start_answer, command_answer, value_answer, control_answer, context_answer, answer}
use Rattle.vc_model.specs.Phases.{is_stopped_by_drain}

-- the slot is closed, or its context has these formats
Lasts : FormatPair → Slot → Type 0
Lasts o None = Unit {0}
Lasts o (Some c) = c.formats ≡ o

-- Settling

given_formats : (c : Context) (cause : Cause) (ready : List Buffer) → (give_last c cause ready).formats ≡ c.formats
given_formats c cause [] = refl
given_formats c drain (b ∷ rest) = refl
given_formats c change (b ∷ rest) = refl

owed_formats : (c : Context) (phase : PhaseState) → (settle_last c phase).formats ≡ c.formats
owed_formats c run = refl
owed_formats c (owe cause) = given_formats c cause c.cap.ready
owed_formats c (last cause) = refl
owed_formats c (stopped cause) = refl

drained_formats : (c : Context) (b : Bool) → (cond b (record c { phase = owe drain }) c).formats ≡ c.formats
drained_formats c true = refl
drained_formats c false = refl

settle_formats : (c : Context) → (settle c).formats ≡ c.formats
unfolding settle
settle_formats c =
    owed_formats (settle_drain c) (settle_drain c).phase ∙ drained_formats c (is_run c.phase && (c.cap.streams && (is_none c.running && is_drained c.out.ready c.mark)))

-- Refusals

unless_lasts : (c : Context) (o : Option Errno) (a : Answer) → Lasts c.formats a.slot → Lasts c.formats (unless c o a).slot
unfolding Lasts
unless_lasts c None a h = h
unless_lasts c (Some e) a h = refl

found_lasts : (c : Context) (found : Bool) (a : Answer) → Lasts c.formats a.slot → Lasts c.formats (if_found c found a).slot
unfolding Lasts
found_lasts c true a h = h
found_lasts c false a h = refl

block_lasts : (c : Context) (o : Option Errno) (block : Bool) (a : Answer) → Lasts c.formats a.slot → Lasts c.formats (unless_or_block c o block a).slot
unfolding Lasts
block_lasts c None block a h = h
block_lasts c (Some Again) true a h = refl
block_lasts c (Some Again) false a h = refl
block_lasts c (Some NoEnt) true a h = refl
block_lasts c (Some NoEnt) false a h = refl
block_lasts c (Some NoMem) block a h = refl
block_lasts c (Some Busy) block a h = refl
block_lasts c (Some Inval) block a h = refl
block_lasts c (Some NoTty) block a h = refl
block_lasts c (Some Pipe) block a h = refl

either_lasts : (c : Context) (b : Bool) (x y : Answer) → Lasts c.formats x.slot → Lasts c.formats y.slot → Lasts c.formats (cond b x y).slot
either_lasts c true x y h k = h
either_lasts c false x y h k = k

-- the effect leaves the formats, and settling too
settled_lasts : (c x : Context) → x.formats ≡ c.formats → Lasts c.formats (Some (settle x))
unfolding Lasts
settled_lasts c x e = settle_formats x ∙ e

-- Effects

buffers_formats : (kind : Kind) (side : Side) (c : Context) → (after_new_buffers kind side c).formats ≡ c.formats
buffers_formats Copy side c = refl
buffers_formats Enc Out c = refl
buffers_formats Enc Cap c = refl
buffers_formats Dec Out c = refl
buffers_formats Dec Cap c = refl

queue_formats : (c : Context) (side : Side) (q : QueueState) → (with_queue c side q).formats ≡ c.formats
queue_formats c Out q = refl
queue_formats c Cap q = refl

last_formats : (c : Context) (phase : PhaseState) (emptied : Bool) → (stop_at_last c phase emptied).formats ≡ c.formats
last_formats c run emptied = refl
last_formats c (owe cause) emptied = refl
last_formats c (last drain) true = refl
last_formats c (last drain) false = refl
last_formats c (last change) true = refl
last_formats c (last change) false = refl
last_formats c (stopped cause) emptied = refl

taking_formats : (c : Context) (side : Side) → (after_taking c side).formats ≡ c.formats
taking_formats c Out = refl
taking_formats c Cap = last_formats c c.phase (is_empty c.cap.done)

taken_lasts : (c : Context) (side : Side) (ds : List Buffer) → Lasts c.formats (taken_answer c side ds).slot
unfolding Lasts
taken_lasts c side [] = refl
taken_lasts c side (b ∷ rest) =
    settle_formats (after_taking (with_queue c side (dqbuf_after (queue_of c side))) side) ∙ (taking_formats (with_queue c side (dqbuf_after (queue_of c side))) side ∙ queue_formats c side (dqbuf_after (queue_of c side)))

output_formats : (kind : Kind) (c : Context) → (after_output_off kind c).formats ≡ c.formats
output_formats Copy c = refl
output_formats Enc c = refl
output_formats Dec c = refl

capture_formats : (kind : Kind) (c : Context) → (after_capture_off kind c).formats ≡ c.formats
capture_formats Copy c = refl
capture_formats Enc c = refl
capture_formats Dec c = refl

off_split : (c : Context) (b : Bool) → (cond b (after_capture_off c.kind (record c { cap = streamoff_after c.cap; mark = mark_after_restart c.phase c.mark; phase = run })) (record c { cap = streamoff_after c.cap })).formats ≡ c.formats
off_split c true =
    capture_formats c.kind (record c { cap = streamoff_after c.cap; mark = mark_after_restart c.phase c.mark; phase = run })
off_split c false = refl

off_formats : (c : Context) (side : Side) → (streamoff_effect c side).formats ≡ c.formats
off_formats c Out =
    output_formats c.kind (record c { out = streamoff_after c.out; mark = None; phase = without_drain_stop c.phase })
off_formats c Cap = off_split c c.cap.streams

-- Rows

desc_lasts : (c : Context) (o : Option Fourcc) → Lasts c.formats (desc_answer c o).slot
unfolding Lasts
desc_lasts c None = refl
desc_lasts c (Some f) = refl

query_lasts : (c : Context) (o : Option Reply) → Lasts c.formats (query_answer c o).slot
unfolding Lasts
query_lasts c None = refl
query_lasts c (Some r) = refl

value_lasts : (c : Context) (o : Option ℕ) → Lasts c.formats (value_answer c o).slot
unfolding Lasts
value_lasts c None = refl
value_lasts c (Some v) = refl

control_lasts : (c : Context) (o : Option RunRates) → Lasts c.formats (control_answer c o).slot
unfolding Lasts
control_lasts c None = refl
control_lasts c (Some rates) = settle_formats (record c { rates = rates })

same_lasts : (c : Context) → Lasts c.formats (Some c)
unfolding Lasts
same_lasts c = refl

command_lasts : (c : Context) (cmd : ℕ) → Lasts c.formats (command_answer c cmd).slot
command_lasts c cmd =
    either_lasts c (cmd == 0) (start_answer c) (cond (cmd == 1) (stop_answer c) (refused c Inval))
    (either_lasts c (not (both_stream c)) _ _ (same_lasts c)
    (either_lasts c (start_is_early c.phase c.mark) _ _ (same_lasts c)
    (either_lasts c (not (long_enough c.cap (sizeimage c Cap))) _ _ (same_lasts c) (settled_lasts c (record c { phase = run }) refl))))
    (either_lasts c (cmd == 1) (stop_answer c) (refused c Inval)
    (either_lasts c (not (both_stream c)) _ _ (same_lasts c)
    (either_lasts c (is_some c.mark) _ _ (same_lasts c) (either_lasts c (is_stopped_by_drain c.phase) _ _ (same_lasts c) (settled_lasts c (record c { mark = Some c.out.next_ordinal }) refl))))
    (same_lasts c))

close_lasts : (c : Context) (b : Bool) → Lasts c.formats (cond b (record { slot = None; reply = Done; bytes = [] }) (unchanged c Blocked)).slot
unfolding Lasts
close_lasts c true = tt
close_lasts c false = refl

-- Formats

-- the fourccs of both formats are known
abbrev Known : FormatPair → Type 0
Known formats = (is_known formats.out.fourcc ≡ true) × (is_known formats.cap.fourcc ≡ true)

KnownSlot : Slot → Type 0
KnownSlot None = Unit {0}
KnownSlot (Some c) = Known c.formats

kept_known : (c : Context) (s : Slot) → Known c.formats → Lasts c.formats s → KnownSlot s
unfolding Lasts KnownSlot
kept_known c None k l = tt
kept_known c (Some x) k l = subst Known (sym l) k

-- one of the formats of an encoder
of_encoder : (a b x y z w : Bool) → (x || (y || (z || (w || false)))) ≡ true → (a || (b || (x || (y || (z || (w || false)))))) ≡ true
of_encoder true b x y z w e = refl
of_encoder false true x y z w e = refl
of_encoder false false x y z w e = e

encoder_known : (f : Fourcc) (b : Bool) → list_any (same_fourcc f) (grey ∷ yu12 ∷ nv12 ∷ yuyv ∷ []) ≡ b → is_known (cond b f yu12) ≡ true
encoder_known f true e =
    of_encoder (same_fourcc f data_format) (same_fourcc f fwht) (same_fourcc f grey) (same_fourcc f yu12) (same_fourcc f nv12) (same_fourcc f yuyv) e
encoder_known f false e = refl

of_grey : (a b x t : Bool) → (x || false) ≡ true → (a || (b || (x || t))) ≡ true
of_grey true b x t e = refl
of_grey false true x t e = refl
of_grey false false true t e = refl
of_grey false false false t e = absurd (false≢true e)

of_planes : (a b x y z t : Bool) → (y || (z || false)) ≡ true → (a || (b || (x || (y || (z || t))))) ≡ true
of_planes true b x y z t e = refl
of_planes false true x y z t e = refl
of_planes false false true y z t e = refl
of_planes false false false true z t e = refl
of_planes false false false false true t e = refl
of_planes false false false false false t e = absurd (false≢true e)

of_packed : (a b x y z w : Bool) → (w || false) ≡ true → (a || (b || (x || (y || (z || (w || false)))))) ≡ true
of_packed true b x y z w e = refl
of_packed false true x y z w e = refl
of_packed false false true y z w e = refl
of_packed false false false true z w e = refl
of_packed false false false false true w e = refl
of_packed false false false false false w e = e

decoder_known : (layout : Layout) (f : Fourcc) (b : Bool) → list_any (same_fourcc f) (raw_formats layout) ≡ b → is_known (cond b f (first_raw layout)) ≡ true
decoder_known Grey f true e =
    of_grey (same_fourcc f data_format) (same_fourcc f fwht) (same_fourcc f grey) _ e
decoder_known Grey f false e = refl
decoder_known C420 f true e =
    of_planes (same_fourcc f data_format) (same_fourcc f fwht) (same_fourcc f grey) (same_fourcc f yu12) (same_fourcc f nv12) _ e
decoder_known C420 f false e = refl
decoder_known C422 f true e =
    of_packed (same_fourcc f data_format) (same_fourcc f fwht) (same_fourcc f grey) (same_fourcc f yu12) (same_fourcc f nv12) (same_fourcc f yuyv) e
decoder_known C422 f false e = refl

known_for : (kind : Kind) (side : Side) (present : FormatPair) (want : Format) → Known present → Known (formats_for kind side present want)
known_for Copy Out present want k = (refl, refl)
known_for Copy Cap present want k = k
known_for Enc Out present want k =
    (encoder_known want.fourcc (list_any (same_fourcc want.fourcc) (grey ∷ yu12 ∷ nv12 ∷ yuyv ∷ [])) refl, refl)
known_for Enc Cap present want k = k
known_for Dec Out present want k = (refl, refl)
known_for Dec Cap present want k =
    let layout = layout_of present.cap.fourcc in
    (k.0, decoder_known layout want.fourcc (list_any (same_fourcc want.fourcc) (raw_formats layout)) refl)

known_found : (present : FormatPair) (geometry : Geometry) → Known (formats_found present geometry)
known_found present geometry =
    (refl, decoder_known geometry.layout present.cap.fourcc (list_any (same_fourcc present.cap.fourcc) (raw_formats geometry.layout)) refl)

known_at : (formats : FormatPair) (side : Side) → Known formats → is_known (format_of formats side).fourcc ≡ true
known_at formats Out k = k.0
known_at formats Cap k = k.1

known_at_open : (kind : Kind) → Known (formats_at_open kind)
known_at_open Copy = (refl, refl)
known_at_open Enc = (refl, refl)
known_at_open Dec = (refl, refl)

-- The slot after a call

format_sets : (kind : Kind) (side : Side) (c : Context) → (after_new_format kind side c).formats ≡ c.formats
format_sets Copy side c = refl
format_sets Enc Out c = refl
format_sets Enc Cap c = refl
format_sets Dec Out c = refl
format_sets Dec Cap c = refl

set_known :
    (c : Context) (side : Side) (want : Format) (o : Option Errno) → Known c.formats
    → KnownSlot
    (unless c o (answered (after_new_format c.kind side (record c { formats = formats_for c.kind side c.formats want })) (Fmt (format_of (formats_for c.kind side c.formats want) side)))).slot
unfolding KnownSlot
set_known c side want (Some errno) k = k
set_known c side want None k =
    subst Known
    (sym
    (settle_formats (after_new_format c.kind side (record c { formats = formats_for c.kind side c.formats want }))
    ∙ format_sets c.kind side (record c { formats = formats_for c.kind side c.formats want })))
    (known_for c.kind side c.formats want k)

row_known : (c : Context) (request : Call) (bytes : List ℕ) (found : Bool) → Known c.formats → KnownSlot (context_answer c request bytes found).slot
unfolding context_answer
row_known c (Open kind) bytes found k = kept_known c _ k (same_lasts c)
row_known c Close bytes found k = kept_known c _ k (close_lasts c (is_none c.running))
row_known c (EnumFmt side index) bytes found k = kept_known c _ k (desc_lasts c _)
row_known c (GetFmt side) bytes found k = kept_known c _ k (same_lasts c)
row_known c (TryFmt side want) bytes found k = kept_known c _ k (same_lasts c)
row_known c (SetFmt side want) bytes found k = set_known c side want (set_refusal c side) k
row_known c (ReqBufs side count) bytes found k =
    kept_known c _ k
    (unless_lasts c _ _
    (found_lasts c found _
    (settled_lasts c (after_new_buffers c.kind side (with_queue c side (reqbufs_after (queue_of c side) count (sizeimage c side))))
    (buffers_formats c.kind side (with_queue c side (reqbufs_after (queue_of c side) count (sizeimage c side))) ∙ queue_formats c side _))))
row_known c (CreateBufs side count length) bytes found k =
    kept_known c _ k
    (unless_lasts c (create_refusal (queue_of c side) count length) _
    (found_lasts c found _ (settled_lasts c (with_queue c side (create_after (queue_of c side) count length)) (queue_formats c side (create_after (queue_of c side) count length)))))
row_known c (QueryBuf side index) bytes found k = kept_known c _ k (query_lasts c _)
row_known c (QBuf side index used stamp) bytes found k =
    kept_known c _ k
    (unless_lasts c (held_refusal (queue_of c side).side (with_index index (queue_of c side).held) used (sizeimage c side)) _
    (unless_lasts c (refuse_if (is_no_whole_picture c side used) Inval None) _
    (settled_lasts c (with_queue c side (qbuf_after (queue_of c side) index used stamp bytes)) (queue_formats c side (qbuf_after (queue_of c side) index used stamp bytes)))))
row_known c (DqBuf side block) bytes found k = kept_known c _ k (block_lasts c (dqbuf_refusal (queue_of c side) (is_ended c side)) block _ (taken_lasts c side (queue_of c side).done))
row_known c (StreamOn side) bytes found k =
    kept_known c _ k
    (unless_lasts c (streamon_refusal (queue_of c side) (sizeimage c side)) _
    (settled_lasts c (with_queue c side (streamon_after (queue_of c side))) (queue_formats c side (streamon_after (queue_of c side)))))
row_known c (StreamOff side) bytes found k = kept_known c _ k (either_lasts c (is_none c.running) _ _ (settled_lasts c (streamoff_effect c side) (off_formats c side)) (same_lasts c))
row_known c (Subscribe event) bytes found k = kept_known c _ k (unless_lasts c _ _ (settled_lasts c _ refl))
row_known c (Unsubscribe event) bytes found k = kept_known c _ k (unless_lasts c _ _ (settled_lasts c _ refl))
row_known c (DqEvent block) bytes found k = kept_known c _ k (block_lasts c _ block _ (settled_lasts c _ refl))
row_known c (DecCmd cmd) bytes found k = kept_known c _ k (either_lasts c (is_dec c.kind) _ _ (command_lasts c cmd) (same_lasts c))
row_known c (EncCmd cmd) bytes found k = kept_known c _ k (either_lasts c (is_enc c.kind) _ _ (command_lasts c cmd) (same_lasts c))
row_known c (GetCtrl id) bytes found k = kept_known c _ k (value_lasts c _)
row_known c (SetCtrl id value) bytes found k = kept_known c _ k (control_lasts c _)
row_known c Poll bytes found k = kept_known c _ k (same_lasts c)

closed_known : (request : Call) (found : Bool) → KnownSlot (closed_answer request found).slot
unfolding closed_answer KnownSlot
closed_known (Open kind) true = known_at_open kind
closed_known (Open kind) false = tt
closed_known request found = tt

answer_known : (s : Slot) (request : Call) (bytes : List ℕ) (found : Bool) → KnownSlot s → KnownSlot (answer s request bytes found).slot
unfolding answer KnownSlot
answer_known None request bytes found k = closed_known request found
answer_known (Some c) request bytes found k = row_known c request bytes found k

-- The slot after a claim and after a finish

claimed_formats : (c : Context) (sort : RunSort) (ready : List Buffer) → (claim_front c sort ready).formats ≡ c.formats
claimed_formats c sort [] = refl
claimed_formats c sort (b ∷ rest) = refl

claim_known : (s : Slot) (b : Bool) → KnownSlot s → KnownSlot (claim_step s b).slot
unfolding KnownSlot after_claim
claim_known None b k = tt
claim_known (Some c) true k = subst Known (sym (claimed_formats c (sort_of c.kind c.geometry) c.out.ready)) k
claim_known (Some c) false k = k

dest_split : (c : Context) (b : Bool) (x y : Context) → x.formats ≡ c.formats → y.formats ≡ c.formats → (cond b x y).formats ≡ c.formats
dest_split c true x y e f = e
dest_split c false x y e f = f

dest_formats : (c : Context) (dest : List Buffer) (used_up : Bool) (used : ℕ) (bytes : List ℕ) (flags : ℕ) (stamp : Stamp) → (dest_done c dest used_up used bytes flags stamp).formats ≡ c.formats
dest_formats c [] used_up used bytes flags stamp = refl
dest_formats c (b ∷ bs) used_up used bytes flags stamp =
    dest_split c (used_up && is_drained c.out.ready c.mark) _ _ refl refl

moved_formats : (c : Context) (j : JobData) (cursor : ℕ) (b : Bool) → (source_moved c j cursor b).formats ≡ c.formats
moved_formats c j cursor true = refl
moved_formats c j cursor false = refl

back_formats : (c : Context) (dest : List Buffer) → (dest_back c dest).formats ≡ c.formats
back_formats c [] = refl
back_formats c (b ∷ bs) = refl

change_formats : (c : Context) (b : Bool) → (cond b (record c { phase = owe change }) c).formats ≡ c.formats
change_formats c true = refl
change_formats c false = refl

decoded_known : (c : Context) (j : JobData) (cursor : ℕ) (result : DecodedResult) → Known c.formats → Known (decoded_effect c j cursor result).formats
decoded_known c j cursor (picture bytes key stamp) k =
    subst Known (sym (dest_formats (source_moved c j cursor (cursor == j.source.used)) j.dest (cursor == j.source.used) (length bytes) bytes (type_flag key) stamp ∙ moved_formats c j cursor (cursor == j.source.used))) k
decoded_known c j cursor (damaged stamp) k =
    subst Known (sym (dest_formats (source_moved c j cursor (cursor == j.source.used)) j.dest (cursor == j.source.used) 0 [] error_flag stamp ∙ moved_formats c j cursor (cursor == j.source.used))) k
decoded_known c j cursor (changed geometry) k =
    let here = dest_back (source_back c j cursor) j.dest in
    subst Known (sym (change_formats (record here { geometry = Some geometry; formats = formats_found here.formats geometry; events = raise_after here.events source_change_event 1 }) here.cap.streams)) (known_found here.formats geometry)
decoded_known c j cursor spent k = subst Known (sym (back_formats (source_done c j 0) j.dest)) k

run_known : (c : Context) (j : JobData) (result : RunResult) → Known c.formats → Known (run_effect c j result).formats
run_known c j (copied bytes) k =
    subst Known (sym (dest_formats (source_done c j 0) j.dest true (length bytes) bytes 0 j.source.stamp)) k
run_known c j (encoded frame) k =
    subst Known (sym (dest_formats (source_done (record c { codec = encoder frame.state }) j 0) j.dest true (length frame.bytes) frame.bytes (type_flag frame.key) j.source.stamp)) k
run_known c j (decoded step) k =
    decoded_known (record c { codec = decoder step.state }) j (j.source.cursor + step.moved) (step_outcome j.format.fourcc step) k

finish_known : (coder : Coder) (c : Context) (r : Running) (fault : Bool) → Known c.formats → Known (after_finish coder c r fault).formats
unfolding after_finish
finish_known coder c r true k =
    subst Known
    (sym
    (settle_formats (fault_effect (record c { running = None }) (job_data c r))
    ∙ dest_formats (source_done (record c { codec = reset c.codec; running = None }) (job_data c r) error_flag) c.cap.job true 0 [] error_flag (job_data c r).source.stamp))
    k
finish_known coder c r false k =
    subst Known (sym (settle_formats (run_effect (record c { running = None }) (job_data c r) (run_result coder (job_data c r))))) (run_known (record c { running = None }) (job_data c r) (run_result coder (job_data c r)) k)

ended_known : (coder : Coder) (c : Context) (o : Option Running) (fault : Bool) → Known c.formats → KnownSlot (solo_finish coder c o fault).slot
unfolding KnownSlot
ended_known coder c None fault k = k
ended_known coder c (Some r) fault k = finish_known coder c r fault k

finish_step_known : (coder : Coder) (s : Slot) (fault : Bool) → KnownSlot s → KnownSlot (finish_step coder s fault).slot
unfolding KnownSlot
finish_step_known coder None fault k = tt
finish_step_known coder (Some c) fault k = ended_known coder c c.running fault k

step_known : (coder : Coder) (s : Slot) (e : SoloEvent) → KnownSlot s → KnownSlot (solo_step coder s e).slot
unfolding solo_step
step_known coder s (Called request bytes found) k = answer_known s request bytes found k
step_known coder s Claims k = claim_known s (is_claimable s) k
step_known coder s (Finishes fault) k = finish_step_known coder s fault k

run_slots_known : (coder : Coder) (s : Slot) (es : List SoloEvent) → KnownSlot s → KnownSlot (solo_slot coder s es)
run_slots_known coder s [] k = k
run_slots_known coder s (e ∷ es) k = run_slots_known coder (solo_step coder s e).slot es (step_known coder s e k)

-- Replies

unless_reply : (c : Context) (o : Option Errno) (a : Answer) → HasKnownFourcc a.reply → HasKnownFourcc (unless c o a).reply
unless_reply c None a h = h
unless_reply c (Some e) a h = tt

found_reply : (c : Context) (found : Bool) (a : Answer) → HasKnownFourcc a.reply → HasKnownFourcc (if_found c found a).reply
found_reply c true a h = h
found_reply c false a h = tt

block_reply : (c : Context) (o : Option Errno) (block : Bool) (a : Answer) → HasKnownFourcc a.reply → HasKnownFourcc (unless_or_block c o block a).reply
block_reply c None block a h = h
block_reply c (Some Again) true a h = tt
block_reply c (Some Again) false a h = tt
block_reply c (Some NoEnt) true a h = tt
block_reply c (Some NoEnt) false a h = tt
block_reply c (Some NoMem) block a h = tt
block_reply c (Some Busy) block a h = tt
block_reply c (Some Inval) block a h = tt
block_reply c (Some NoTty) block a h = tt
block_reply c (Some Pipe) block a h = tt

all_known : (l : List Fourcc) (i : ℕ) (f : Fourcc) → list_all is_known l ≡ true → slice_get l i ≡ Some f → is_known f ≡ true
all_known [] i f h e = absurd (cc)
all_known (x ∷ l) zero f h e =
    let same : x ≡ f = cc in ap is_known (sym same) ∙ and_left (is_known x) (list_all is_known l) h
all_known (x ∷ l) (suc i) f h e = all_known l i f (and_right (is_known x) (list_all is_known l) h) e

listed_known : (kind : Kind) (side : Side) (present : FormatPair) → list_all is_known (formats_listed kind side present) ≡ true
listed_known Copy side present = refl
listed_known Enc Out present = refl
listed_known Enc Cap present = refl
listed_known Dec Out present = refl
listed_known Dec Cap present = raw_known (layout_of present.cap.fourcc)
  where
    raw_known : (layout : Layout) → list_all is_known (raw_formats layout) ≡ true
    raw_known Grey = refl
    raw_known C420 = refl
    raw_known C422 = refl

desc_reply : (c : Context) (side : Side) (index : ℕ) (o : Option Fourcc) → slice_get (formats_listed c.kind side c.formats) index ≡ o → HasKnownFourcc (desc_answer c o).reply
desc_reply c side index None e = tt
desc_reply c side index (Some f) e =
    all_known (formats_listed c.kind side c.formats) index f (listed_known c.kind side c.formats) e

info_known : (c : Context) (f : Buffer → Reply) → ((b : Buffer) → HasKnownFourcc (f b)) → (o : Option Buffer) (other : Option Reply) → HasKnownFourcc (query_answer c other).reply → HasKnownFourcc (query_answer c (info_of o f other)).reply
info_known c f h None other k = k
info_known c f h (Some b) other k = h b

query_reply : (c : Context) (q : QueueState) (index : ℕ) → HasKnownFourcc (query_answer c (querybuf_reply q index)).reply
query_reply c q index =
    info_known c (info 0) (λ b. tt) (with_index index q.held) _
    (info_known c (info queued_flag) (λ b. tt) (with_index index q.ready) _
    (info_known c (info queued_flag) (λ b. tt) (with_index index q.job) _ (info_known c (λ b. info (bit_or done_flag b.flags) b) (λ b. tt) (with_index index q.done) None tt)))

taken_reply : (c : Context) (side : Side) (ds : List Buffer) → HasKnownFourcc (taken_answer c side ds).reply
taken_reply c side [] = tt
taken_reply c side (b ∷ rest) = tt

event_known : (pending : List Event) → HasKnownFourcc (event_reply pending)
event_known [] = tt
event_known (e ∷ rest) = tt

value_reply : (c : Context) (o : Option ℕ) → HasKnownFourcc (value_answer c o).reply
value_reply c None = tt
value_reply c (Some v) = tt

control_reply : (c : Context) (o : Option RunRates) → HasKnownFourcc (control_answer c o).reply
control_reply c None = tt
control_reply c (Some rates) = tt

either_reply : (b : Bool) (x y : Answer) → HasKnownFourcc x.reply → HasKnownFourcc y.reply → HasKnownFourcc (cond b x y).reply
either_reply true x y h k = h
either_reply false x y h k = k

command_reply : (c : Context) (cmd : ℕ) → HasKnownFourcc (command_answer c cmd).reply
command_reply c cmd =
    either_reply (cmd == 0) (start_answer c) (cond (cmd == 1) (stop_answer c) (refused c Inval))
    (either_reply (not (both_stream c)) (unchanged c Done)
    (cond (start_is_early c.phase c.mark) (refused c Busy) (cond (not (long_enough c.cap (sizeimage c Cap))) (refused c Inval) (answered (record c { phase = run }) Done)))
    tt
    (either_reply (start_is_early c.phase c.mark) (refused c Busy)
    (cond (not (long_enough c.cap (sizeimage c Cap))) (refused c Inval) (answered (record c { phase = run }) Done)) tt
    (either_reply (not (long_enough c.cap (sizeimage c Cap))) (refused c Inval) (answered (record c { phase = run }) Done) tt tt)))
    (either_reply (cmd == 1) (stop_answer c) (refused c Inval)
    (either_reply (not (both_stream c)) (unchanged c Done)
    (cond (is_some c.mark) (refused c Busy) (cond (is_stopped_by_drain c.phase) (unchanged c Done) (answered (record c { mark = Some c.out.next_ordinal }) Done)))
    tt
    (either_reply (is_some c.mark) (refused c Busy)
    (cond (is_stopped_by_drain c.phase) (unchanged c Done) (answered (record c { mark = Some c.out.next_ordinal }) Done)) tt
    (either_reply (is_stopped_by_drain c.phase) (unchanged c Done) (answered (record c { mark = Some c.out.next_ordinal }) Done) tt tt)))
    tt)

row_reply : (c : Context) (request : Call) (bytes : List ℕ) (found : Bool) → Known c.formats → HasKnownFourcc (context_answer c request bytes found).reply
unfolding context_answer
row_reply c (Open kind) bytes found k = tt
row_reply c Close bytes found k =
    either_reply (is_none c.running) (record { slot = None; reply = Done; bytes = [] }) (unchanged c Blocked) tt tt
row_reply c (EnumFmt side index) bytes found k =
    desc_reply c side index (slice_get (formats_listed c.kind side c.formats) index) refl
row_reply c (GetFmt side) bytes found k = known_at c.formats side k
row_reply c (TryFmt side want) bytes found k =
    known_at (formats_for c.kind side c.formats want) side (known_for c.kind side c.formats want k)
row_reply c (SetFmt side want) bytes found k =
    let formats = formats_for c.kind side c.formats want in
    unless_reply c (set_refusal c side) (answered (after_new_format c.kind side (record c { formats = formats })) (Fmt (format_of formats side))) (known_at formats side (known_for c.kind side c.formats want k))
row_reply c (ReqBufs side count) bytes found k =
    let a = answered (after_new_buffers c.kind side (with_queue c side (reqbufs_after (queue_of c side) count (sizeimage c side)))) (Count (min count most_buffers)) in
    unless_reply c (reqbufs_refusal (queue_of c side)) (if_found c found a) (found_reply c found a tt)
row_reply c (CreateBufs side count length) bytes found k =
    let q = queue_of c side in
    let a = answered (with_queue c side (create_after q count length)) (Created (buffer_count q) (created q count)) in
    unless_reply c (create_refusal q count length) (if_found c found a) (found_reply c found a tt)
row_reply c (QueryBuf side index) bytes found k = query_reply c (queue_of c side) index
row_reply c (QBuf side index used stamp) bytes found k =
    let q = queue_of c side in
    let a = answered (with_queue c side (qbuf_after q index used stamp bytes)) Done in
    let o = refuse_if (is_no_whole_picture c side used) Inval None in
    unless_reply c (qbuf_refusal q index used (sizeimage c side)) (unless c o a) (unless_reply c o a tt)
row_reply c (DqBuf side block) bytes found k =
    block_reply c (dqbuf_refusal (queue_of c side) (is_ended c side)) block (taken_answer c side (queue_of c side).done) (taken_reply c side (queue_of c side).done)
row_reply c (StreamOn side) bytes found k =
    let q = queue_of c side in
    unless_reply c (streamon_refusal q (sizeimage c side)) (answered (with_queue c side (streamon_after q)) Done) tt
row_reply c (StreamOff side) bytes found k =
    either_reply (is_none c.running) (answered (streamoff_effect c side) Done) (unchanged c Blocked) tt tt
row_reply c (Subscribe event) bytes found k =
    unless_reply c (event_refusal c.kind event) (answered (record c { events = subscribe_after c.events event }) Done) tt
row_reply c (Unsubscribe event) bytes found k =
    unless_reply c (event_refusal c.kind event) (answered (record c { events = unsubscribe_after c.events event }) Done) tt
row_reply c (DqEvent block) bytes found k =
    block_reply c (refuse_if (is_empty c.events.pending) NoEnt None) block (answered (record c { events = take_event_after c.events }) (event_reply c.events.pending)) (event_known c.events.pending)
row_reply c (DecCmd cmd) bytes found k =
    either_reply (is_dec c.kind) (command_answer c cmd) (refused c NoTty) (command_reply c cmd) tt
row_reply c (EncCmd cmd) bytes found k =
    either_reply (is_enc c.kind) (command_answer c cmd) (refused c NoTty) (command_reply c cmd) tt
row_reply c (GetCtrl id) bytes found k = value_reply c (control_of c.kind c.rates id)
row_reply c (SetCtrl id value) bytes found k = control_reply c (with_control c.kind c.rates id value)
row_reply c Poll bytes found k = tt

closed_reply : (request : Call) (found : Bool) → HasKnownFourcc (closed_answer request found).reply
unfolding closed_answer
closed_reply (Open kind) true = tt
closed_reply (Open kind) false = tt
closed_reply request found = tt

reply_known : (s : Slot) (request : Call) (bytes : List ℕ) (found : Bool) → KnownSlot s → HasKnownFourcc (answer s request bytes found).reply
unfolding answer KnownSlot
reply_known None request bytes found k = closed_reply request found
reply_known (Some c) request bytes found k = row_reply c request bytes found k

pub fourccs_known : FourccsAreKnown
unfolding KnownSlot
fourccs_known coder events request bytes found =
    reply_known (solo_slot coder None events) request bytes found (run_slots_known coder None events tt)
