-- No call changes the data of the running job.
use Rattle.std.proofs.Common.{ℕ, ◌≡◌, min, ◌==◌, nat_lt, Bool, true, false, not, cond, ◌&&◌, ◌||◌, is_none, is_some, Option, Some, None, List, [], ◌∷◌, refl, sym, ap, ◌∙◌, subst}
use Rattle.vc_base.specs.declared.Stamp.{Stamp}
use Rattle.vc_base.specs.declared.Side.{Side}
use Rattle.vc_base.specs.declared.Side.TheVariants.{Out, Cap}
use Rattle.vc_base.specs.declared.Kind.{Kind}
use Rattle.vc_base.specs.declared.Kind.TheVariants.{Copy, Enc, Dec}
use Rattle.vc_base.specs.declared.Fourcc.{Fourcc}
use Rattle.vc_base.specs.declared.Format.{Format}
use Rattle.vc_base.specs.declared.Errno.{Errno}
use Rattle.vc_base.specs.declared.Errno.TheVariants.{NoEnt, Again, NoMem, Busy, Inval, NoTty, Pipe}
use Rattle.vc_base.specs.declared.Call.{Call}
use Rattle.vc_base.specs.declared.Call.TheVariants.{Open, Close, EnumFmt, GetFmt, TryFmt, SetFmt, ReqBufs, CreateBufs, QueryBuf, QBuf, DqBuf, StreamOn, StreamOff, Subscribe, Unsubscribe, DqEvent, DecCmd, EncCmd, GetCtrl, SetCtrl, Poll}
use Rattle.vc_base.specs.declared.Reply.{Reply}
use Rattle.vc_base.specs.declared.Reply.TheVariants.{Fmt, Count, Blocked}
use Rattle.vc_base.specs.Buffers.{Buffer, QueueState, buffer_count, is_empty, with_index, held_refusal, queue_held, take_front, refuse_if, create_refusal}
use Rattle.vc_base.specs.Buffers.{create_after, qbuf_after, dqbuf_after, dqbuf_refusal, reqbufs_after, streamon_refusal, streamon_after, long_enough}
use Rattle.vc_base.specs.Limits.{most_buffers}
use Rattle.vc_model.specs.Formats.{formats_for}
use Rattle.vc_defs.specs.Encoder.{RunRates}
use Rattle.vc_model.specs.Context.{Context, Slot, Running, drain, PhaseState, run, owe, queue_of, with_queue, format_of, is_dec, is_enc, is_run, is_drained, sizeimage, settle, settle_drain, settle_last}
use Rattle.vc_model.specs.Answer.{Answer, unchanged, refused, answered, unless, if_found, unless_running, unless_or_block, desc_answer, set_answer, set_refusal}
use Rattle.vc_model.specs.Answer.{after_new_format, reqbufs_answer, after_new_buffers, query_answer, is_no_whole_picture, taken_answer, after_taking}
use Rattle.vc_model.specs.Answer.{stop_at_last, is_ended, both_stream, stop_answer, start_is_early, start_answer, command_answer, value_answer, control_answer}
use Rattle.vc_model.specs.Answer.{context_answer, answer}
use Rattle.vc_model.specs.Phases.{is_stopped_by_drain}

-- A job runs, in phase Run. OUTPUT streams and has a buffer, and CAPTURE has none in the job where it doesn't stream.
pub record IsBusy (c : Context) (r : Running) : Type 0 where
  pub runs : c.running ≡ Some r
  pub phase : c.phase ≡ run
  pub out_streams : c.out.streams ≡ true
  pub has : nat_lt 0 (buffer_count c.out) ≡ true
  pub cap_rest : c.cap.streams ≡ false → c.cap.job ≡ []

-- the job of the context is the same
pub record SameJob (c x : Context) : Type 0 where
  pub runs : x.running ≡ c.running
  pub phase : x.phase ≡ c.phase
  pub out : x.out.job ≡ c.out.job
  pub cap : x.cap.job ≡ c.cap.job
  pub codec : x.codec ≡ c.codec

pub data KeepsJob (c : Context) : Slot → Type 0 where
  keeps : (x : Context) → SameJob c x → KeepsJob c (Some x)

same : (c : Context) → KeepsJob c (Some c)
same c = keeps c (record { runs = refl; phase = refl; out = refl; cap = refl; codec = refl })

not_drained : (a b d : Bool) → (a && (b && (false && d))) ≡ false
not_drained true true d = refl
not_drained true false d = refl
not_drained false b d = refl

busy_settled : (x : Context) (r : Running) → x.running ≡ Some r → x.phase ≡ run → settle x ≡ x
unfolding settle
busy_settled x r runs phase =
    let e : (is_run x.phase && (x.cap.streams && (is_none x.running && is_drained x.out.ready x.mark))) ≡ false =
    ap (λ o. is_run x.phase && (x.cap.streams && (is_none o && is_drained x.out.ready x.mark))) runs ∙ not_drained (is_run x.phase) x.cap.streams (is_drained x.out.ready x.mark) in
    let s : settle_drain x ≡ x = ap (λ b. cond b (record x { phase = owe drain }) x) e in
    ap (λ y. settle_last y y.phase) s ∙ ap (settle_last x) phase

settled : (c x : Context) (r : Running) → IsBusy c r → SameJob c x → KeepsJob c (Some (settle x))
settled c x r b s =
    subst (λ y. KeepsJob c (Some y)) (sym (busy_settled x r (s.runs ∙ b.runs) (s.phase ∙ b.phase))) (keeps x s)

unless_keeps : (c : Context) (o : Option Errno) (a : Answer) → KeepsJob c a.slot → KeepsJob c (unless c o a).slot
unless_keeps c None a h = h
unless_keeps c (Some e) a h = same c

found_keeps : (c : Context) (found : Bool) (a : Answer) → KeepsJob c a.slot → KeepsJob c (if_found c found a).slot
found_keeps c true a h = h
found_keeps c false a h = same c

block_keeps : (c : Context) (o : Option Errno) (block : Bool) (a : Answer) → KeepsJob c a.slot → KeepsJob c (unless_or_block c o block a).slot
block_keeps c None block a h = h
block_keeps c (Some Again) true a h = same c
block_keeps c (Some Again) false a h = same c
block_keeps c (Some NoEnt) true a h = same c
block_keeps c (Some NoEnt) false a h = same c
block_keeps c (Some NoMem) block a h = same c
block_keeps c (Some Busy) block a h = same c
block_keeps c (Some Inval) block a h = same c
block_keeps c (Some NoTty) block a h = same c
block_keeps c (Some Pipe) block a h = same c

either_keeps : (c : Context) (b : Bool) (x y : Answer) → KeepsJob c x.slot → KeepsJob c y.slot → KeepsJob c (cond b x y).slot
either_keeps c true x y h k = h
either_keeps c false x y h k = k

-- a queue with the same job
queue_same : (c : Context) (side : Side) (q : QueueState) → q.job ≡ (queue_of c side).job → SameJob c (with_queue c side q)
queue_same c Out q e = record { runs = refl; phase = refl; out = e; cap = refl; codec = refl }
queue_same c Cap q e = record { runs = refl; phase = refl; out = refl; cap = e; codec = refl }

format_keeps : (c : Context) (r : Running) (side : Side) (want : Format) → IsBusy c r → KeepsJob c (set_answer c side want).slot
format_keeps c r Out want b =
    let formats = formats_for c.kind Out c.formats want in
    let a = answered (after_new_format c.kind Out (record c { formats = formats })) (Fmt (format_of formats Out)) in
    subst (λ t. KeepsJob c (unless c (refuse_if (t || nat_lt 0 (buffer_count c.cap)) Busy None) a).slot) (sym b.has) (same c)
format_keeps c r Cap want b =
    unless_keeps c (set_refusal c Cap) _ (settled c (after_new_format c.kind Cap (record c { formats = formats_for c.kind Cap c.formats want })) r b (other c.kind))
  where
    other : (kind : Kind) → SameJob c (after_new_format kind Cap (record c { formats = formats_for c.kind Cap c.formats want }))
    other Copy = record { runs = refl; phase = refl; out = refl; cap = refl; codec = refl }
    other Enc = record { runs = refl; phase = refl; out = refl; cap = refl; codec = refl }
    other Dec = record { runs = refl; phase = refl; out = refl; cap = refl; codec = refl }

cap_request :
    (c : Context) (r : Running) (count : ℕ) (found : Bool) → IsBusy c r → (t : Bool) → c.cap.streams ≡ t → (reply : Reply)
    → KeepsJob c (unless c (refuse_if t Busy None) (if_found c found (answered (after_new_buffers c.kind Cap (record c { cap = reqbufs_after c.cap count (sizeimage c Cap) })) reply))).slot
cap_request c r count found b true e reply = same c
cap_request c r count found b false e reply =
    found_keeps c found _ (settled c _ r b (fresh c.kind))
  where
    fresh : (kind : Kind) → SameJob c (after_new_buffers kind Cap (record c { cap = reqbufs_after c.cap count (sizeimage c Cap) }))
    fresh Copy = record { runs = refl; phase = refl; out = refl; cap = sym (b.cap_rest e); codec = refl }
    fresh Enc = record { runs = refl; phase = refl; out = refl; cap = sym (b.cap_rest e); codec = refl }
    fresh Dec = record { runs = refl; phase = refl; out = refl; cap = sym (b.cap_rest e); codec = refl }

request_keeps : (c : Context) (r : Running) (side : Side) (count : ℕ) (found : Bool) → IsBusy c r → KeepsJob c (reqbufs_answer c side count found).slot
request_keeps c r Out count found b =
    let effect = if_found c found (answered (after_new_buffers c.kind Out (with_queue c Out (reqbufs_after c.out count (sizeimage c Out)))) (Count (min count most_buffers))) in
    subst (λ t. KeepsJob c (unless c (refuse_if t Busy None) effect).slot) (sym b.out_streams) (same c)
request_keeps c r Cap count found b = cap_request c r count found b c.cap.streams refl _

held_job : (q : QueueState) (index : ℕ) (o : Option Buffer) (used : ℕ) (stamp : Stamp) (bytes : List ℕ) → (queue_held q index o used stamp bytes).job ≡ q.job
held_job q index None used stamp bytes = refl
held_job q index (Some b) used stamp bytes = refl

front_job : (q : QueueState) (done : List Buffer) → (take_front q done).job ≡ q.job
front_job q [] = refl
front_job q (b ∷ rest) = refl

same_both : (c x y : Context) → SameJob c x → SameJob x y → SameJob c y
same_both c x y s t =
    record { runs = t.runs ∙ s.runs; phase = t.phase ∙ s.phase; out = t.out ∙ s.out; cap = t.cap ∙ s.cap; codec = t.codec ∙ s.codec }

last_same : (x : Context) (p : PhaseState) (emptied : Bool) → p ≡ run → stop_at_last x p emptied ≡ x
last_same x p emptied e = ap (λ q. stop_at_last x q emptied) e

taking_same : (x : Context) (side : Side) → x.phase ≡ run → after_taking x side ≡ x
taking_same x Out e = refl
taking_same x Cap e = last_same x x.phase (is_empty x.cap.done) e

taken_keeps : (c : Context) (r : Running) (side : Side) (done : List Buffer) → IsBusy c r → KeepsJob c (taken_answer c side done).slot
taken_keeps c r side [] b = same c
taken_keeps c r side (d ∷ rest) b =
    let q = dqbuf_after (queue_of c side) in
    let s = queue_same c side q (front_job (queue_of c side) (queue_of c side).done) in
    subst (λ y. KeepsJob c (Some (settle y))) (sym (taking_same (with_queue c side q) side (s.phase ∙ b.phase))) (settled c (with_queue c side q) r b s)

desc_keeps : (c : Context) (o : Option Fourcc) → KeepsJob c (desc_answer c o).slot
desc_keeps c None = same c
desc_keeps c (Some f) = same c

query_keeps : (c : Context) (o : Option Reply) → KeepsJob c (query_answer c o).slot
query_keeps c None = same c
query_keeps c (Some r) = same c

value_keeps : (c : Context) (o : Option ℕ) → KeepsJob c (value_answer c o).slot
value_keeps c None = same c
value_keeps c (Some v) = same c

control_keeps : (c : Context) (r : Running) (o : Option RunRates) → IsBusy c r → KeepsJob c (control_answer c o).slot
control_keeps c r None b = same c
control_keeps c r (Some rates) b =
    settled c (record c { rates = rates }) r b (record { runs = refl; phase = refl; out = refl; cap = refl; codec = refl })

command_keeps : (c : Context) (r : Running) (cmd : ℕ) → IsBusy c r → KeepsJob c (command_answer c cmd).slot
command_keeps c r cmd b =
    let started : SameJob c (record c { phase = run }) = record { runs = refl; phase = sym b.phase; out = refl; cap = refl; codec = refl } in
    let marked : SameJob c (record c { mark = Some c.out.next_ordinal }) = record { runs = refl; phase = refl; out = refl; cap = refl; codec = refl } in
    either_keeps c (cmd == 0) (start_answer c) (cond (cmd == 1) (stop_answer c) (refused c Inval))
    (either_keeps c (not (both_stream c)) _ _ (same c)
    (either_keeps c (start_is_early c.phase c.mark) _ _ (same c) (either_keeps c (not (long_enough c.cap (sizeimage c Cap))) _ _ (same c) (settled c (record c { phase = run }) r b started))))
    (either_keeps c (cmd == 1) (stop_answer c) (refused c Inval)
    (either_keeps c (not (both_stream c)) _ _ (same c)
    (either_keeps c (is_some c.mark) _ _ (same c) (either_keeps c (is_stopped_by_drain c.phase) _ _ (same c) (settled c (record c { mark = Some c.out.next_ordinal }) r b marked))))
    (same c))

busy_answer : (c : Context) (r : Running) (a : Answer) → IsBusy c r → KeepsJob c (unless_running c a).slot
busy_answer c r a b = subst (λ o. KeepsJob c (cond (is_none o) a (unchanged c Blocked)).slot) (sym b.runs) (same c)

row_keeps : (c : Context) (r : Running) (request : Call) (bytes : List ℕ) (found : Bool) → IsBusy c r → KeepsJob c (context_answer c request bytes found).slot
unfolding context_answer
row_keeps c r (Open kind) bytes found b = same c
row_keeps c r Close bytes found b = busy_answer c r _ b
row_keeps c r (EnumFmt side index) bytes found b = desc_keeps c _
row_keeps c r (GetFmt side) bytes found b = same c
row_keeps c r (TryFmt side want) bytes found b = same c
row_keeps c r (SetFmt side want) bytes found b = format_keeps c r side want b
row_keeps c r (ReqBufs side count) bytes found b = request_keeps c r side count found b
row_keeps c r (CreateBufs side count length) bytes found b =
    unless_keeps c (create_refusal (queue_of c side) count length) _
    (found_keeps c found _ (settled c (with_queue c side (create_after (queue_of c side) count length)) r b (queue_same c side (create_after (queue_of c side) count length) refl)))
row_keeps c r (QueryBuf side index) bytes found b = query_keeps c _
row_keeps c r (QBuf side index used stamp) bytes found b =
    unless_keeps c (held_refusal (queue_of c side).side (with_index index (queue_of c side).held) used (sizeimage c side)) _
    (unless_keeps c (refuse_if (is_no_whole_picture c side used) Inval None) _
    (settled c (with_queue c side (qbuf_after (queue_of c side) index used stamp bytes)) r b
    (queue_same c side (qbuf_after (queue_of c side) index used stamp bytes) (held_job (queue_of c side) index (with_index index (queue_of c side).held) used stamp bytes))))
row_keeps c r (DqBuf side block) bytes found b =
    block_keeps c (dqbuf_refusal (queue_of c side) (is_ended c side)) block _ (taken_keeps c r side (queue_of c side).done b)
row_keeps c r (StreamOn side) bytes found b =
    unless_keeps c (streamon_refusal (queue_of c side) (sizeimage c side)) _ (settled c (with_queue c side (streamon_after (queue_of c side))) r b (queue_same c side (streamon_after (queue_of c side)) refl))
row_keeps c r (StreamOff side) bytes found b = busy_answer c r _ b
row_keeps c r (Subscribe event) bytes found b =
    unless_keeps c _ _ (settled c _ r b (record { runs = refl; phase = refl; out = refl; cap = refl; codec = refl }))
row_keeps c r (Unsubscribe event) bytes found b =
    unless_keeps c _ _ (settled c _ r b (record { runs = refl; phase = refl; out = refl; cap = refl; codec = refl }))
row_keeps c r (DqEvent block) bytes found b =
    block_keeps c _ block _ (settled c _ r b (record { runs = refl; phase = refl; out = refl; cap = refl; codec = refl }))
row_keeps c r (DecCmd cmd) bytes found b = either_keeps c (is_dec c.kind) _ _ (command_keeps c r cmd b) (same c)
row_keeps c r (EncCmd cmd) bytes found b = either_keeps c (is_enc c.kind) _ _ (command_keeps c r cmd b) (same c)
row_keeps c r (GetCtrl id) bytes found b = value_keeps c _
row_keeps c r (SetCtrl id value) bytes found b = control_keeps c r _ b
row_keeps c r Poll bytes found b = same c

pub answer_keeps : (c : Context) (r : Running) (request : Call) (bytes : List ℕ) (found : Bool) → IsBusy c r → KeepsJob c (answer (Some c) request bytes found).slot
unfolding answer
answer_keeps c r request bytes found b = row_keeps c r request bytes found b
