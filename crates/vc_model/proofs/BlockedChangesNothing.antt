-- A call that answers Blocked leaves its slot, and the whole core, as they were. It answers so where it waits, for a
-- buffer or an event to take or for the end of the job, and its row then hands back the context that it was given.
use Rattle.std.proofs.Common.{ℕ, ◌≡◌, ◌+◌, ◌==◌, eqb, Bool, true, false, not, cond, ◌||◌, is_none, is_some, Option, Some, None, List, [], ◌∷◌, ◌++◌, length, refl, sym, ap, ◌∙◌, subst, arith}
use Rattle.std.specs.List.{filter}
use Rattle.std.proofs.lemmas.List.{set-get_or}
use Rattle.std.proofs.lemmas.Bool.{false≢true}
use Rattle.vc_base.specs.declared.Side.{Side}
use Rattle.vc_base.specs.declared.Fourcc.{Fourcc}
use Rattle.vc_base.specs.declared.Errno.{Errno}
use Rattle.vc_base.specs.declared.Errno.TheVariants.{NoEnt, Again, NoMem, Busy, Inval, NoTty, Pipe}
use Rattle.vc_base.specs.declared.Call.{Call}
use Rattle.vc_base.specs.declared.Call.TheVariants.{Open, Close, EnumFmt, GetFmt, TryFmt, SetFmt, ReqBufs, CreateBufs, QueryBuf, QBuf, DqBuf, StreamOn, StreamOff, Subscribe, Unsubscribe, DqEvent, DecCmd, EncCmd, GetCtrl, SetCtrl, Poll}
use Rattle.vc_base.specs.declared.Reply.{Reply}
use Rattle.vc_base.specs.declared.Reply.TheVariants.{Done, Fmt, Count, Created, Blocked}
use Rattle.vc_base.specs.declared.Side.TheVariants.{Cap}
use Rattle.vc_base.specs.Buffers.{Buffer, is_empty, buffer_count, refuse_if, reqbufs_refusal, reqbufs_after, create_refusal, create_after, created}
use Rattle.vc_base.specs.Buffers.{querybuf_reply, qbuf_refusal, qbuf_after, dqbuf_refusal, long_enough, streamon_refusal, streamon_after}
use Rattle.vc_base.specs.Limits.{most_buffers}
use Rattle.std.specs.Prelude.{slice_get, min}
use Rattle.vc_model.specs.Formats.{formats_listed, formats_for}
use Rattle.vc_base.specs.Events.{Event, event_reply, event_refusal, subscribe_after, unsubscribe_after, take_event_after}
use Rattle.vc_defs.specs.Encoder.{RunRates}
use Rattle.vc_model.specs.Context.{Context, Slot, run, queue_of, with_queue, format_of, sizeimage, is_dec, is_enc}
use Rattle.vc_model.specs.Answer.{set_refusal, after_new_format, after_new_buffers, is_no_whole_picture, is_ended, streamoff_effect, control_of, with_control}
use Rattle.vc_model.specs.Answer.{Answer, unchanged, refused, answered, unless, if_found, unless_or_block, desc_answer, query_answer, taken_answer, both_stream}
use Rattle.vc_model.specs.Answer.{stop_answer, start_is_early, start_answer, command_answer, value_answer, control_answer, context_answer, closed_answer}
use Rattle.vc_model.specs.Answer.{answer}
use Rattle.vc_model.specs.Phases.{is_stopped_by_drain}
use Rattle.vc_model.specs.Runs.{is_claimable}
use Rattle.vc_model.specs.Solo.{Answered}
use Rattle.vc_model.specs.Devices.{Told, new_device, slot_of, waiting_after, with_slot, steps_of, counted, ignored, call_answered, device_after}
use Rattle.vc_model.specs.JobList.{waits}
use Rattle.vc_model.specs.Standing.{CoreState}
use Rattle.vc_model.specs.Core.{BlockedChangesNothing}
use Rattle.vc_model.proofs.JobListIsExact.{exact_list}
use Rattle.vc_model.proofs.CallsLeaveTheJob.{claimable_without_job}
use Rattle.vc_model.proofs.CoresStandForDevices.{core_slot_at}

-- where the answer is Blocked the slot is as it was
abbrev Stays : Context → Answer → Type 0
Stays c a = a.reply ≡ Blocked → a.slot ≡ Some c

unless_stays : (c : Context) (o : Option Errno) (a : Answer) → Stays c a → Stays c (unless c o a)
unless_stays c None a h = h
unless_stays c (Some e) a h = λ p. refl

found_stays : (c : Context) (found : Bool) (a : Answer) → Stays c a → Stays c (if_found c found a)
found_stays c true a h = h
found_stays c false a h = λ p. refl

either_stays : (c : Context) (b : Bool) (x y : Answer) → Stays c x → Stays c y → Stays c (cond b x y)
either_stays c true x y h k = h
either_stays c false x y h k = k

block_stays : (c : Context) (o : Option Errno) (block : Bool) (a : Answer) → Stays c a → Stays c (unless_or_block c o block a)
block_stays c None block a h = h
block_stays c (Some Again) true a h = λ p. refl
block_stays c (Some Again) false a h = λ p. refl
block_stays c (Some NoEnt) true a h = λ p. refl
block_stays c (Some NoEnt) false a h = λ p. refl
block_stays c (Some NoMem) block a h = λ p. refl
block_stays c (Some Busy) block a h = λ p. refl
block_stays c (Some Inval) block a h = λ p. refl
block_stays c (Some NoTty) block a h = λ p. refl
block_stays c (Some Pipe) block a h = λ p. refl

desc_stays : (c : Context) (o : Option Fourcc) → Stays c (desc_answer c o)
desc_stays c None = λ p. refl
desc_stays c (Some f) = λ p. refl

query_stays : (c : Context) (o : Option Reply) → Stays c (query_answer c o)
query_stays c None = λ p. refl
query_stays c (Some r) = λ p. refl

taken_stays : (c : Context) (side : Side) (ds : List Buffer) → Stays c (taken_answer c side ds)
taken_stays c side [] = λ p. refl
taken_stays c side (b ∷ rest) = λ p. absurd (cc)

value_stays : (c : Context) (o : Option ℕ) → Stays c (value_answer c o)
value_stays c None = λ p. refl
value_stays c (Some v) = λ p. refl

control_stays : (c : Context) (o : Option RunRates) → Stays c (control_answer c o)
control_stays c None = λ p. refl
control_stays c (Some rates) = λ p. absurd (cc)

event_other : (pending : List Event) → event_reply pending ≡ Blocked → ⊥
event_other [] e = cc
event_other (x ∷ rest) e = cc

done_other : Done ≡ Blocked → ⊥
done_other e = cc

start_stays : (c : Context) (x y z : Bool) → Stays c (cond x (unchanged c Done) (cond y (refused c Busy) (cond z (refused c Inval) (answered (record c { phase = run }) Done))))
start_stays c true y z = λ p. refl
start_stays c false true z = λ p. refl
start_stays c false false true = λ p. refl
start_stays c false false false = λ p. absurd (cc)

stop_stays : (c : Context) (x y z : Bool) → Stays c (cond x (unchanged c Done) (cond y (refused c Busy) (cond z (unchanged c Done) (answered (record c { mark = Some c.out.next_ordinal }) Done))))
stop_stays c true y z = λ p. refl
stop_stays c false true z = λ p. refl
stop_stays c false false true = λ p. refl
stop_stays c false false false = λ p. absurd (cc)

command_split : (c : Context) (x y : Bool) → Stays c (cond x (start_answer c) (cond y (stop_answer c) (refused c Inval)))
command_split c true y =
    start_stays c (not (both_stream c)) (start_is_early c.phase c.mark) (not (long_enough c.cap (sizeimage c Cap)))
command_split c false true =
    stop_stays c (not (both_stream c)) (is_some c.mark) (is_stopped_by_drain c.phase)
command_split c false false = λ p. refl

kind_stays : (c : Context) (cmd : ℕ) (b : Bool) → Stays c (cond b (command_answer c cmd) (refused c NoTty))
kind_stays c cmd true = command_split c (cmd == 0) (cmd == 1)
kind_stays c cmd false = λ p. refl

waiting_stays : (c : Context) (b : Bool) (a : Answer) → (a.reply ≡ Blocked → ⊥) → Stays c (cond b a (unchanged c Blocked))
waiting_stays c true a n = λ p. absurd (n p)
waiting_stays c false a n = λ p. refl

row_stays : (c : Context) (request : Call) (bytes : List ℕ) (found : Bool) → Stays c (context_answer c request bytes found)
unfolding context_answer
row_stays c (Open kind) bytes found = λ p. refl
row_stays c Close bytes found =
    waiting_stays c (is_none c.running) (record { slot = None; reply = Done; bytes = [] }) done_other
row_stays c (EnumFmt side index) bytes found = desc_stays c (slice_get (formats_listed c.kind side c.formats) index)
row_stays c (GetFmt side) bytes found = λ p. refl
row_stays c (TryFmt side want) bytes found = λ p. refl
row_stays c (SetFmt side want) bytes found =
    let formats = formats_for c.kind side c.formats want in
    unless_stays c (set_refusal c side) (answered (after_new_format c.kind side (record c { formats = formats })) (Fmt (format_of formats side))) (λ p. absurd (cc))
row_stays c (ReqBufs side count) bytes found =
    let a = answered (after_new_buffers c.kind side (with_queue c side (reqbufs_after (queue_of c side) count (sizeimage c side)))) (Count (min count most_buffers)) in
    unless_stays c (reqbufs_refusal (queue_of c side)) (if_found c found a) (found_stays c found a (λ p. absurd (cc)))
row_stays c (CreateBufs side count length) bytes found =
    let q = queue_of c side in
    let a = answered (with_queue c side (create_after q count length)) (Created (buffer_count q) (created q count)) in
    unless_stays c (create_refusal q count length) (if_found c found a) (found_stays c found a (λ p. absurd (cc)))
row_stays c (QueryBuf side index) bytes found = query_stays c (querybuf_reply (queue_of c side) index)
row_stays c (QBuf side index used stamp) bytes found =
    let q = queue_of c side in
    let a = answered (with_queue c side (qbuf_after q index used stamp bytes)) Done in
    let o = refuse_if (is_no_whole_picture c side used) Inval None in
    unless_stays c (qbuf_refusal q index used (sizeimage c side)) (unless c o a) (unless_stays c o a (λ p. absurd (done_other p)))
row_stays c (DqBuf side block) bytes found =
    block_stays c (dqbuf_refusal (queue_of c side) (is_ended c side)) block (taken_answer c side (queue_of c side).done) (taken_stays c side (queue_of c side).done)
row_stays c (StreamOn side) bytes found =
    let q = queue_of c side in
    unless_stays c (streamon_refusal q (sizeimage c side)) (answered (with_queue c side (streamon_after q)) Done) (λ p. absurd (done_other p))
row_stays c (StreamOff side) bytes found =
    waiting_stays c (is_none c.running) (answered (streamoff_effect c side) Done) done_other
row_stays c (Subscribe event) bytes found =
    unless_stays c (event_refusal c.kind event) (answered (record c { events = subscribe_after c.events event }) Done) (λ p. absurd (done_other p))
row_stays c (Unsubscribe event) bytes found =
    unless_stays c (event_refusal c.kind event) (answered (record c { events = unsubscribe_after c.events event }) Done) (λ p. absurd (done_other p))
row_stays c (DqEvent block) bytes found =
    block_stays c (refuse_if (is_empty c.events.pending) NoEnt None) block (answered (record c { events = take_event_after c.events }) (event_reply c.events.pending)) (λ p. absurd (event_other c.events.pending p))
row_stays c (DecCmd cmd) bytes found = kind_stays c cmd (is_dec c.kind)
row_stays c (EncCmd cmd) bytes found = kind_stays c cmd (is_enc c.kind)
row_stays c (GetCtrl id) bytes found = value_stays c (control_of c.kind c.rates id)
row_stays c (SetCtrl id value) bytes found = control_stays c (with_control c.kind c.rates id value)
row_stays c Poll bytes found = λ p. refl

closed_stays : (request : Call) (found : Bool) → (closed_answer request found).reply ≡ Blocked → ⊥
unfolding closed_answer
closed_stays (Open kind) true e = cc
closed_stays (Open kind) false e = cc
closed_stays request found e = cc

pub blocked_stays : (s : Slot) (request : Call) (bytes : List ℕ) (found : Bool) → (answer s request bytes found).reply ≡ Blocked → (answer s request bytes found).slot ≡ s
unfolding answer
blocked_stays None request bytes found e = absurd (closed_stays request found e)
blocked_stays (Some c) request bytes found e = row_stays c request bytes found e

-- The core

kept_split : (x k : ℕ) (ks : List ℕ) → filter (λ j. not (j == k)) ks ≡ ks → (b : Bool) → (b || waits ks k) ≡ false → cond (not b) (x ∷ filter (λ j. not (j == k)) ks) (filter (λ j. not (j == k)) ks) ≡ x ∷ ks
kept_split x k ks h true e = absurd (false≢true (sym e))
kept_split x k ks h false e = ap (λ l. x ∷ l) h

rest_split : (b : Bool) (c : Bool) → (b || c) ≡ false → c ≡ false
rest_split true c e = absurd (false≢true (sym e))
rest_split false c e = e

not_there : (ks : List ℕ) (k : ℕ) → waits ks k ≡ false → filter (λ j. not (j == k)) ks ≡ ks
not_there [] k e = refl
not_there (x ∷ ks) k e =
    kept_split x k ks (not_there ks k (rest_split (eqb x k) (waits ks k) e)) (eqb x k) e

same_list : (ks : List ℕ) (k : ℕ) (b : Bool) → waits ks k ≡ b → waiting_after ks k b ≡ ks
same_list ks k true e = ap (λ t. cond t ks (ks ++ k ∷ [])) e
same_list ks k false e = not_there ks k e

same_steps : (core : CoreState) → counted core 0 ≡ core
same_steps core = let e : core.steps + 0 ≡ core.steps = omega arith in ap (λ n. record core { steps = n }) e

pub same_slot : (core : CoreState) (k : ℕ) → waits core.waiting k ≡ is_claimable (slot_of core k) → with_slot core k (slot_of core k) ≡ core
unfolding with_slot
same_slot core k e =
    ap (λ l. record core { slots = l; waiting = waiting_after core.waiting k (is_claimable (slot_of core k)) }) (set-get_or core.slots k None)
    ∙ ap (λ l. record core { waiting = l }) (same_list core.waiting k (is_claimable (slot_of core k)) e)

blocked_in :
    (core : CoreState) (k : ℕ) (request : Call) (bytes handed : List ℕ) (found : Bool) → waits core.waiting k ≡ is_claimable (slot_of core k)
    → (a : Answer) → (a.reply ≡ Blocked → a.slot ≡ slot_of core k) → (b : Bool)
    → (cond b (call_answered core k a) (ignored core)).reply ≡ Told k (Answered Blocked handed)
    → (cond b (call_answered core k a) (ignored core)).device ≡ core
blocked_in core k request bytes handed found x a s true e =
    let blocks : a.reply ≡ Blocked = cc in
    ap (λ r. counted (with_slot core k a.slot) (steps_of r)) blocks ∙ (ap (λ t. counted (with_slot core k t) 0) (s blocks) ∙ (ap (λ t. counted t 0) (same_slot core k x) ∙ same_steps core))
blocked_in core k request bytes handed found x a s false e = refl

pub blocked_changes_nothing : BlockedChangesNothing
blocked_changes_nothing coder n w core history k request bytes handed found is e =
    let d = device_after coder (new_device n) history in
    let x = exact_list coder n history in
    let same : waits core.waiting k ≡ is_claimable (slot_of core k) =
    subst (λ c. waits c.waiting k ≡ is_claimable (slot_of c k)) (sym is.state) (x.exact k ∙ (sym (claimable_without_job (slot_of d k)) ∙ ap is_claimable (sym (core_slot_at d.slots k)))) in
    blocked_in core k request bytes handed found same (answer (slot_of core k) request bytes found) (blocked_stays (slot_of core k) request bytes found) _ e
