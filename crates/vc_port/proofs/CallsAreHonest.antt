-- What a QBuf on a port hands over is as long as it says. The payload is that of the held buffer, of the buffer's length,
-- and the slot refuses a QBuf that uses more.
use Rattle.std.proofs.Common.{ℕ, ◌≡◌, ◌+◌, ◌<◌, ◌≤◌, ◌==◌, ◌&&◌, nat_lt, Bool, true, false, cond, List, [], ◌∷◌, ◌++◌, length, take, eq-eqb, ltb-false, refl, sym, ap, ◌∙◌, subst}
use Rattle.std.proofs.lemmas.List.{length-take-le}
use Rattle.std.specs.Prelude.{Option, Some, None, is_some, is_none}
use Rattle.std.specs.Option.{option_map}
use Rattle.vc_base.specs.declared.Stamp.{Stamp}
use Rattle.vc_base.specs.declared.Side.{Side}
use Rattle.vc_base.specs.declared.Side.TheVariants.{Out}
use Rattle.vc_base.specs.declared.Errno.{Errno}
use Rattle.vc_base.specs.declared.Errno.TheVariants.{Inval}
use Rattle.vc_base.specs.declared.Call.{Call}
use Rattle.vc_base.specs.declared.Call.TheVariants.{QBuf}
use Rattle.vc_base.specs.declared.Reply.{Reply}
use Rattle.vc_base.specs.declared.Reply.TheVariants.{Done, Blocked}
use Rattle.vc_base.specs.Buffers.{Buffer, QueueState, with_index, refuse_if, held_refusal, qbuf_refusal, qbuf_after, give_back_from}
use Rattle.vc_defs.specs.Decoder.{DecodedResult, picture, damaged, changed, spent, step_outcome}
use Rattle.vc_model.specs.Coder.{the_coder, encoder, decoder}
use Rattle.vc_model.specs.Context.{Context, Slot, Running, RunSort, PhaseState, Cause, run, owe, last, stopped, drain, change, is_run, is_drained, raise_end, settle, settle_drain, settle_last, give_last, sizeimage, with_queue}
use Rattle.vc_model.specs.Answer.{Answer, answer, closed_answer, context_answer, answered, unless, is_no_whole_picture}
use Rattle.vc_model.specs.Runs.{JobData, job_data, RunResult, copied, encoded, decoded, run_result, is_claimable, sort_of, claim_front, after_claim, after_finish, source_done, source_back, source_moved, dest_done, dest_back, decoded_effect, run_effect, fault_effect}
use Rattle.vc_model.specs.Solo.{SoloEvent, Called, Claims, Finishes, Answered, SoloEntry, claim_step, solo_finish, finish_step, solo_step, solo_run, solo_slot}
use Rattle.vc_model.specs.Places.{is_honest, is_honest_call, AreHonest}
use Rattle.vc_model.specs.Sound.{IsSoundSlot}
use Rattle.vc_model.proofs.FormatsAndJobsFit.{always_sound}
use Rattle.vc_queue.specs.Cells.{bytes_or_none}
use Rattle.vc_queue.specs.Holds.{HoldState, held_payload}
use Rattle.vc_context.specs.Payloads.{FitsSlot, handed_over}
use Rattle.vc_port.specs.Payloads.{slot_after, told_at, AreOfJobs, with_call}
use Rattle.vc_port.specs.Laws.{CallsAreHonest}
use Rattle.vc_port.proofs.CallsHandOut.{run-append, slot-append}
use Rattle.vc_port.proofs.HeldIsThere.{held_in, index_few}
use Rattle.vc_port.proofs.TakenIsHandedOut.{lend_held, retire_held}

-- Claims and finishes take no OUTPUT buffer from the user, and give him none.

raise_out : (cause : Cause) (c : Context) → (raise_end cause c).out ≡ c.out
raise_out drain c = refl
raise_out change c = refl

give_out : (c : Context) (cause : Cause) (ready : List Buffer) → (give_last c cause ready).out ≡ c.out
give_out c cause [] = refl
give_out c drain (b ∷ rest) = refl
give_out c change (b ∷ rest) = refl

owed_out : (c : Context) (phase : PhaseState) → (settle_last c phase).out ≡ c.out
owed_out c run = refl
owed_out c (owe cause) = give_out c cause c.cap.ready
owed_out c (last cause) = refl
owed_out c (stopped cause) = refl

drain_out : (c : Context) (t : Bool) → (cond t (record c { phase = owe drain }) c).out ≡ c.out
drain_out c true = refl
drain_out c false = refl

settle_out : (c : Context) → (settle c).out ≡ c.out
unfolding settle
settle_out c =
    owed_out (settle_drain c) (settle_drain c).phase ∙ drain_out c (is_run c.phase && (c.cap.streams && (is_none c.running && is_drained c.out.ready c.mark)))

give_back_held : (q : QueueState) (job : List Buffer) (cursor : ℕ) (bytes : List ℕ) → (give_back_from q job cursor bytes).held ≡ q.held
give_back_held q [] cursor bytes = refl
give_back_held q (b ∷ rest) cursor bytes = refl

moved_held : (c : Context) (j : JobData) (cursor : ℕ) (used_up : Bool) → (source_moved c j cursor used_up).out.held ≡ c.out.held
moved_held c j cursor true = retire_held c.out c.out.job j.source.used j.source.bytes 0 j.source.stamp
moved_held c j cursor false = give_back_held c.out c.out.job cursor j.source.bytes

ended_out : (x y c : Context) (t : Bool) → x.out ≡ c.out → y.out ≡ c.out → (cond t x y).out ≡ c.out
ended_out x y c true e f = e
ended_out x y c false e f = f

dest_out : (c : Context) (dest : List Buffer) (used_up : Bool) (used : ℕ) (bytes : List ℕ) (flags : ℕ) (stamp : Stamp) → (dest_done c dest used_up used bytes flags stamp).out ≡ c.out
dest_out c [] used_up used bytes flags stamp = refl
dest_out c (b ∷ rest) used_up used bytes flags stamp =
    ended_out _ _ c (used_up && is_drained c.out.ready c.mark) refl refl

back_out : (c : Context) (dest : List Buffer) → (dest_back c dest).out ≡ c.out
back_out c [] = refl
back_out c (b ∷ rest) = refl

decoded_held : (c : Context) (j : JobData) (cursor : ℕ) (result : DecodedResult) → (decoded_effect c j cursor result).out.held ≡ c.out.held
decoded_held c j cursor (picture bytes key stamp) =
    ap (λ (q : QueueState). q.held) (dest_out (source_moved c j cursor (cursor == j.source.used)) j.dest (cursor == j.source.used) _ _ _ _) ∙ moved_held c j cursor (cursor == j.source.used)
decoded_held c j cursor (damaged stamp) =
    ap (λ (q : QueueState). q.held) (dest_out (source_moved c j cursor (cursor == j.source.used)) j.dest (cursor == j.source.used) _ _ _ _) ∙ moved_held c j cursor (cursor == j.source.used)
decoded_held c j cursor (changed geometry) =
    ap (λ (q : QueueState). q.held) (ended_out _ _ (dest_back (source_back c j cursor) j.dest) (dest_back (source_back c j cursor) j.dest).cap.streams refl refl ∙ back_out (source_back c j cursor) j.dest) ∙ moved_held c j cursor false
decoded_held c j cursor spent =
    ap (λ (q : QueueState). q.held) (back_out (source_done c j 0) j.dest) ∙ moved_held c j cursor true

run_held : (c : Context) (j : JobData) (result : RunResult) → (run_effect c j result).out.held ≡ c.out.held
run_held c j (copied bytes) =
    ap (λ (q : QueueState). q.held) (dest_out (source_done c j 0) j.dest true _ _ _ _) ∙ moved_held c j 0 true
run_held c j (encoded frame) =
    let x : Context = record c { codec = encoder frame.state } in
    ap (λ (q : QueueState). q.held) (dest_out (source_done x j 0) j.dest true _ _ _ _) ∙ moved_held x j 0 true
run_held c j (decoded step) =
    decoded_held (record c { codec = decoder step.state }) j (j.source.cursor + step.moved) (step_outcome j.format.fourcc step)

fault_held : (c : Context) (j : JobData) → (fault_effect c j).out.held ≡ c.out.held
fault_held c j =
    ap (λ (q : QueueState). q.held) (dest_out _ j.dest true _ _ _ _) ∙ retire_held c.out c.out.job j.source.used j.source.bytes _ j.source.stamp

finish_held : (c : Context) (r : Running) (fault : Bool) → (after_finish the_coder c r fault).out.held ≡ c.out.held
unfolding after_finish
finish_held c r true =
    let x : Context = record c { running = None } in
    ap (λ (q : QueueState). q.held) (settle_out (fault_effect x (job_data c r))) ∙ fault_held x (job_data c r)
finish_held c r false =
    let x : Context = record c { running = None } in
    let result : RunResult = run_result the_coder (job_data c r) in
    ap (λ (q : QueueState). q.held) (settle_out (run_effect x (job_data c r) result)) ∙ run_held x (job_data c r) result

front_held : (c : Context) (sort : RunSort) (ready : List Buffer) → (claim_front c sort ready).out.held ≡ c.out.held
front_held c sort [] = refl
front_held c sort (b ∷ rest) = lend_held c.out c.out.ready

claim_held : (c : Context) → (after_claim c).out.held ≡ c.out.held
unfolding after_claim
claim_held c = front_held c (sort_of c.kind c.geometry) c.out.ready

-- the OUTPUT buffers that the user holds
abbrev held_out : Slot → List Buffer
held_out None = []
held_out (Some c) = c.out.held

claimed_held : (s : Slot) (claimable : Bool) → held_out (claim_step s claimable).slot ≡ held_out s
claimed_held (Some c) true = claim_held c
claimed_held (Some c) false = refl
claimed_held None claimable = refl

ended_held : (c : Context) (running : Option Running) (fault : Bool) → held_out (solo_finish the_coder c running fault).slot ≡ c.out.held
ended_held c None fault = refl
ended_held c (Some r) fault = finish_held c r fault

finished_held : (s : Slot) (fault : Bool) → held_out (finish_step the_coder s fault).slot ≡ held_out s
finished_held None fault = refl
finished_held (Some c) fault = ended_held c c.running fault

claims_held : (s : Slot) → held_out (solo_step the_coder s Claims).slot ≡ held_out s
unfolding solo_step
claims_held s = claimed_held s (is_claimable s)

finishes_held : (s : Slot) (fault : Bool) → held_out (solo_step the_coder s (Finishes fault)).slot ≡ held_out s
unfolding solo_step
finishes_held s fault = finished_held s fault

jobs_held : (s : Slot) (js : List SoloEvent) → AreOfJobs js → held_out (solo_slot the_coder s js) ≡ held_out s
jobs_held s [] h = refl
jobs_held s (Claims ∷ js) h = jobs_held (solo_step the_coder s Claims).slot js h ∙ claims_held s
jobs_held s (Finishes fault ∷ js) h =
    jobs_held (solo_step the_coder s (Finishes fault)).slot js h ∙ finishes_held s fault
jobs_held s (Called request bytes found ∷ js) h = absurd (cc)

-- What an accepted QBuf hands over.

not_refused : (c : Context) (o : Option Errno) (effect : Answer) → (unless c o effect).reply ≡ Done → o ≡ None
not_refused c None effect e = refl
not_refused c (Some errno) effect e = absurd (cc)

fits_at : (t : Bool) (size used : ℕ) (later : Option Errno) → nat_lt size used ≡ t → refuse_if t Inval later ≡ None → used ≤ size
fits_at true size used later e h = absurd (cc)
fits_at false size used later e h = ltb-false size used e

-- the buffer is held, and has room for the bytes
record HasPlace (found : Option Buffer) (used : ℕ) : Type 0 where
  buffer : Buffer
  there : found ≡ Some buffer
  room : used ≤ buffer.size

has_place : (found : Option Buffer) (used least : ℕ) → held_refusal Out found used least ≡ None → HasPlace found used
has_place None used least e = absurd (cc)
has_place (Some b) used least e =
    record { buffer = b; there = refl; room = fits_at (nat_lt b.size used) b.size used (refuse_if (nat_lt b.size least) Inval None) refl e }

accepted : (s : Slot) (index used : ℕ) (stamp : Stamp) (bytes : List ℕ) (found : Bool) → IsSoundSlot s → (answer s (QBuf Out index used stamp) bytes found).reply ≡ Done → HasPlace (with_index index (held_out s)) used × (index < 32)
unfolding answer closed_answer context_answer
accepted None index used stamp bytes found sound e = absurd (cc)
accepted (Some c) index used stamp bytes found sound e =
    let none : qbuf_refusal c.out index used (sizeimage c Out) ≡ None = not_refused c (qbuf_refusal c.out index used (sizeimage c Out)) (unless c (refuse_if (is_no_whole_picture c Out used) Inval None) (answered (with_queue c Out (qbuf_after c.out index used stamp bytes)) Done)) e in
    let place : HasPlace (with_index index c.out.held) used = has_place (with_index index c.out.held) used (sizeimage c Out) (subst (λ (side : Side). held_refusal side (with_index index c.out.held) used (sizeimage c Out) ≡ None) sound.firm.out_side none) in
    (place, index_few c.out index sound.firm.out.once sound.fit.few_out (ap is_some place.there))

taken_length : (payload : Option (List ℕ)) (size used : ℕ) → option_map length payload ≡ Some size → used ≤ size → length (take used (bytes_or_none payload)) ≡ used
taken_length None size used e h = absurd (cc)
taken_length (Some p) size used e h =
    let same : length p ≡ size = cc in length-take-le used p (subst (λ (n : ℕ). used ≤ n) (sym same) h)

out_lengths : (s : Slot) (hold : HoldState) (index : ℕ) → IsSoundSlot s → FitsSlot s hold → index < 32 → option_map length (held_payload hold Out index) ≡ option_map (λ (b : Buffer). b.size) (with_index index (held_out s))
out_lengths None hold index sound fits few = held_in None hold Out index sound fits few
out_lengths (Some c) hold index sound fits few = held_in (Some c) hold Out index sound fits few

queued_honest : (old jobs : List SoloEvent) (hold : HoldState) (index used : ℕ) (stamp : Stamp) (bytes : List ℕ) (found : Bool) → AreOfJobs jobs →
    FitsSlot (slot_after old) hold → (answer (slot_after (old ++ jobs)) (QBuf Out index used stamp) bytes found).reply ≡ Done →
    length (take used (bytes_or_none (held_payload hold Out index))) ≡ used
queued_honest old jobs hold index used stamp bytes found of_jobs fits e =
    let a = accepted (slot_after (old ++ jobs)) index used stamp bytes found (always_sound the_coder (old ++ jobs)) e in
    let kept : held_out (slot_after (old ++ jobs)) ≡ held_out (slot_after old) = ap held_out (slot-append None old jobs) ∙ jobs_held (slot_after old) jobs of_jobs in
    let there : with_index index (held_out (slot_after old)) ≡ Some a.0.buffer = ap (with_index index) (sym kept) ∙ a.0.there in
    let lengths = out_lengths (slot_after old) hold index (always_sound the_coder old) fits a.1 in
    taken_length (held_payload hold Out index) a.0.buffer.size used (lengths ∙ ap (option_map (λ (b : Buffer). b.size)) there) a.0.room

-- All events

honest-append : (xs ys : List SoloEntry) → AreHonest xs → AreHonest ys → AreHonest (xs ++ ys)
honest-append [] ys h k = k
honest-append (x ∷ xs) ys h k = (h.0, honest-append xs ys h.1 k)

jobs_honest : (s : Slot) (js : List SoloEvent) → AreOfJobs js → AreHonest (solo_run the_coder s js)
jobs_honest s [] h = tt
jobs_honest s (Claims ∷ js) h = (refl, jobs_honest (solo_step the_coder s Claims).slot js h)
jobs_honest s (Finishes fault ∷ js) h = (refl, jobs_honest (solo_step the_coder s (Finishes fault)).slot js h)
jobs_honest s (Called request bytes found ∷ js) h = absurd (cc)

events_honest : (es fs : List SoloEvent) → AreHonest (told_at es) → AreHonest (solo_run the_coder (slot_after es) fs) → AreHonest (told_at (es ++ fs))
events_honest es fs h k =
    subst AreHonest (sym (run-append None es fs)) (honest-append (told_at es) (solo_run the_coder (slot_after es) fs) h k)

call_honest : (old jobs : List SoloEvent) (hold : HoldState) (request : Call) (found : Bool) (told : Reply) → AreOfJobs jobs →
    FitsSlot (slot_after old) hold → (answer (slot_after (old ++ jobs)) request (handed_over request hold) found).reply ≡ told →
    is_honest_call request (handed_over request hold) told ≡ true
call_honest old jobs hold (QBuf Out index used stamp) found Done of_jobs fits e =
    eq-eqb (length (handed_over (QBuf Out index used stamp) hold)) used (queued_honest old jobs hold index used stamp (handed_over (QBuf Out index used stamp) hold) found of_jobs fits e)
call_honest old jobs hold request found told of_jobs fits e = refl

told_reply : (s : Slot) (request : Call) (bytes : List ℕ) (found : Bool) (told : Reply) (handed : List ℕ) → (solo_step the_coder s (Called request bytes found)).told ≡ Answered told handed → (answer s request bytes found).reply ≡ told
unfolding solo_step
told_reply s request bytes found told handed e = cc

with_call_honest : (es : List SoloEvent) (told : Reply) (e : SoloEvent) → AreHonest (told_at es) → is_honest e (solo_step the_coder (slot_after es) e).told ≡ true → AreHonest (told_at (with_call es told e))
with_call_honest es Blocked e h k = h
with_call_honest es told e h k = events_honest es (e ∷ []) h (k, tt)

pub calls_are_honest : CallsAreHonest
calls_are_honest old new before after request told c fits honest =
    let event : SoloEvent = Called request (handed_over request before) c.found in
    let reply = told_reply (slot_after (old ++ c.jobs)) request (handed_over request before) c.found told c.handed c.reply in
    let here : is_honest event (solo_step the_coder (slot_after (old ++ c.jobs)) event).told ≡ true = ap (is_honest event) c.reply ∙ call_honest old c.jobs before request c.found told c.of_jobs fits reply in
    let so_far = events_honest old c.jobs honest (jobs_honest (slot_after old) c.jobs c.of_jobs) in
    subst (λ (l : List SoloEvent). AreHonest (told_at l)) (sym c.events) (with_call_honest (old ++ c.jobs) told event so_far here)
