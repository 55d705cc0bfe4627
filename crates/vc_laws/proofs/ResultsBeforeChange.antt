-- The LAST buffer of a change goes to done alone, behind the buffers of all results before the change. The run that
-- finds the change puts no picture on done, and the buffer is given by it or later by settling.
use Rattle.std.proofs.Common.{ℕ, ◌≡◌, Bool, true, false, not, cond, ◌&&◌, Option, Some, None, List, [], ◌∷◌, ◌++◌, refl, sym, ap, ◌∙◌, subst, arith, ◌⊎◌, inl, inr, ⊎_elim}
use Rattle.std.proofs.lemmas.Bool.{false≢true}
use Rattle.vc_base.specs.declared.Kind.TheVariants.{Dec}
use Rattle.vc_base.specs.declared.Call.{Call}
use Rattle.vc_base.specs.declared.Reply.{Reply}
use Rattle.vc_base.specs.Buffers.{Buffer, QueueState, known_bytes, zero_stamp}
use Rattle.vc_base.specs.Limits.{last_flag}
use Rattle.vc_model.specs.Coder.{Coder, the_coder}
use Rattle.vc_model.specs.Context.{Context, Slot, Running, drain, change, PhaseState, run, owe, last, stopped, is_run, is_drain}
use Rattle.vc_model.specs.Answer.{without_drain_stop}
use Rattle.vc_model.specs.Runs.{JobData, job_data, RunResult, copied, encoded, decoded, run_result}
use Rattle.vc_model.specs.Solo.{SoloEvent, Called, Claims, Finishes, SoloReply, Answered, solo_step, solo_slot}
use Rattle.vc_model.specs.Sound.{drain_not_noted, IsOrdered, IsOrderedSlot}
use Rattle.vc_model.specs.Drains.{done_now}
use Rattle.vc_model.proofs.PartsOfTests.{and_left}
use Rattle.vc_model.proofs.EventsKeepSound.{always_ordered}
use Rattle.vc_laws.specs.Segments.{Segment, fresh_segment, resets, after_run, after_job, after_event, segment_of_step, segment_of, segment_step, sources_added}
use Rattle.vc_laws.specs.Following.{OneForOne, in_buffers, by_runs}
use Rattle.vc_model.specs.LastBuffers.{is_last_by_change, gives_change}
use Rattle.vc_laws.specs.Drains.{ResultsBeforeChange}
use Rattle.vc_laws.proofs.EffectsOfCalls.{Settles, still, owes, gives, Effect, stays, closes, has_events, has_rates, has_out_format, has_cap_format}
use Rattle.vc_laws.proofs.EffectsOfCalls.{has_out_buffers, has_cap_buffers, adds_out, adds_cap, queues_out, queues_cap, takes_out, takes_cap, takes_last}
use Rattle.vc_laws.proofs.EffectsOfCalls.{streams_out, streams_cap, stops_out, stops_cap, rests_cap, sets_mark, starts}
use Rattle.vc_laws.proofs.EffectsOfEvents.{Ends, alone, kept, ended, halts, spends, Returns, none_taken, given_back, Step, calls, rests, lacks_job, claims, finishes, faults, step_of}
use Rattle.vc_laws.proofs.OpenContextsAreTidy.{IsTidy, always_tidy, KindSlot, step_kind}
use Rattle.vc_laws.proofs.DoneInAStep.{made_now, made_same, made_more, last_settled}
use Rattle.vc_laws.proofs.SegmentsGoOn.{slot_more, segment_more, open_step}
use Rattle.vc_laws.proofs.BuffersOfDecoderRuns.{retired_more}
use Rattle.vc_laws.proofs.DecoderSegments.{decoding}

-- what goes to done where the LAST buffer of a change is given, in a step that resets nothing
record IsGift (c : Context) (e : SoloEvent) (told : SoloReply) (y : Context) : Type 0 where
  pub buffer : Buffer
  pub alone : done_now c y ≡ buffer ∷ []
  pub flags : buffer.flags ≡ last_flag
  pub no_reset : resets c e told ≡ false

GiftAt : Context → SoloEvent → SoloReply → Slot → Type 0
GiftAt c e told None = Unit {0}
GiftAt c e told (Some y) = gives_change c y ≡ true → IsGift c e told y

clash : {A : Type 0} → (b : Bool) → (b && not b) ≡ true → A
clash true e = absurd (false≢true e)
clash false e = absurd (false≢true e)

closed_gift : (c : Context) (e : SoloEvent) (told : SoloReply) → GiftAt c e told None
unfolding GiftAt
closed_gift c e told = tt

same_gift : (c y : Context) (e : SoloEvent) (told : SoloReply) → y.phase ≡ c.phase → GiftAt c e told (Some y)
unfolding GiftAt
same_gift c y e told p g =
    clash (is_last_by_change c.phase) (ap (λ q. is_last_by_change q && not (is_last_by_change c.phase)) (sym p) ∙ g)

-- the phase after the step is not Last by Change
no_gift : (c y : Context) (e : SoloEvent) (told : SoloReply) → is_last_by_change y.phase ≡ false → GiftAt c e told (Some y)
unfolding GiftAt
no_gift c y e told p g =
    absurd (false≢true (sym p ∙ and_left (is_last_by_change y.phase) (not (is_last_by_change c.phase)) g))

off_gift : (c y : Context) (e : SoloEvent) (told : SoloReply) → y.phase ≡ without_drain_stop c.phase → GiftAt c e told (Some y)
unfolding GiftAt
off_gift c y e told p g =
    by_phase c.phase (ap (λ q. is_last_by_change q && not (is_last_by_change c.phase)) (sym p) ∙ g)
  where
    by_phase : {A : Type 0} → (q : PhaseState) → (is_last_by_change (without_drain_stop q) && not (is_last_by_change q)) ≡ true → A
    by_phase run e = absurd (false≢true e)
    by_phase (owe drain) e = absurd (false≢true e)
    by_phase (owe change) e = absurd (false≢true e)
    by_phase (last drain) e = absurd (false≢true e)
    by_phase (last change) e = absurd (false≢true e)
    by_phase (stopped drain) e = absurd (false≢true e)
    by_phase (stopped change) e = absurd (false≢true e)

-- settling that gives a LAST buffer puts that one alone on done
given_gift :
    (c x y : Context) (e : SoloEvent) (told : SoloReply) (b : Buffer) → x.cap.done ≡ c.cap.done → x.cap.next_seq ≡ c.cap.next_seq
    → resets c e told ≡ false → IsTidy c
    → y.cap.done ≡ x.cap.done ++ (record b { used = 0; bytes = known_bytes x.cap.side last_flag []; flags = last_flag; stamp = zero_stamp; seq = x.cap.next_seq }) ∷ []
    → GiftAt c e told (Some y)
unfolding GiftAt
given_gift c x y e told b d n r t m g =
    let z : Buffer = record b { used = 0; bytes = known_bytes x.cap.side last_flag []; flags = last_flag; stamp = zero_stamp; seq = x.cap.next_seq } in
    record { buffer = z; alone = made_now c y (z ∷ []) (made_more c x y [] z m (omega arith) (made_same c x d t)); flags = refl; no_reset = r }

settled_gift : (c x y : Context) (e : SoloEvent) (told : SoloReply) → x.cap.done ≡ c.cap.done → x.cap.next_seq ≡ c.cap.next_seq → GiftAt c e told (Some x) → resets c e told ≡ false → IsTidy c → Settles x y → GiftAt c e told (Some y)
settled_gift c x y e told d n l r t still = l
settled_gift c x y e told d n l r t (owes p q) = no_gift c y e told refl
settled_gift c x y e told d n l r t (gives cause b rest events q p) = given_gift c x y e told b d n r t refl

then_gift : (c x y : Context) (e : SoloEvent) (told : SoloReply) → x.cap.done ≡ c.cap.done → x.cap.next_seq ≡ c.cap.next_seq → x.phase ≡ c.phase → resets c e told ≡ false → IsTidy c → Settles x y → GiftAt c e told (Some y)
then_gift c x y e told d n p r t s = settled_gift c x y e told d n (same_gift c x e told p) r t s

effect_gift : (c : Context) {request : Call} {bytes : List ℕ} {reply : Reply} {slot : Slot} (found : Bool) (handed : List ℕ) → IsTidy c → Effect c request bytes reply slot → GiftAt c (Called request bytes found) (Answered reply handed) slot
effect_gift c found handed t (stays n) = same_gift c c _ _ refl
effect_gift c found handed t (closes n) = closed_gift c _ _
effect_gift c found handed t (has_events events n) = same_gift c (record c { events = events }) _ _ refl
effect_gift c found handed t (has_rates rates) = same_gift c (record c { rates = rates }) _ _ refl
effect_gift c found handed t (has_out_format codec geometry o q k) = same_gift c _ _ _ refl
effect_gift c found handed t (has_cap_format q) = same_gift c _ _ _ refl
effect_gift c found handed t (has_out_buffers size codec geometry o k) = same_gift c _ _ _ refl
effect_gift c found handed t (has_cap_buffers size o) = same_gift c _ _ _ refl
effect_gift c found handed t adds_out = same_gift c _ _ _ refl
effect_gift c found handed t adds_cap = same_gift c _ _ _ refl
effect_gift c found handed t (queues_out b e) = same_gift c _ _ _ refl
effect_gift c found handed t (queues_cap b y e s) = then_gift c _ y _ _ refl refl refl refl t s
effect_gift c found handed t (takes_out b rest d) = same_gift c _ _ _ refl
effect_gift c found handed t (takes_cap b rest d n l) = same_gift c _ _ _ refl
effect_gift c found handed t (takes_last b cause mark d p m) = no_gift c _ _ _ refl
effect_gift c found handed t streams_out = same_gift c _ _ _ refl
effect_gift c found handed t (streams_cap y s) = then_gift c _ y _ _ refl refl refl refl t s
effect_gift c found handed t (stops_out codec n k) = off_gift c _ _ _ refl
effect_gift c found handed t (stops_cap codec n o k) = no_gift c _ _ _ refl
effect_gift c found handed t (rests_cap n o) = same_gift c _ _ _ refl
effect_gift c {request = request} {bytes = bytes} {reply = reply} found handed t (sets_mark y n i b m d s) =
    then_gift c _ y _ _ refl refl refl n.no_reset t s
effect_gift c {request = request} {bytes = bytes} {reply = reply} found handed t (starts y n i b e s) =
    settled_gift c (record c { phase = run }) y _ _ refl refl (no_gift c (record c { phase = run }) _ _ refl) n.no_reset t s

-- Finishes

-- in phase Run settling gives the LAST buffer of a drain at most
run_gift : (c x y : Context) (e : SoloEvent) (told : SoloReply) → is_run x.phase ≡ true → Settles x y → GiftAt c e told (Some y)
run_gift c x y e told r still = no_gift c x e told (in_run x.phase r)
  where
    in_run : (p : PhaseState) → is_run p ≡ true → is_last_by_change p ≡ false
    in_run run e = refl
    in_run (owe cause) e = refl
    in_run (last cause) e = absurd (false≢true e)
    in_run (stopped cause) e = refl
run_gift c x y e told r (owes p q) = no_gift c y e told refl
run_gift c x y e told r (gives cause b rest events q p) =
    no_gift c y e told (⊎_elim (λ (o : x.phase ≡ owe cause). absurd (false≢true (ap is_run (sym o) ∙ r))) (λ (o : (cause ≡ drain) × (drain_not_noted x ≡ true)). ap (λ z. not (is_drain z)) o.0) p)

returned_done : (q k : QueueState) → Returns q k → (k.done ≡ q.done) × (k.next_seq ≡ q.next_seq)
returned_done q k (none_taken j) = (refl, refl)
returned_done q k (given_back d j) = (refl, refl)

halted : (streams : Bool) (p phase : PhaseState) → is_run p ≡ true → phase ≡ cond streams (owe change) p → is_last_by_change phase ≡ false
halted true p phase r e = ap is_last_by_change e
halted false p phase r e = ap is_last_by_change e ∙ in_run p r
  where
    in_run : (p : PhaseState) → is_run p ≡ true → is_last_by_change p ≡ false
    in_run run e = refl
    in_run (owe cause) e = refl
    in_run (last cause) e = absurd (false≢true e)
    in_run (stopped cause) e = refl

ended_gift :
    (c : Context) (j : JobData) (b : Buffer) {result : Option RunResult} (x y : Context) (e : SoloEvent) (told : SoloReply) → is_run c.phase ≡ true
    → (resets c e told ≡ false) ⊎ (result ≡ None) → IsTidy c → Ends c j b result x → Settles x y → GiftAt c e told (Some y)
ended_gift c j b x y e told r n t (alone up flags cursor codec used bytes dest_flags stamp p k) s = run_gift c x y e told r s
ended_gift c j b x y e told r n t (kept up flags cursor codec used bytes dest_flags stamp d p k) s = run_gift c x y e told r s
ended_gift c j b x y e told r n t (ended flags cursor codec used bytes dest_flags stamp d up p u k m) s =
    subst (λ z. GiftAt c e told (Some z)) (sym (last_settled x y drain refl s)) (no_gift c x e told refl)
ended_gift c j b x y e told r n t (halts step f geometry k phase events g q back p) s =
    let d = returned_done c.cap k back in
    settled_gift c x y e told d.0 d.1 (no_gift c x e told (halted c.cap.streams c.phase phase r p)) (⊎_elim (λ (z : resets c e told ≡ false). z) (λ (z : Some (decoded step) ≡ None). absurd (cc)) n) t s
ended_gift c j b x y e told r n t (spends step k g back) s = run_gift c x y e told r s

step_gift : (coder : Coder) (c : Context) {e : SoloEvent} {told : SoloReply} {slot : Slot} → IsTidy c → Step coder c e told slot → GiftAt c e told slot
step_gift coder c t (calls {found = found} {handed = handed} f) = effect_gift c found handed t f
step_gift coder c t rests = same_gift c c _ _ refl
step_gift coder c t (lacks_job n) = same_gift c c _ _ refl
step_gift coder c t (claims b rest k r n o j p d q) = same_gift c _ _ _ refl
step_gift coder c t (finishes r x y job ends s w) = ended_gift c _ job.source x y _ _ job.runs (inl refl) t ends s
step_gift coder c t (faults r x y job ends s) = ended_gift c _ job.source x y _ _ job.runs (inr refl) t ends s

-- The law

run_retires : (seg : Segment) (r : Running) (j : JobData) (result : RunResult) → (after_run seg r j result).retired ≡ seg.retired
run_retires seg r j (copied bytes) = refl
run_retires seg r j (encoded frame) = refl
run_retires seg r j (decoded step) = refl

job_retires : (coder : Coder) (seg : Segment) (c : Context) (o : Option Running) → (after_job coder seg c o).retired ≡ seg.retired
job_retires coder seg c None = refl
job_retires coder seg c (Some r) = run_retires seg r (job_data c r) (run_result coder (job_data c r))

event_retires : (coder : Coder) (seg : Segment) (c : Context) (e : SoloEvent) → (after_event coder seg c e).retired ≡ seg.retired
event_retires coder seg c (Called request bytes found) = refl
event_retires coder seg c Claims = refl
event_retires coder seg c (Finishes true) = refl
event_retires coder seg c (Finishes false) = job_retires coder seg c c.running

step_retires : (coder : Coder) (seg : Segment) (c y : Context) (e : SoloEvent) (told : SoloReply) → resets c e told ≡ false → (segment_of_step coder seg c y e told).retired ≡ seg.retired ++ done_now c y
step_retires coder seg c y e told r =
    ap (λ b.
    (cond b (fresh_segment y.out.ready)
    (record (after_event coder seg c e) { sources = (after_event coder seg c e).sources ++ sources_added c y e told; retired = (after_event coder seg c e).retired ++ done_now c y })).retired)
    r
    ∙ ap (λ l. l ++ done_now c y) (event_retires coder seg c e)

kind_after : (c y : Context) → KindSlot c (Some y) → c.kind ≡ Dec → y.kind ≡ Dec
unfolding KindSlot
kind_after c y p q = p ∙ q

pub results_before_change : ResultsBeforeChange
unfolding GiftAt
results_before_change events e before after at next k g =
    let s : IsOrdered before = subst IsOrderedSlot at (always_ordered the_coder events) in
    let t = always_tidy the_coder events before at in
    let step = step_of the_coder before e s in
    let told = (solo_step the_coder (Some before) e).told in
    let gift = subst (GiftAt before e told) next (step_gift the_coder before t step) g in
    let old = segment_of the_coder events in
    let seg = segment_of the_coder (events ++ e ∷ []) in
    let there : solo_slot the_coder None (events ++ e ∷ []) ≡ Some after = slot_more the_coder None events e ∙ (ap (λ z. (solo_step the_coder z e).slot) at ∙ next) in
    let kind = kind_after before after (subst (KindSlot before) next (step_kind the_coder before step)) k in
    let same : seg ≡ segment_of_step the_coder old before after e told = segment_more the_coder (fresh_segment []) None events e ∙ (ap (λ z. segment_step the_coder old z e) at ∙ open_step the_coder old before after e next) in
    let retired : seg.retired ≡ old.retired ++ gift.buffer ∷ [] = ap (λ (z : Segment). z.retired) same ∙ (step_retires the_coder old before after e told gift.no_reset ∙ ap (λ l. old.retired ++ l) gift.alone) in
    let empty : by_runs (gift.buffer ∷ []) ≡ [] = by_flags gift.buffer gift.flags in
    (gift.buffer, (retired, gift.flags, subst (OneForOne (in_buffers seg.results)) (ap by_runs retired ∙ retired_more old.retired (gift.buffer ∷ []) empty) (decoding (events ++ e ∷ []) after there kind).pairs))
  where
    by_flags : (b : Buffer) → b.flags ≡ last_flag → by_runs (b ∷ []) ≡ []
    by_flags b f = ap (λ n. by_runs (record b { flags = n } ∷ [])) f
