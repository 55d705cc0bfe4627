-- Which CAPTURE buffers go to done in a step: that of the job and an empty LAST buffer at most. In phase Last nothing
-- goes there, so nothing comes after the LAST buffer of a drain; and a decoder that stops by a change gives one empty
-- LAST buffer alone.
use Rattle.std.proofs.Common.{ℕ, ◌≡◌, ◌≤◌, ◌+◌, eqb, nat_lt, nat_le, get_or, Bool, true, false, not, cond, ◌&&◌, is_none, Option, Some, None, List, [], ◌∷◌, ◌++◌, refl, sym, ap, ◌∙◌, subst, arith, ◌⊎◌, inl, inr, ⊎_elim}
use Rattle.std.specs.Prelude.{bit_and, codes}
use Rattle.std.specs.List.{filter, list_all}
use Rattle.std.proofs.lemmas.Bool.{false≢true, ltb-true, le-leb, leb-true}
use Rattle.std.proofs.lemmas.List.{append-nil, append_assoc}
use Rattle.std.proofs.lemmas.List.Elements.{filter-append}
use Rattle.std.proofs.lemmas.List.Folds.{list_all-append}
use Rattle.vc_base.specs.declared.Stamp.{Stamp}
use Rattle.vc_base.specs.declared.Fourcc.{Fourcc}
use Rattle.vc_base.specs.declared.Side.{Side}
use Rattle.vc_base.specs.declared.Side.TheVariants.{Out, Cap}
use Rattle.vc_base.specs.declared.Call.{Call}
use Rattle.vc_base.specs.declared.Reply.{Reply}
use Rattle.vc_base.specs.Buffers.{Buffer, QueueState, known_bytes, zero_stamp}
use Rattle.vc_base.specs.Limits.{last_flag, error_flag}
use Rattle.vc_defs.specs.Decoder.{outcome_of, outcome_of_result}
use Rattle.vc_model.specs.Coder.{Coder, CodecState}
use Rattle.vc_model.specs.Context.{Context, Slot, Cause, drain, change, PhaseState, run, owe, last, stopped, is_run, is_stopped, is_drain, is_drained}
use Rattle.vc_model.specs.Answer.{start_is_early, without_drain_stop}
use Rattle.vc_model.specs.Phases.{is_stopped_by_drain}
use Rattle.vc_model.specs.Runs.{JobData, job_data, RunResult, copied, encoded, decoded, run_result, result_word, run_word, finish_word}
use Rattle.vc_model.specs.Solo.{SoloEvent, Called, Claims, Finishes, SoloReply, Answered, Claimed, Finished, Nothing, solo_step}
use Rattle.vc_model.specs.Sound.{is_last, stops_by_change, drain_not_noted, IsOrdered, IsOrderedSlot}
use Rattle.vc_model.specs.Drains.{is_last_by_drain, gives_last, done_now}
use Rattle.vc_model.proofs.PartsOfTests.{and_left, and_right}
use Rattle.vc_model.proofs.CallsKeepFirm.{idle}
use Rattle.vc_model.proofs.EventsKeepSound.{always_ordered, step_sound}
use Rattle.vc_model.specs.LastBuffers.{is_last_by_change, gives_change}
use Rattle.vc_laws.specs.Drains.{is_over, NothingAfterLast, IsNewest, AllWentBack, is_owed, IsOneLast, StopsByChange, IsFirstOfStop, ChangesStop}
use Rattle.vc_laws.proofs.EffectsOfCalls.{Settles, still, owes, gives, Effect, stays, closes, has_events, has_rates, has_out_format, has_cap_format}
use Rattle.vc_laws.proofs.EffectsOfCalls.{has_out_buffers, has_cap_buffers, adds_out, adds_cap, queues_out, queues_cap, takes_out, takes_cap, takes_last}
use Rattle.vc_laws.proofs.EffectsOfCalls.{streams_out, streams_cap, stops_out, stops_cap, rests_cap, sets_mark, starts}
use Rattle.vc_laws.proofs.EffectsOfEvents.{Puts, puts_fault, puts_copy, puts_frame, puts_picture, puts_damage, Ends, alone, kept, ended, halts, spends, Returns}
use Rattle.vc_laws.proofs.EffectsOfEvents.{none_taken, given_back, Step, calls, rests, lacks_job, claims, finishes, faults, step_of}
use Rattle.vc_laws.proofs.OpenContextsAreTidy.{AreBelow, IsTidy, always_tidy}

-- The buffers that are new

-- CAPTURE's done list is what is left of the old one, and then the new buffers
pub record Made (c x : Context) (new : List Buffer) : Type 0 where
  pub front : List Buffer
  pub is : x.cap.done ≡ front ++ new
  pub old : AreBelow c.cap.next_seq front
  pub fresh : list_all (λ b. nat_le c.cap.next_seq b.seq) new ≡ true

not_le : (a n : ℕ) → nat_lt a n ≡ true → (t : Bool) → nat_le n a ≡ t → t ≡ false
not_le a n l true e = let x = ltb-true a n l in let y = leb-true n a e in absurd (omega arith)
not_le a n l false e = refl

filter_none : (bs : List Buffer) (n : ℕ) → AreBelow n bs → filter (λ b. nat_le n b.seq) bs ≡ []
filter_none [] n h = refl
filter_none (b ∷ bs) n h =
    ap (λ t. cond t (b ∷ filter (λ x. nat_le n x.seq) bs) (filter (λ x. nat_le n x.seq) bs)) (not_le b.seq n (and_left (nat_lt b.seq n) (list_all (λ x. nat_lt x.seq n) bs) h) (nat_le n b.seq) refl)
    ∙ filter_none bs n (and_right (nat_lt b.seq n) (list_all (λ x. nat_lt x.seq n) bs) h)

filter_all : (bs : List Buffer) (n : ℕ) → list_all (λ b. nat_le n b.seq) bs ≡ true → filter (λ b. nat_le n b.seq) bs ≡ bs
filter_all [] n h = refl
filter_all (b ∷ bs) n h =
    ap (λ t. cond t (b ∷ filter (λ x. nat_le n x.seq) bs) (filter (λ x. nat_le n x.seq) bs)) (and_left (nat_le n b.seq) (list_all (λ x. nat_le n x.seq) bs) h)
    ∙ ap (λ l. b ∷ l) (filter_all bs n (and_right (nat_le n b.seq) (list_all (λ x. nat_le n x.seq) bs) h))

pub made_now : (c x : Context) (new : List Buffer) → Made c x new → done_now c x ≡ new
made_now c x new m =
    let n = c.cap.next_seq in
    ap (λ l. filter (λ b. nat_le n b.seq) l) m.is ∙ (filter-append (λ b. nat_le n b.seq) m.front new ∙ (ap (λ l. l ++ filter (λ b. nat_le n b.seq) new) (filter_none m.front n m.old) ∙ filter_all new n m.fresh))

pub made_same : (c x : Context) → x.cap.done ≡ c.cap.done → IsTidy c → Made c x []
made_same c x e t = record { front = c.cap.done; is = e ∙ sym (append-nil c.cap.done); old = t.below; fresh = refl }

pub made_rest : (c x : Context) (b : Buffer) (rest : List Buffer) → c.cap.done ≡ b ∷ rest → x.cap.done ≡ rest → IsTidy c → Made c x []
made_rest c x b rest d e t =
    record { front = rest; is = e ∙ sym (append-nil rest); old = and_right (nat_lt b.seq c.cap.next_seq) (list_all (λ x. nat_lt x.seq c.cap.next_seq) rest) (subst (AreBelow c.cap.next_seq) d t.below); fresh = refl }

pub made_none : (c x : Context) → x.cap.done ≡ [] → Made c x []
made_none c x e = record { front = []; is = e; old = refl; fresh = refl }

pub made_more : (c x y : Context) (new : List Buffer) (z : Buffer) → y.cap.done ≡ x.cap.done ++ z ∷ [] → c.cap.next_seq ≤ z.seq → Made c x new → Made c y (new ++ z ∷ [])
made_more c x y new z e l m =
    record {
      front = m.front;
      is = e ∙ (ap (λ l. l ++ z ∷ []) m.is ∙ append_assoc m.front new (z ∷ []));
      old = m.old;
      fresh = list_all-append (λ b. nat_le c.cap.next_seq b.seq) new (z ∷ []) ∙ (ap (λ b. b && (nat_le c.cap.next_seq z.seq && true)) m.fresh ∙ ap (λ b. b && true) (le-leb c.cap.next_seq z.seq l));
    }

-- a context with the same done list
made_like : (c x y : Context) (new : List Buffer) → y.cap.done ≡ x.cap.done → Made c x new → Made c y new
made_like c x y new e m = record { front = m.front; is = e ∙ m.is; old = m.old; fresh = m.fresh }

-- Phases

clash : {A : Type 0} → (b : Bool) → (b && not b) ≡ true → A
clash true e = absurd (false≢true e)
clash false e = absurd (false≢true e)

run_no_last : (p : PhaseState) → is_run p ≡ true → is_last p ≡ false
run_no_last run e = refl
run_no_last (owe cause) e = refl
run_no_last (last cause) e = absurd (false≢true e)
run_no_last (stopped cause) e = refl

run_no_drain : (p : PhaseState) → is_run p ≡ true → is_last_by_drain p ≡ false
run_no_drain run e = refl
run_no_drain (owe cause) e = refl
run_no_drain (last cause) e = absurd (false≢true e)
run_no_drain (stopped cause) e = refl

owing_no_last : (x : Context) (cause : Cause) → (x.phase ≡ owe cause) ⊎ ((cause ≡ drain) × (drain_not_noted x ≡ true)) → is_last x.phase ≡ false
owing_no_last x cause p =
    ⊎_elim (λ (e : x.phase ≡ owe cause). ap is_last e) (λ (e : (cause ≡ drain) × (drain_not_noted x ≡ true)). run_no_last x.phase (and_left (is_run x.phase) _ e.1)) p

off_no_drain : (p : PhaseState) → is_last_by_drain (without_drain_stop p) ≡ false
off_no_drain run = refl
off_no_drain (owe drain) = refl
off_no_drain (owe change) = refl
off_no_drain (last drain) = refl
off_no_drain (last change) = refl
off_no_drain (stopped drain) = refl
off_no_drain (stopped change) = refl

halted_no_drain : (streams : Bool) (p phase : PhaseState) → is_run p ≡ true → phase ≡ cond streams (owe change) p → is_last_by_drain phase ≡ false
halted_no_drain true p phase r e = ap is_last_by_drain e
halted_no_drain false p phase r e = ap is_last_by_drain e ∙ run_no_drain p r

-- in phase Last settling does nothing
pub last_settled : (x y : Context) (cause : Cause) → x.phase ≡ last cause → Settles x y → y ≡ x
last_settled x y cause p still = refl
last_settled x y cause p (owes o r) = absurd (false≢true (ap is_run (sym p) ∙ and_left (is_run x.phase) _ o))
last_settled x y cause p (gives other b rest events r o) =
    absurd (false≢true (sym (owing_no_last x other o) ∙ ap is_last p))

returned_done : (q k : QueueState) → Returns q k → (k.done ≡ q.done) × (k.next_seq ≡ q.next_seq)
returned_done q k (none_taken j) = (refl, refl)
returned_done q k (given_back d j) = (refl, refl)

-- Everything went back

-- where the LAST buffer of a drain is given, it is the latest on done
NewestAt : Context → Slot → Type 0
NewestAt c None = Unit {0}
NewestAt c (Some y) = gives_last c y ≡ true → IsNewest y.cap.done y.cap.next_seq

closed_newest : (c : Context) → NewestAt c None
unfolding NewestAt
closed_newest c = tt

same_newest : (c y : Context) → y.phase ≡ c.phase → NewestAt c (Some y)
unfolding NewestAt
same_newest c y p g =
    clash (is_last_by_drain c.phase) (ap (λ q. is_last_by_drain q && not (is_last_by_drain c.phase)) (sym p) ∙ g)

other_newest : (c y : Context) → is_last_by_drain y.phase ≡ false → NewestAt c (Some y)
unfolding NewestAt
other_newest c y p g =
    absurd (false≢true (sym p ∙ and_left (is_last_by_drain y.phase) (not (is_last_by_drain c.phase)) g))

settled_newest : (c x y : Context) → NewestAt c (Some x) → Settles x y → NewestAt c (Some y)
unfolding NewestAt
settled_newest c x y h still = h
settled_newest c x y h (owes p r) = other_newest c (record x { phase = owe drain }) refl
settled_newest c x y h (gives cause b rest events r p) =
    λ g. (x.cap.done, record b { used = 0; bytes = known_bytes x.cap.side last_flag []; flags = last_flag; stamp = zero_stamp; seq = x.cap.next_seq }, refl, refl)

effect_newest : (c : Context) {request : Call} {bytes : List ℕ} {reply : Reply} {slot : Slot} → Effect c request bytes reply slot → NewestAt c slot
effect_newest c (stays n) = same_newest c c refl
effect_newest c (closes n) = closed_newest c
effect_newest c (has_events events n) = same_newest c (record c { events = events }) refl
effect_newest c (has_rates rates) = same_newest c (record c { rates = rates }) refl
effect_newest c (has_out_format codec geometry o q k) = same_newest c _ refl
effect_newest c (has_cap_format q) = same_newest c _ refl
effect_newest c (has_out_buffers size codec geometry o k) = same_newest c _ refl
effect_newest c (has_cap_buffers size o) = same_newest c _ refl
effect_newest c adds_out = same_newest c _ refl
effect_newest c adds_cap = same_newest c _ refl
effect_newest c (queues_out b e) = same_newest c _ refl
effect_newest c (queues_cap b y e s) = settled_newest c _ y (same_newest c _ refl) s
effect_newest c (takes_out b rest d) = same_newest c _ refl
effect_newest c (takes_cap b rest d n l) = same_newest c _ refl
effect_newest c (takes_last b cause mark d p m) = other_newest c _ refl
effect_newest c streams_out = same_newest c _ refl
effect_newest c (streams_cap y s) = settled_newest c _ y (same_newest c _ refl) s
effect_newest c (stops_out codec n k) = other_newest c _ (off_no_drain c.phase)
effect_newest c (stops_cap codec n o k) = other_newest c _ refl
effect_newest c (rests_cap n o) = same_newest c _ refl
effect_newest c (sets_mark y n i b m d s) = settled_newest c _ y (same_newest c _ refl) s
effect_newest c (starts y n i b e s) =
    settled_newest c (record c { phase = run }) y (other_newest c (record c { phase = run }) refl) s

-- the destination itself is the LAST buffer
ended_last :
    (c x : Context) (d : Buffer) (used : ℕ) (bytes : List ℕ) (flags : ℕ) (stamp : Stamp)
    → x.cap.done ≡ c.cap.done ++ (record d { used = used; bytes = bytes; flags = flags; stamp = stamp; seq = c.cap.next_seq }) ∷ []
    → c.cap.next_seq + 1 ≡ x.cap.next_seq → NewestAt c (Some x)
unfolding NewestAt
ended_last c x d used bytes flags stamp e n g =
    (c.cap.done, record d { used = used; bytes = bytes; flags = flags; stamp = stamp; seq = c.cap.next_seq }, e, n)

ended_newest : (c : Context) (j : JobData) (b : Buffer) {result : Option RunResult} (x y : Context) → is_run c.phase ≡ true → Ends c j b result x → Settles x y → NewestAt c (Some y)
ended_newest c j b x y r (alone up flags cursor codec used bytes dest_flags stamp p n) s = settled_newest c x y (same_newest c x refl) s
ended_newest c j b x y r (kept up flags cursor codec used bytes dest_flags stamp d p n) s = settled_newest c x y (same_newest c x refl) s
ended_newest c j b x y r (ended flags cursor codec used bytes dest_flags stamp d up p u n m) s =
    subst (λ z. NewestAt c (Some z)) (sym (last_settled x y drain refl s)) (ended_last c x d used (known_bytes c.cap.side (dest_flags + last_flag) bytes) (dest_flags + last_flag) stamp refl refl)
ended_newest c j b x y r (halts step f geometry k phase events g e q p) s =
    settled_newest c x y (other_newest c x (halted_no_drain c.cap.streams c.phase phase r p)) s
ended_newest c j b x y r (spends step k g q) s = settled_newest c x y (same_newest c x refl) s

step_newest : (coder : Coder) (c : Context) {e : SoloEvent} {told : SoloReply} {slot : Slot} → Step coder c e told slot → NewestAt c slot
step_newest coder c (calls e) = effect_newest c e
step_newest coder c rests = same_newest c c refl
step_newest coder c (lacks_job n) = same_newest c c refl
step_newest coder c (claims b rest k r n o j p d q) = same_newest c _ refl
step_newest coder c (finishes r x y job ends s w) = ended_newest c _ job.source x y job.runs ends s
step_newest coder c (faults r x y job ends s) = ended_newest c _ job.source x y job.runs ends s

drain_is_last : (p : PhaseState) → is_last_by_drain p ≡ true → is_run p ≡ false
drain_is_last run e = absurd (false≢true e)
drain_is_last (owe cause) e = refl
drain_is_last (last cause) e = refl
drain_is_last (stopped cause) e = refl

pub all_went_back : AllWentBack
unfolding NewestAt
all_went_back coder events e before after at next g =
    let s : IsOrdered before = subst IsOrderedSlot at (always_ordered coder events) in
    let sound : IsOrdered after = subst IsOrderedSlot next (step_sound coder (Some before) e s) in
    let none = idle after sound.firm (drain_is_last after.phase (and_left (is_last_by_drain after.phase) _ g)) in
    record {
      no_job = none.0;
      no_source = none.1.0;
      no_destination = none.1.1;
      newest = subst (NewestAt before) next (step_newest coder before (step_of coder before e s)) g;
    }

-- Nothing after LAST

NothingSlot : Context → Slot → Type 0
NothingSlot c None = Unit {0}
NothingSlot c (Some y) = is_run y.phase ≡ false → (done_now c y ≡ []) × (y.cap.next_seq ≡ c.cap.next_seq)

over_stops : (p : PhaseState) → is_over p ≡ true → is_run p ≡ false
over_stops run e = absurd (false≢true e)
over_stops (owe cause) e = absurd (false≢true e)
over_stops (last cause) e = refl
over_stops (stopped cause) e = refl

over_owes : {A : Type 0} → (p : PhaseState) (cause : Cause) → is_over p ≡ true → p ≡ owe cause → A
over_owes p cause o e = absurd (false≢true (ap is_over (sym e) ∙ o))

over_settled : (x y : Context) → is_over x.phase ≡ true → Settles x y → y ≡ x
over_settled x y o still = refl
over_settled x y o (owes p r) = absurd (false≢true (sym (over_stops x.phase o) ∙ and_left (is_run x.phase) _ p))
over_settled x y o (gives cause b rest events r p) =
    absurd (⊎_elim (λ (e : x.phase ≡ owe cause). over_owes x.phase cause o e) (λ (e : (cause ≡ drain) × (drain_not_noted x ≡ true)). false≢true (sym (over_stops x.phase o) ∙ and_left (is_run x.phase) _ e.1)) p)

over_off : (p : PhaseState) → is_over p ≡ true → is_run (without_drain_stop p) ≡ true
over_off run e = absurd (false≢true e)
over_off (owe cause) e = absurd (false≢true e)
over_off (last drain) e = refl
over_off (last change) e = absurd (false≢true e)
over_off (stopped drain) e = refl
over_off (stopped change) e = absurd (false≢true e)

no_longer : {A : Type 0} → (b : Bool) → b ≡ true → b ≡ false → A
no_longer true p q = absurd (false≢true (sym q))
no_longer false p q = absurd (false≢true p)

same_nothing : (c x : Context) → x.cap.done ≡ c.cap.done → x.cap.next_seq ≡ c.cap.next_seq → IsTidy c → NothingSlot c (Some x)
unfolding NothingSlot
same_nothing c x d n t r = (made_now c x [] (made_same c x d t), n)

rest_nothing : (c x : Context) (b : Buffer) (rest : List Buffer) → c.cap.done ≡ b ∷ rest → x.cap.done ≡ rest → x.cap.next_seq ≡ c.cap.next_seq → IsTidy c → NothingSlot c (Some x)
unfolding NothingSlot
rest_nothing c x b rest d e n t r = (made_now c x [] (made_rest c x b rest d e t), n)

none_nothing : (c x : Context) → x.cap.done ≡ [] → x.cap.next_seq ≡ c.cap.next_seq → NothingSlot c (Some x)
unfolding NothingSlot
none_nothing c x d n r = (made_now c x [] (made_none c x d), n)

run_nothing : (c x : Context) → is_run x.phase ≡ true → NothingSlot c (Some x)
unfolding NothingSlot
run_nothing c x p r = absurd (false≢true (sym r ∙ p))

off_nothing : (c x : Context) → c.cap.streams ≡ true → c.cap.streams ≡ false → NothingSlot c (Some x)
off_nothing c x p r = absurd (false≢true (sym r ∙ p))

closed_nothing : (c : Context) → NothingSlot c None
unfolding NothingSlot
closed_nothing c = tt

over_nothing : (c x y : Context) → x.cap.done ≡ c.cap.done → x.cap.next_seq ≡ c.cap.next_seq → is_over x.phase ≡ true → IsTidy c → Settles x y → NothingSlot c (Some y)
over_nothing c x y d n o t s =
    subst (λ z. NothingSlot c (Some z)) (sym (over_settled x y o s)) (same_nothing c x d n t)

-- a drain that is over has no mark left, so START ends it
unmarked_start : (p : PhaseState) (mark : Option ℕ) → is_over p ≡ true → start_is_early p mark ≡ false → is_stopped_by_drain p ≡ true
unmarked_start run mark o e = absurd (false≢true o)
unmarked_start (owe cause) mark o e = absurd (false≢true o)
unmarked_start (last cause) mark o e = absurd (false≢true (sym e))
unmarked_start (stopped cause) mark o e = o

undrained : (ready : List Buffer) (mark : Option ℕ) → mark ≡ None → is_drained ready mark ≡ false
undrained ready None e = refl
undrained ready (Some m) e = absurd (cc)

put_off_drained : (x : Context) → drain_not_noted x ≡ true → is_drained x.out.ready x.mark ≡ true
put_off_drained x p = and_right (is_none x.running) _ (and_right x.cap.streams _ (and_right (is_run x.phase) _ p))

started_nothing : (c y : Context) → c.mark ≡ None → Settles (record c { phase = run }) y → NothingSlot c (Some y)
unfolding NothingSlot
started_nothing c y m still r = absurd (false≢true (sym r))
started_nothing c y m (owes p e) r =
    absurd (false≢true (sym (undrained c.out.ready c.mark m) ∙ put_off_drained (record c { phase = run }) p))
started_nothing c y m (gives cause b rest events e p) r =
    absurd
    (⊎_elim (λ (q : run ≡ owe cause). false≢true (sym (ap is_run q)))
    (λ (q : (cause ≡ drain) × (drain_not_noted (record c { phase = run }) ≡ true)). false≢true (sym (undrained c.out.ready c.mark m) ∙ put_off_drained (record c { phase = run }) q.1))
    p)

effect_nothing : (c : Context) {request : Call} {bytes : List ℕ} {reply : Reply} {slot : Slot} → is_over c.phase ≡ true → IsOrdered c → IsTidy c → Effect c request bytes reply slot → NothingSlot c slot
effect_nothing c o f t (stays n) = same_nothing c c refl refl t
effect_nothing c o f t (closes n) = closed_nothing c
effect_nothing c o f t (has_events events n) = same_nothing c _ refl refl t
effect_nothing c o f t (has_rates rates) = same_nothing c _ refl refl t
effect_nothing c o f t (has_out_format codec geometry a q k) = same_nothing c _ refl refl t
effect_nothing c o f t (has_cap_format q) = same_nothing c _ refl refl t
effect_nothing c o f t (has_out_buffers size codec geometry a k) = same_nothing c _ refl refl t
effect_nothing c o f t (has_cap_buffers size a) = none_nothing c _ refl refl
effect_nothing c o f t adds_out = same_nothing c _ refl refl t
effect_nothing c o f t adds_cap = same_nothing c _ refl refl t
effect_nothing c o f t (queues_out b e) = same_nothing c _ refl refl t
effect_nothing c o f t (queues_cap b y e s) = over_nothing c _ y refl refl o t s
effect_nothing c o f t (takes_out b rest d) = same_nothing c _ refl refl t
effect_nothing c o f t (takes_cap b rest d n l) = rest_nothing c _ b rest d refl refl t
effect_nothing c o f t (takes_last b cause mark d p m) = none_nothing c _ refl refl
effect_nothing c o f t streams_out = same_nothing c _ refl refl t
effect_nothing c o f t (streams_cap y s) = over_nothing c _ y refl refl o t s
effect_nothing c o f t (stops_out codec n k) = run_nothing c _ (over_off c.phase o)
effect_nothing c o f t (stops_cap codec n a k) = run_nothing c _ refl
effect_nothing c o f t (rests_cap n a) = off_nothing c _ (f.firm.stopping (over_stops c.phase o)) a
effect_nothing c o f t (sets_mark y n i b m d s) = over_nothing c _ y refl refl o t s
effect_nothing c o f t (starts y n i b e s) = started_nothing c y (t.unmarked (unmarked_start c.phase c.mark o e)) s

step_nothing : (coder : Coder) (c : Context) {e : SoloEvent} {told : SoloReply} {slot : Slot} → is_over c.phase ≡ true → IsOrdered c → IsTidy c → Step coder c e told slot → NothingSlot c slot
step_nothing coder c o f t (calls e) = effect_nothing c o f t e
step_nothing coder c o f t rests = same_nothing c c refl refl t
step_nothing coder c o f t (lacks_job n) = same_nothing c c refl refl t
step_nothing coder c o f t (claims b rest k r n z j p d q) = no_longer (is_run c.phase) p (over_stops c.phase o)
step_nothing coder c o f t (finishes r x y job ends s w) = no_longer (is_run c.phase) job.runs (over_stops c.phase o)
step_nothing coder c o f t (faults r x y job ends s) = no_longer (is_run c.phase) job.runs (over_stops c.phase o)

pub nothing_after_last : NothingAfterLast
unfolding NothingSlot
nothing_after_last coder events e before after at next o =
    let s : IsOrdered before = subst IsOrderedSlot at (always_ordered coder events) in
    subst (NothingSlot before) next (step_nothing coder before o s (always_tidy coder events before at) (step_of coder before e s))

-- Changes of the resolution

ChangeSlot : Context → Slot → Type 0
ChangeSlot c None = Unit {0}
ChangeSlot c (Some y) = is_run y.phase ≡ false → (done_now c y ≡ []) ⊎ IsOneLast c y

change_stops : (p : PhaseState) → stops_by_change p ≡ true → is_run p ≡ false
change_stops run e = absurd (false≢true e)
change_stops (owe cause) e = refl
change_stops (last cause) e = refl
change_stops (stopped cause) e = refl

abbrev nil : (A : Type 0) → List A
nil A = []

either_way : (b : Bool) → cond b (nil ℕ) (nil ℕ) ≡ nil ℕ
either_way true = refl
either_way false = refl

pub known_none : (side : Side) (flags : ℕ) → known_bytes side flags [] ≡ []
known_none Out flags = either_way (eqb (bit_and flags error_flag) error_flag)
known_none Cap flags = refl

rest_done : (c x : Context) (b : Buffer) (rest : List Buffer) → c.cap.done ≡ b ∷ rest → x.cap.done ≡ rest → IsTidy c → ChangeSlot c (Some x)
unfolding ChangeSlot
rest_done c x b rest d e t r = inl (made_now c x [] (made_rest c x b rest d e t))

none_done : (c x : Context) → x.cap.done ≡ [] → ChangeSlot c (Some x)
unfolding ChangeSlot
none_done c x d r = inl (made_now c x [] (made_none c x d))

closed_done : (c : Context) → ChangeSlot c None
unfolding ChangeSlot
closed_done c = tt

no_done : (c x : Context) → x.cap.done ≡ c.cap.done → IsTidy c → ChangeSlot c (Some x)
unfolding ChangeSlot
no_done c x d t r = inl (made_now c x [] (made_same c x d t))

-- the LAST buffer that is owed
owed_change : (p : PhaseState) (cause : Cause) → p ≡ owe cause → stops_by_change p ≡ true → (is_owed p ≡ true) × ((is_last_by_change (last cause) && not (is_last_by_change p)) ≡ true)
owed_change p cause e s =
    (ap is_owed e, ap (λ q. is_last_by_change (last cause) && not (is_last_by_change q)) e ∙ (ap (λ b. b && true) (ap stops_by_change (sym e) ∙ s)))

one_last :
    (c x : Context) (cause : Cause) (b : Buffer) (rest : List Buffer) → x.cap.done ≡ c.cap.done → x.cap.next_seq ≡ c.cap.next_seq → IsTidy c
    → (y : Context)
    → y.cap.done ≡ x.cap.done ++ (record b { used = 0; bytes = known_bytes x.cap.side last_flag []; flags = last_flag; stamp = zero_stamp; seq = x.cap.next_seq }) ∷ []
    → ((is_owed c.phase ≡ true) × (gives_change c y ≡ true)) ⊎ ((is_stopped c.phase ≡ true) × (gives_last c y ≡ true)) → IsOneLast c y
one_last c x cause b rest d n t y e h =
    let z : Buffer = record b { used = 0; bytes = known_bytes x.cap.side last_flag []; flags = last_flag; stamp = zero_stamp; seq = x.cap.next_seq } in
    record { buffer = z; alone = made_now c y (z ∷ []) (made_more c x y [] z e (omega arith) (made_same c x d t)); empty = (refl, refl, known_none x.cap.side last_flag); cause = h }

change_settled : (c x y : Context) → x.cap.done ≡ c.cap.done → x.cap.next_seq ≡ c.cap.next_seq → x.phase ≡ c.phase → stops_by_change c.phase ≡ true → IsTidy c → Settles x y → ChangeSlot c (Some y)
unfolding ChangeSlot
change_settled c x y d n p o t still r = inl (made_now c x [] (made_same c x d t))
change_settled c x y d n p o t (owes q e) r =
    no_longer (is_run c.phase) (ap is_run (sym p) ∙ and_left (is_run x.phase) _ q) (change_stops c.phase o)
change_settled c x y d n p o t (gives cause b rest events e q) r =
    inr
    (one_last c x cause b rest d n t y refl
    (inl
    (⊎_elim (λ (w : x.phase ≡ owe cause). owed_change c.phase cause (sym p ∙ w) o)
    (λ (w : (cause ≡ drain) × (drain_not_noted x ≡ true)). no_longer (is_run c.phase) (ap is_run (sym p) ∙ and_left (is_run x.phase) _ w.1) (change_stops c.phase o))
    q)))

start_stopped : (p : PhaseState) (mark : Option ℕ) → stops_by_change p ≡ true → start_is_early p mark ≡ false → is_stopped p ≡ true
start_stopped run mark o e = absurd (false≢true o)
start_stopped (owe cause) mark o e = absurd (false≢true (sym e))
start_stopped (last cause) mark o e = absurd (false≢true (sym e))
start_stopped (stopped cause) mark o e = refl

stopped_new : (p : PhaseState) (cause : Cause) → is_stopped p ≡ true → cause ≡ drain → (is_last_by_drain (last cause) && not (is_last_by_drain p)) ≡ true
stopped_new run cause s e = absurd (false≢true s)
stopped_new (owe c) cause s e = absurd (false≢true s)
stopped_new (last c) cause s e = absurd (false≢true s)
stopped_new (stopped c) cause s e = ap (λ q. is_drain q && true) e

change_started : (c y : Context) → is_stopped c.phase ≡ true → IsTidy c → Settles (record c { phase = run }) y → ChangeSlot c (Some y)
unfolding ChangeSlot
change_started c y o t still r = absurd (false≢true (sym r))
change_started c y o t (owes p e) r = inl (made_now c (record c { phase = owe drain }) [] (made_same c (record c { phase = owe drain }) refl t))
change_started c y o t (gives cause b rest events e p) r =
    inr
    (one_last c (record c { phase = run }) cause b rest refl refl t y refl
    (inr
    (⊎_elim (λ (q : run ≡ owe cause). absurd (false≢true (sym (ap is_run q))))
    (λ (q : (cause ≡ drain) × (drain_not_noted (record c { phase = run }) ≡ true)). (o, stopped_new c.phase cause o q.0)) p)))

effect_change : (c : Context) {request : Call} {bytes : List ℕ} {reply : Reply} {slot : Slot} → stops_by_change c.phase ≡ true → IsTidy c → Effect c request bytes reply slot → ChangeSlot c slot
effect_change c o t (stays n) = no_done c c refl t
effect_change c o t (closes n) = closed_done c
effect_change c o t (has_events events n) = no_done c _ refl t
effect_change c o t (has_rates rates) = no_done c _ refl t
effect_change c o t (has_out_format codec geometry a q k) = no_done c _ refl t
effect_change c o t (has_cap_format q) = no_done c _ refl t
effect_change c o t (has_out_buffers size codec geometry a k) = no_done c _ refl t
effect_change c o t (has_cap_buffers size a) = none_done c _ refl
effect_change c o t adds_out = no_done c _ refl t
effect_change c o t adds_cap = no_done c _ refl t
effect_change c o t (queues_out b e) = no_done c _ refl t
effect_change c o t (queues_cap b y e s) = change_settled c _ y refl refl refl o t s
effect_change c o t (takes_out b rest d) = no_done c _ refl t
effect_change c o t (takes_cap b rest d n l) = rest_done c _ b rest d refl t
effect_change c o t (takes_last b cause mark d p m) = none_done c _ refl
effect_change c o t streams_out = no_done c _ refl t
effect_change c o t (streams_cap y s) = change_settled c _ y refl refl refl o t s
effect_change c o t (stops_out codec n k) = no_done c _ refl t
effect_change c o t (stops_cap codec n a k) = none_done c _ refl
effect_change c o t (rests_cap n a) = none_done c _ refl
effect_change c o t (sets_mark y n i b m d s) = change_settled c _ y refl refl refl o t s
effect_change c o t (starts y n i b e s) = change_started c y (start_stopped c.phase c.mark o e) t s

step_change : (coder : Coder) (c : Context) {e : SoloEvent} {told : SoloReply} {slot : Slot} → stops_by_change c.phase ≡ true → IsTidy c → Step coder c e told slot → ChangeSlot c slot
step_change coder c o t (calls e) = effect_change c o t e
step_change coder c o t rests = no_done c c refl t
step_change coder c o t (lacks_job n) = no_done c c refl t
step_change coder c o t (claims b rest k r n z j p d q) = no_longer (is_run c.phase) p (change_stops c.phase o)
step_change coder c o t (finishes r x y job ends s w) = no_longer (is_run c.phase) job.runs (change_stops c.phase o)
step_change coder c o t (faults r x y job ends s) = no_longer (is_run c.phase) job.runs (change_stops c.phase o)

pub stops_by_a_change : StopsByChange
unfolding ChangeSlot
stops_by_a_change coder events e before after at next o =
    let s : IsOrdered before = subst IsOrderedSlot at (always_ordered coder events) in
    subst (ChangeSlot before) next (step_change coder before o (always_tidy coder events before at) (step_of coder before e s))

-- The run that finds a change

is_changed_word : List ℕ → Bool
is_changed_word word = eqb (get_or word 1 0) 104

-- the words of other outcomes differ in their second letter
puts_word :
    (c : Context) (j : JobData) (b : Buffer) (fourcc : Fourcc) (result : Option RunResult) (up : Bool) (flags cursor : ℕ) (codec : CodecState)
    (used : ℕ) (bytes : List ℕ) (dest_flags : ℕ) (stamp : Stamp)
    → Puts c j b result up flags cursor codec used bytes dest_flags stamp → (r : RunResult) → result ≡ Some r
    → is_changed_word (run_word fourcc r) ≡ false
unfolding is_changed_word
puts_word c j b fourcc result up flags cursor codec used bytes dest_flags stamp (puts_fault k) r e = absurd (cc)
puts_word c j b fourcc result up flags cursor codec used bytes dest_flags stamp (puts_copy xs k) r e =
    ap (λ x. is_changed_word (run_word fourcc x)) (let q : r ≡ copied xs = cc in q)
puts_word c j b fourcc result up flags cursor codec used bytes dest_flags stamp (puts_frame frame k) r e =
    ap (λ x. is_changed_word (run_word fourcc x)) (let q : r ≡ encoded frame = cc in q)
puts_word c j b fourcc result up flags cursor codec used bytes dest_flags stamp (puts_picture step f geometry key planes g k) r e =
    ap (λ x. is_changed_word (run_word fourcc x)) (let q : r ≡ decoded step = cc in q)
    ∙ (ap (λ o. is_changed_word (result_word (outcome_of_result fourcc o step.stamp))) g ∙ ap (λ o. is_changed_word (result_word (outcome_of fourcc o step.stamp))) k)
puts_word c j b fourcc result up flags cursor codec used bytes dest_flags stamp (puts_damage step f g k) r e =
    ap (λ x. is_changed_word (run_word fourcc x)) (let q : r ≡ decoded step = cc in q)
    ∙ (ap (λ o. is_changed_word (result_word (outcome_of_result fourcc o step.stamp))) g ∙ ap (λ o. is_changed_word (result_word (outcome_of fourcc o step.stamp))) k)

halt_settled : (c x y : Context) → x.cap.done ≡ c.cap.done → x.cap.next_seq ≡ c.cap.next_seq → is_run c.phase ≡ true → x.phase ≡ owe change → IsTidy c → Settles x y → IsFirstOfStop c y
halt_settled c x y d n r p t still =
    record { stops = ap stops_by_change p; done = inl (made_now c x [] (made_same c x d t)) }
halt_settled c x y d n r p t (owes q e) = absurd (false≢true (ap is_run (sym p) ∙ and_left (is_run x.phase) _ q))
halt_settled c x y d n r p t (gives cause b rest events e q) =
    let z : Buffer = record b { used = 0; bytes = known_bytes x.cap.side last_flag []; flags = last_flag; stamp = zero_stamp; seq = x.cap.next_seq } in
    let by : not (is_drain cause) ≡ true =
    ⊎_elim (λ (w : x.phase ≡ owe cause). ap stops_by_change (sym w ∙ p))
    (λ (w : (cause ≡ drain) × (drain_not_noted x ≡ true)). absurd (false≢true (ap is_run (sym p) ∙ and_left (is_run x.phase) _ w.1))) q in
    record { stops = by; done = inr (z, made_now c y (z ∷ []) (made_more c x y [] z refl (omega arith) (made_same c x d t)), refl, by_change c.phase r by) }
  where
    by_change : (p : PhaseState) → is_run p ≡ true → not (is_drain cause) ≡ true → (not (is_drain cause) && not (is_last_by_change p)) ≡ true
    by_change run r e = ap (λ b. b && true) e
    by_change (owe cause) r e = absurd (false≢true r)
    by_change (last cause) r e = absurd (false≢true r)
    by_change (stopped cause) r e = absurd (false≢true r)

ended_change :
    (c : Context) (j : JobData) (b : Buffer) (fourcc : Fourcc) {result : Option RunResult} (x y : Context) → (rr : RunResult) → result ≡ Some rr
    → is_changed_word (run_word fourcc rr) ≡ true → c.cap.streams ≡ true → is_run c.phase ≡ true → IsTidy c → Ends c j b result x → Settles x y
    → IsFirstOfStop c y
unfolding is_changed_word
ended_change c j b fourcc {result = result} x y rr e w o r t (alone up flags cursor codec used bytes dest_flags stamp p n) s =
    absurd (false≢true (sym (puts_word c j b fourcc result up flags cursor codec used bytes dest_flags stamp p rr e) ∙ w))
ended_change c j b fourcc {result = result} x y rr e w o r t (kept up flags cursor codec used bytes dest_flags stamp d p n) s =
    absurd (false≢true (sym (puts_word c j b fourcc result up flags cursor codec used bytes dest_flags stamp p rr e) ∙ w))
ended_change c j b fourcc {result = result} x y rr e w o r t (ended flags cursor codec used bytes dest_flags stamp d up p u n m) s =
    absurd (false≢true (sym (puts_word c j b fourcc result up flags cursor codec used bytes dest_flags stamp p rr e) ∙ w))
ended_change c j b fourcc x y rr e w o r t (halts step f geometry k phase events g q back p) s =
    let d = returned_done c.cap k back in
    halt_settled c x y d.0 d.1 r (p ∙ ap (λ b. cond b (owe change) c.phase) o) t s
ended_change c j b fourcc x y rr e w o r t (spends step k g back) s =
    absurd (false≢true (sym (ap (λ x. is_changed_word (run_word fourcc x)) (let q : rr ≡ decoded step = cc in q) ∙ ap (λ o. is_changed_word (result_word (outcome_of_result fourcc o step.stamp))) g) ∙ w))

FirstSlot : Context → SoloEvent → SoloReply → Slot → Type 0
FirstSlot c e told None = Unit {0}
FirstSlot c e told (Some y) = e ≡ Finishes false → told ≡ Finished (codes "changed") → c.cap.streams ≡ true → IsFirstOfStop c y

word_of : SoloReply → List ℕ
word_of (Answered reply bytes) = []
word_of Claimed = []
word_of (Finished word) = word
word_of Nothing = []

is_fault : SoloEvent → Bool
is_fault (Called request bytes found) = true
is_fault Claims = true
is_fault (Finishes fault) = fault

called_first : (c : Context) (e : SoloEvent) (told : SoloReply) (slot : Slot) → is_fault e ≡ true → FirstSlot c e told slot
unfolding FirstSlot is_fault
called_first c e told None f = tt
called_first c e told (Some y) f = λ p q o. absurd (false≢true (ap is_fault (sym p) ∙ f))

step_first : (coder : Coder) (c : Context) {e : SoloEvent} {told : SoloReply} {slot : Slot} → IsTidy c → Step coder c e told slot → FirstSlot c e told slot
unfolding FirstSlot finish_word is_fault word_of is_changed_word
step_first coder c {e = e} {told = told} {slot = slot} t (calls f) = called_first c e told slot refl
step_first coder c {e = e} {told = told} {slot = slot} t rests = called_first c e told slot refl
step_first coder c t (lacks_job n) = λ p (q : Nothing ≡ Finished (codes "changed")) o. absurd (false≢true (ap (λ x. is_changed_word (word_of x)) q))
step_first coder c {e = e} {told = told} {slot = slot} t (claims b rest k r n z j p d q) = called_first c e told slot refl
step_first coder c t (finishes {word = word} r x y job ends s w) =
    λ p (q : Finished word ≡ Finished (codes "changed")) o.
    ended_change c (job_data c r) job.source r.format.fourcc x y (run_result coder (job_data c r)) refl (ap is_changed_word (sym w) ∙ ap (λ x. is_changed_word (word_of x)) q) o job.runs t ends s
step_first coder c {e = e} {told = told} {slot = slot} t (faults r x y job ends s) = called_first c e told slot refl

pub changes_stop : ChangesStop
unfolding FirstSlot
changes_stop coder events e before after at next =
    let s : IsOrdered before = subst IsOrderedSlot at (always_ordered coder events) in
    subst (FirstSlot before e (solo_step coder (Some before) e).told) next (step_first coder before (always_tidy coder events before at) (step_of coder before e s))
