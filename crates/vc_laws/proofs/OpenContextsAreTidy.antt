-- Facts that hold of an open context after every list of events, beside those of its soundness: sequence numbers are
-- below the next one, a running job has what the context has, and its source is before the mark. Each kind of effect,
-- and each claim and finish, leaves them.
use Rattle.std.proofs.Common.{ℕ, suc, cond, ◌≡◌, ◌≤◌, ◌<◌, ◌+◌, nat_lt, Bool, true, false, ◌&&◌, Option, Some, None, List, [], ◌∷◌, ◌++◌, length, refl, sym, ap, ◌∙◌, subst, arith}
use Rattle.std.specs.List.{list_all}
use Rattle.std.proofs.lemmas.Bool.{false≢true, lt-ltb, ltb-true}
use Rattle.std.proofs.lemmas.List.Folds.{list_all-append}
use Rattle.vc_base.specs.declared.Side.TheVariants.{Cap}
use Rattle.vc_base.specs.declared.Kind.{Kind}
use Rattle.vc_base.specs.declared.Kind.TheVariants.{Copy, Enc, Dec}
use Rattle.vc_base.specs.declared.Format.{Format}
use Rattle.vc_base.specs.declared.Call.{Call}
use Rattle.vc_base.specs.declared.Call.TheVariants.{Open}
use Rattle.vc_base.specs.declared.Reply.{Reply}
use Rattle.vc_base.specs.Buffers.{Buffer, QueueState, buffer_count}
use Rattle.vc_model.specs.Formats.{FormatPair, formats_for}
use Rattle.vc_model.specs.Coder.{Coder}
use Rattle.vc_model.specs.Context.{Context, Slot, Running, Cause, drain, change, PhaseState, run, owe, last, stopped, fresh_context, is_enc, is_run}
use Rattle.vc_model.specs.Answer.{without_drain_stop, answer, closed_answer}
use Rattle.vc_model.specs.Phases.{is_stopped_by_drain}
use Rattle.vc_model.specs.Runs.{front_is_due, sort_of, run_format, running_of, JobData, RunResult}
use Rattle.vc_model.specs.Solo.{SoloEvent, Called, Claims, Finishes, SoloReply, solo_step, solo_slot}
use Rattle.vc_model.specs.Sound.{CountsUp, HasItsBuffers, IsSoundButUnsettled, IsOrdered, IsOrderedSlot}
use Rattle.vc_model.proofs.PartsOfTests.{and_left, and_right}
use Rattle.vc_model.proofs.EventsKeepSound.{step_sound}
use Rattle.vc_laws.proofs.EffectsOfCalls.{Settles, still, owes, gives, MarkAfterLast, Effect, stays, closes, has_events, has_rates, has_out_format}
use Rattle.vc_laws.proofs.EffectsOfCalls.{has_cap_format, has_out_buffers, has_cap_buffers, adds_out, adds_cap, queues_out, queues_cap, takes_out, takes_cap}
use Rattle.vc_laws.proofs.EffectsOfCalls.{takes_last, streams_out, streams_cap, stops_out, stops_cap, rests_cap, sets_mark, starts}
use Rattle.vc_laws.proofs.EffectsOfEvents.{Ends, alone, kept, ended, halts, spends, Returns, none_taken, given_back, ClaimsCap, probes, runs, Step, calls, rests, lacks_job, claims, finishes, faults, step_of}

-- each of the buffers has a smaller sequence number
abbrev pub AreBelow : ℕ → List Buffer → Type 0
AreBelow next bs = list_all (λ b. nat_lt b.seq next) bs ≡ true

-- what a running job took is what the context has, and its source is before the mark
pub record IsRunOf (c : Context) (r : Running) : Type 0 where
  pub sort : r.sort ≡ sort_of c.kind c.geometry
  pub geometry : r.geometry ≡ c.geometry
  pub limit : r.limit ≡ c.formats.out.size
  pub format : is_enc c.kind ≡ true → r.format ≡ c.formats.out
  pub due : front_is_due c.out.job c.mark ≡ true

abbrev pub HasRun : Context → Option Running → Type 0
HasRun c None = Unit {0}
HasRun c (Some r) = IsRunOf c r

pub record IsTidy (c : Context) : Type 0 where
  pub below : AreBelow c.cap.next_seq c.cap.done
  pub unmarked : is_stopped_by_drain c.phase ≡ true → c.mark ≡ None
  pub run : HasRun c c.running

abbrev pub TidySlot : Slot → Type 0
TidySlot None = Unit {0}
TidySlot (Some c) = IsTidy c

-- Sequence numbers

below_more : (bs : List Buffer) (n : ℕ) → AreBelow n bs → AreBelow (n + 1) bs
below_more [] n h = refl
below_more (b ∷ bs) n h =
    let l = ltb-true b.seq n (and_left (nat_lt b.seq n) (list_all (λ x. nat_lt x.seq n) bs) h) in
    ap (λ x. x && list_all (λ b. nat_lt b.seq (n + 1)) bs) (lt-ltb b.seq (n + 1) (omega arith)) ∙ below_more bs n (and_right (nat_lt b.seq n) (list_all (λ x. nat_lt x.seq n) bs) h)

-- one more, with the next number
pub below_end : (bs : List Buffer) (x : Buffer) (n : ℕ) → x.seq ≡ n → AreBelow n bs → AreBelow (n + 1) (bs ++ x ∷ [])
below_end bs x n e h =
    list_all-append (λ b. nat_lt b.seq (n + 1)) bs (x ∷ []) ∙ (ap (λ b. b && (nat_lt x.seq (n + 1) && true)) (below_more bs n h) ∙ ap (λ b. b && true) (lt-ltb x.seq (n + 1) (omega arith)))

below_rest : (b : Buffer) (rest bs : List Buffer) (n : ℕ) → bs ≡ b ∷ rest → AreBelow n bs → AreBelow n rest
below_rest b rest bs n e h = tail (nat_lt b.seq n) (list_all (λ x. nat_lt x.seq n) rest) (subst (AreBelow n) e h)
  where
    tail : (a d : Bool) → (a && d) ≡ true → d ≡ true
    tail true d p = p
    tail false d p = absurd (false≢true p)

-- Phases

not_stopped : {A : Type 0} → (p : PhaseState) → is_run p ≡ true → is_stopped_by_drain p ≡ true → A
not_stopped run r s = absurd (false≢true s)
not_stopped (owe cause) r s = absurd (false≢true s)
not_stopped (last cause) r s = absurd (false≢true s)
not_stopped (stopped cause) r s = absurd (false≢true r)

off_stopped : {A : Type 0} → (p : PhaseState) → is_stopped_by_drain (without_drain_stop p) ≡ true → A
off_stopped run e = absurd (false≢true e)
off_stopped (owe drain) e = absurd (false≢true e)
off_stopped (owe change) e = absurd (false≢true e)
off_stopped (last drain) e = absurd (false≢true e)
off_stopped (last change) e = absurd (false≢true e)
off_stopped (stopped drain) e = absurd (false≢true e)
off_stopped (stopped change) e = absurd (false≢true e)

-- Runs

-- no job runs without a buffer in OUTPUT's job list
no_run : (c x : Context) (o : Option Running) → HasItsBuffers c o → c.out.job ≡ [] → HasRun x o
no_run c x None h j = tt
no_run c x (Some r) h j = let n = sym (ap length j) ∙ h.1 in absurd (omega arith)

gone_run : (x : Context) (o : Option Running) → o ≡ None → HasRun x o
gone_run x None e = tt
gone_run x (Some r) e = absurd (cc)

-- the run of a context with the same kind, geometry, formats, job and mark
kept_run : (c x : Context) (o : Option Running) → x.kind ≡ c.kind → x.geometry ≡ c.geometry → x.formats.out ≡ c.formats.out → x.out.job ≡ c.out.job → x.mark ≡ c.mark → HasRun c o → HasRun x o
kept_run c x None k g f j m h = tt
kept_run c x (Some r) k g f j m h =
    record {
      sort = h.sort ∙ (ap (λ t. sort_of t c.geometry) (sym k) ∙ ap (λ t. sort_of x.kind t) (sym g));
      geometry = h.geometry ∙ sym g;
      limit = h.limit ∙ ap (λ t. t.size) (sym f);
      format = λ e. h.format (ap is_enc (sym k) ∙ e) ∙ sym f;
      due = ap (λ t. front_is_due t x.mark) j ∙ (ap (λ t. front_is_due c.out.job t) m ∙ h.due);
    }

pub same_out_format : (kind : Kind) (formats : FormatPair) (want : Format) → (formats_for kind Cap formats want).out ≡ formats.out
same_out_format Copy formats want = refl
same_out_format Enc formats want = refl
same_out_format Dec formats want = refl

-- a job in a queue with no buffers
pub no_job : (q : QueueState) → buffer_count q ≤ 0 → (bs : List Buffer) → q.job ≡ bs → bs ≡ []
no_job q n [] e = refl
no_job q n (b ∷ bs) e = let l = ap length e in absurd (omega arith)

-- the source of the job was queued before any STOP to come
job_before : (job ready : List Buffer) (first next : ℕ) → CountsUp (job ++ ready) first next → (n : ℕ) → length job ≡ suc n → front_is_due job (Some next) ≡ true
job_before [] ready first next u n e = absurd (omega arith)
job_before (b ∷ bs) ready first next u n e = lt-ltb b.ordinal next (before_next (bs ++ ready) first next b.ordinal u.0 u.1)
  where
    up : (xs : List Buffer) (a z : ℕ) → CountsUp xs a z → a ≤ z
    up [] a z u = omega (arith, u)
    up (x ∷ xs) a z u = let h = up xs (a + 1) z u.1 in omega arith

    before_next : (xs : List Buffer) (a z m : ℕ) → m ≡ a → CountsUp xs (a + 1) z → m < z
    before_next xs a z m e u = let h = up xs (a + 1) z u in omega arith

marked_run :
    (c x : Context) (o : Option Running) → x.kind ≡ c.kind → x.geometry ≡ c.geometry → x.formats.out ≡ c.formats.out → x.out.job ≡ c.out.job
    → x.mark ≡ Some c.out.next_ordinal → HasItsBuffers c o → IsSoundButUnsettled c → HasRun c o → HasRun x o
marked_run c x None k g f j m b s h = tt
marked_run c x (Some r) k g f j m b s h =
    record {
      sort = h.sort ∙ (ap (λ t. sort_of t c.geometry) (sym k) ∙ ap (λ t. sort_of x.kind t) (sym g));
      geometry = h.geometry ∙ sym g;
      limit = h.limit ∙ ap (λ t. t.size) (sym f);
      format = λ e. h.format (ap is_enc (sym k) ∙ e) ∙ sym f;
      due = ap (λ t. front_is_due t x.mark) j ∙ (ap (λ t. front_is_due c.out.job t) m ∙ job_before c.out.job c.out.ready s.out.latest.first c.out.next_ordinal s.out.latest.counts 0 b.1);
    }

-- Settling

-- the phase that settling leaves, and what is beside it
settled_tidy : (x y : Context) → Settles x y → IsTidy x → IsTidy y
settled_tidy x y still t = t
settled_tidy x y (owes p r) t =
    record { below = t.below; unmarked = λ (e : false ≡ true). absurd (false≢true e); run = kept_run x (record x { phase = owe drain }) x.running refl refl refl refl refl t.run }
settled_tidy x y (gives cause b rest events r p) t =
    record { below = below_end x.cap.done _ x.cap.next_seq refl t.below; unmarked = λ (e : false ≡ true). absurd (false≢true e); run = kept_run x _ x.running refl refl refl refl refl t.run }

-- Effects

queued_below : (c : Context) (k : QueueState) → k.done ≡ c.cap.done → k.next_seq ≡ c.cap.next_seq → IsTidy c → IsTidy (record c { cap = k })
queued_below c k d n t =
    record {
      below = ap (λ m. list_all (λ b. nat_lt b.seq m) k.done) n ∙ (ap (λ l. list_all (λ b. nat_lt b.seq c.cap.next_seq) l) d ∙ t.below);
      unmarked = t.unmarked;
      run = kept_run c (record c { cap = k }) c.running refl refl refl refl refl t.run;
    }

stopped_mark : (cause : Cause) (old new : Option ℕ) → MarkAfterLast cause old new → is_stopped_by_drain (stopped cause) ≡ true → new ≡ None
stopped_mark drain old new m e = m
stopped_mark change old new m e = absurd (false≢true e)

effect_tidy : (c : Context) {request : Call} {bytes : List ℕ} {reply : Reply} {slot : Slot} → IsOrdered c → IsTidy c → Effect c request bytes reply slot → TidySlot slot
effect_tidy c s t (stays n) = t
effect_tidy c s t (closes n) = tt
effect_tidy c s t (has_events events n) =
    record { below = t.below; unmarked = t.unmarked; run = kept_run c (record c { events = events }) c.running refl refl refl refl refl t.run }
effect_tidy c s t (has_rates rates) =
    record { below = t.below; unmarked = t.unmarked; run = kept_run c (record c { rates = rates }) c.running refl refl refl refl refl t.run }
effect_tidy c s t (has_out_format codec geometry o q k) =
    record { below = t.below; unmarked = t.unmarked; run = no_run c _ c.running s.firm.has_buffers (no_job c.out o c.out.job refl) }
effect_tidy c s t (has_cap_format {want = want} q) =
    record { below = t.below; unmarked = t.unmarked; run = kept_run c (record c { formats = formats_for c.kind Cap c.formats want }) c.running refl refl (same_out_format c.kind c.formats want) refl refl t.run }
effect_tidy c s t (has_out_buffers size codec geometry o k) =
    record { below = t.below; unmarked = t.unmarked; run = no_run c _ c.running s.firm.has_buffers (s.firm.out.job_at_rest o) }
effect_tidy c s t (has_cap_buffers size o) =
    record { below = refl; unmarked = t.unmarked; run = kept_run c _ c.running refl refl refl refl refl t.run }
effect_tidy c s t adds_out =
    record { below = t.below; unmarked = t.unmarked; run = kept_run c _ c.running refl refl refl refl refl t.run }
effect_tidy c s t adds_cap = queued_below c _ refl refl t
effect_tidy c s t (queues_out b e) =
    record { below = t.below; unmarked = t.unmarked; run = kept_run c _ c.running refl refl refl refl refl t.run }
effect_tidy c s t (queues_cap b y e u) = settled_tidy _ y u (queued_below c _ refl refl t)
effect_tidy c s t (takes_out b rest d) =
    record { below = t.below; unmarked = t.unmarked; run = kept_run c _ c.running refl refl refl refl refl t.run }
effect_tidy c s t (takes_cap b rest d n l) =
    record { below = below_rest b rest c.cap.done c.cap.next_seq d t.below; unmarked = t.unmarked; run = kept_run c _ c.running refl refl refl refl refl t.run }
effect_tidy c s t (takes_last b cause mark d p m) =
    record { below = refl; unmarked = stopped_mark cause c.mark mark m; run = no_run c _ c.running s.firm.has_buffers (idle_job c.running s.firm.has_buffers) }
  where
    idle_job : (o : Option Running) → HasItsBuffers c o → c.out.job ≡ []
    idle_job None h = h.0
    idle_job (Some r) h = absurd (false≢true (ap is_run (sym p) ∙ h.0))
effect_tidy c s t streams_out =
    record { below = t.below; unmarked = t.unmarked; run = kept_run c _ c.running refl refl refl refl refl t.run }
effect_tidy c s t (streams_cap y u) = settled_tidy _ y u (queued_below c _ refl refl t)
effect_tidy c s t (stops_out codec n k) =
    record { below = t.below; unmarked = off_stopped c.phase; run = gone_run _ c.running n }
effect_tidy c s t (stops_cap codec n o k) =
    record { below = refl; unmarked = λ (e : false ≡ true). absurd (false≢true e); run = gone_run _ c.running n }
effect_tidy c s t (rests_cap n o) =
    record { below = refl; unmarked = t.unmarked; run = gone_run _ c.running n }
effect_tidy c s t (sets_mark y n i b m d u) =
    settled_tidy _ y u (record { below = t.below; unmarked = λ e. absurd (false≢true (sym d ∙ e)); run = marked_run c _ c.running refl refl refl refl refl s.firm.has_buffers s.firm t.run })
effect_tidy c s t (starts y n i b e u) =
    settled_tidy _ y u (record { below = t.below; unmarked = λ (e : false ≡ true). absurd (false≢true e); run = kept_run c _ c.running refl refl refl refl refl t.run })

-- Claims and finishes

enc_format : (kind : Kind) (formats : FormatPair) → is_enc kind ≡ true → run_format kind formats ≡ formats.out
enc_format Copy formats e = absurd (false≢true e)
enc_format Enc formats e = refl
enc_format Dec formats e = absurd (false≢true e)

claimed_tidy :
    (c : Context) (b : Buffer) (rest : List Buffer) (k : QueueState) → front_is_due (b ∷ rest) c.mark ≡ true → k.done ≡ c.cap.done
    → k.next_seq ≡ c.cap.next_seq → IsTidy c
    → IsTidy (record c { out = record c.out { ready = rest; job = b ∷ [] }; cap = k; running = Some (running_of c (sort_of c.kind c.geometry)) })
claimed_tidy c b rest k d f n t =
    record {
      below = ap (λ m. list_all (λ b. nat_lt b.seq m) k.done) n ∙ (ap (λ l. list_all (λ b. nat_lt b.seq c.cap.next_seq) l) f ∙ t.below);
      unmarked = t.unmarked;
      run = record { sort = refl; geometry = refl; limit = refl; format = enc_format c.kind c.formats; due = still_due c.mark d };
    }
  where
    still_due : (mark : Option ℕ) → front_is_due (b ∷ rest) mark ≡ true → front_is_due (b ∷ []) mark ≡ true
    still_due None e = refl
    still_due (Some m) e = e

claimed_cap :
    (c : Context) (b : Buffer) (rest : List Buffer) (k : QueueState) → front_is_due (b ∷ rest) c.mark ≡ true
    → ClaimsCap c (sort_of c.kind c.geometry) k → IsTidy c
    → IsTidy (record c { out = record c.out { ready = rest; job = b ∷ [] }; cap = k; running = Some (running_of c (sort_of c.kind c.geometry)) })
claimed_cap c b rest k d (probes e) t = claimed_tidy c b rest c.cap d refl refl t
claimed_cap c b rest k d (runs x xs n o e) t = claimed_tidy c b rest _ d refl refl t

returned_below : (q k : QueueState) → Returns q k → AreBelow q.next_seq q.done → AreBelow k.next_seq k.done
returned_below q k (none_taken j) h = h
returned_below q k (given_back d j) h = h

halted_phase : (streams : Bool) (p phase : PhaseState) → is_run p ≡ true → phase ≡ cond streams (owe change) p → is_stopped_by_drain phase ≡ true → ⊥
halted_phase true p phase r e s = false≢true (ap is_stopped_by_drain (sym e) ∙ s)
halted_phase false p phase r e s = not_stopped p r (ap is_stopped_by_drain (sym e) ∙ s)

ended_tidy : (c : Context) (j : JobData) (b : Buffer) {result : Option RunResult} (x : Context) → is_run c.phase ≡ true → Ends c j b result x → IsTidy c → IsTidy x
ended_tidy c j b x p (alone up flags cursor codec used bytes dest_flags stamp w n) t =
    record { below = t.below; unmarked = t.unmarked; run = tt }
ended_tidy c j b x p (kept up flags cursor codec used bytes dest_flags stamp d w n) t =
    record { below = below_end c.cap.done _ c.cap.next_seq refl t.below; unmarked = t.unmarked; run = tt }
ended_tidy c j b x p (ended flags cursor codec used bytes dest_flags stamp d up w u n m) t =
    record { below = below_end c.cap.done _ c.cap.next_seq refl t.below; unmarked = λ (e : false ≡ true). absurd (false≢true e); run = tt }
ended_tidy c j b x p (halts step r geometry k phase events g w q f) t =
    record { below = returned_below c.cap k q t.below; unmarked = λ e. absurd (halted_phase c.cap.streams c.phase phase p f e); run = tt }
ended_tidy c j b x p (spends step k g q) t =
    record { below = returned_below c.cap k q t.below; unmarked = t.unmarked; run = tt }

pub step_tidy : (coder : Coder) (c : Context) {e : SoloEvent} {told : SoloReply} {slot : Slot} → IsOrdered c → IsTidy c → Step coder c e told slot → TidySlot slot
step_tidy coder c s t (calls e) = effect_tidy c s t e
step_tidy coder c s t rests = t
step_tidy coder c s t (lacks_job n) = t
step_tidy coder c s t (claims b rest k r n o j p d q) = claimed_cap c b rest k d q t
step_tidy coder c s t (finishes r x y job ends u w) = settled_tidy x y u (ended_tidy c _ job.source x job.runs ends t)
step_tidy coder c s t (faults r x y job ends u) = settled_tidy x y u (ended_tidy c _ job.source x job.runs ends t)

-- the kind stays
unfoldable pub KindSlot : Context → Slot → Type 0
KindSlot c None = Unit {0}
KindSlot c (Some y) = y.kind ≡ c.kind

settled_kind : (c x y : Context) → x.kind ≡ c.kind → Settles x y → KindSlot c (Some y)
unfolding KindSlot
settled_kind c x y k still = k
settled_kind c x y k (owes p r) = k
settled_kind c x y k (gives cause b rest events r p) = k

effect_kind : (c : Context) {request : Call} {bytes : List ℕ} {reply : Reply} {slot : Slot} → Effect c request bytes reply slot → KindSlot c slot
unfolding KindSlot
effect_kind c (stays n) = refl
effect_kind c (closes n) = tt
effect_kind c (has_events events n) = refl
effect_kind c (has_rates rates) = refl
effect_kind c (has_out_format codec geometry o q k) = refl
effect_kind c (has_cap_format q) = refl
effect_kind c (has_out_buffers size codec geometry o k) = refl
effect_kind c (has_cap_buffers size o) = refl
effect_kind c adds_out = refl
effect_kind c adds_cap = refl
effect_kind c (queues_out b e) = refl
effect_kind c (queues_cap b y e u) = settled_kind c _ y refl u
effect_kind c (takes_out b rest d) = refl
effect_kind c (takes_cap b rest d n l) = refl
effect_kind c (takes_last b cause mark d p m) = refl
effect_kind c streams_out = refl
effect_kind c (streams_cap y u) = settled_kind c _ y refl u
effect_kind c (stops_out codec n k) = refl
effect_kind c (stops_cap codec n o k) = refl
effect_kind c (rests_cap n o) = refl
effect_kind c (sets_mark y n i b m d u) = settled_kind c _ y refl u
effect_kind c (starts y n i b e u) = settled_kind c _ y refl u

ended_kind : (c : Context) (j : JobData) (b : Buffer) {result : Option RunResult} (x : Context) → Ends c j b result x → x.kind ≡ c.kind
ended_kind c j b x (alone up flags cursor codec used bytes dest_flags stamp w n) = refl
ended_kind c j b x (kept up flags cursor codec used bytes dest_flags stamp d w n) = refl
ended_kind c j b x (ended flags cursor codec used bytes dest_flags stamp d up w u n m) = refl
ended_kind c j b x (halts step r geometry k phase events g w q f) = refl
ended_kind c j b x (spends step k g q) = refl

pub step_kind : (coder : Coder) (c : Context) {e : SoloEvent} {told : SoloReply} {slot : Slot} → Step coder c e told slot → KindSlot c slot
unfolding KindSlot
step_kind coder c (calls e) = effect_kind c e
step_kind coder c rests = refl
step_kind coder c (lacks_job n) = refl
step_kind coder c (claims b rest k r n o j p d q) = refl
step_kind coder c (finishes r x y job ends u w) = settled_kind c x y (ended_kind c _ job.source x ends) u
step_kind coder c (faults r x y job ends u) = settled_kind c x y (ended_kind c _ job.source x ends) u

-- Slots

fresh_tidy : (kind : Kind) → IsTidy (fresh_context kind)
fresh_tidy kind = record { below = refl; unmarked = λ (e : false ≡ true). absurd (false≢true e); run = tt }

closed_tidy : (request : Call) (found : Bool) → TidySlot (closed_answer request found).slot
unfolding closed_answer
closed_tidy (Open kind) true = fresh_tidy kind
closed_tidy (Open kind) false = tt
closed_tidy request found = tt

pub slot_tidy : (coder : Coder) (s : Slot) (e : SoloEvent) → IsOrderedSlot s → TidySlot s → TidySlot (solo_step coder s e).slot
unfolding solo_step answer
slot_tidy coder None (Called request bytes found) h t = closed_tidy request found
slot_tidy coder None Claims h t = tt
slot_tidy coder None (Finishes fault) h t = tt
slot_tidy coder (Some c) (Called request bytes found) h t = step_tidy coder c h t (step_of coder c (Called request bytes found) h)
slot_tidy coder (Some c) Claims h t = step_tidy coder c h t (step_of coder c Claims h)
slot_tidy coder (Some c) (Finishes fault) h t = step_tidy coder c h t (step_of coder c (Finishes fault) h)

run_tidy : (coder : Coder) (s : Slot) (es : List SoloEvent) → IsOrderedSlot s → TidySlot s → TidySlot (solo_slot coder s es)
run_tidy coder s [] h t = t
run_tidy coder s (e ∷ es) h t =
    run_tidy coder (solo_step coder s e).slot es (step_sound coder s e h) (slot_tidy coder s e h t)

pub always_tidy : (coder : Coder) (events : List SoloEvent) (c : Context) → solo_slot coder None events ≡ Some c → IsTidy c
always_tidy coder events c at = subst TidySlot at (run_tidy coder None events tt tt)
