-- Each step of a core changes one slot, the list of waiting slots and the jobs of the workers as the definitions'
-- step does. What every core keeps is shown anew for that slot and carried over for the others.
use Rattle.std.proofs.Common.{ℕ, zero, suc, ◌≡◌, ◌<◌, ◌≤◌, ◌+◌, ◌^◌, ltb, eqb, Bool, true, false, not, ◌||◌, cond, Option, Some, None, List, [], ◌∷◌, ◌++◌}
use Rattle.std.proofs.Common.{length, get_or, set, length-set, get_or-set_same, get_or-set_other, ⊎_elim, inl, inr, ◌⊎◌, eqb-true, ltb-true, ltb-false, refl}
use Rattle.std.proofs.Common.{sym, ap, ◌∙◌, subst, arith}
use Rattle.std.specs.Prelude.{◌==◌, is_some}
use Rattle.std.specs.List.{filter, list_any}
use Rattle.std.proofs.lemmas.Bool.{false≢true, cases_eq}
use Rattle.vc_base.specs.declared.Call.{Call}
use Rattle.vc_base.specs.declared.Reply.{Reply}
use Rattle.vc_base.specs.declared.Reply.TheVariants.{Blocked}
use Rattle.vc_model.specs.Context.{Context, Slot, Running}
use Rattle.vc_model.specs.Runs.{JobData, is_claimable}
use Rattle.vc_model.specs.Answer.{answer}
use Rattle.vc_model.specs.Devices.{DeviceStep, slot_of, job_of, waiting_after, with_slot, steps_of, counted, call_answered}
use Rattle.vc_model.specs.JobList.{waits}
use Rattle.vc_model.specs.Standing.{CoreState}
use Rattle.vc_model.specs.Core.{BroughtBack, core_claim, core_claim_first, core_claim_slot, core_finish, core_finish_of, core_finish_slot, core_finish_job, finished_context}
use Rattle.vc_model.proofs.JobListIsExact.{without_other, without_same, behind_front, front_waits}
use Rattle.vc_model.proofs.BlockedChangesNothing.{blocked_stays}
use Rattle.vc_queue.specs.Holds.{HoldState}
use Rattle.vc_jobs.specs.Jobs.{Jobs}
use Rattle.vc_jobs.specs.Jobs as jobs
use Rattle.vc_core.specs.declared.job.Job.{Job}
use Rattle.vc_core.specs.declared.job.Finished as job
use Rattle.vc_core.specs.Slots.{IsKeptSlot, IsCountedSlot, IsStepOfSlot, SlotHasRoom, IsAnswer, claimed_slot, finished_slot}
use Rattle.vc_core.specs.Jobs.{IsJobWith, RunsWith, HasJob, RunsInSlot, Brings, IsJobOfWorker, IsOfWorker}
use Rattle.vc_context.specs.Payloads.{handed_over, FitsSlot}
use Rattle.vc_core.specs.Steps.{IsCall, IsCore, slot_at}

-- the two lists of waiting slots are one
same_waiting : (waiting : List ℕ) (k : ℕ) (b : Bool) → jobs.waiting_after waiting k b ≡ waiting_after waiting k b
same_waiting waiting k true = refl
same_waiting waiting k false = refl

-- the slots, where one of them changed

same_at : (slots : List Slot) (k : ℕ) (s : Slot) → k < length slots → slot_at (set slots k s) k ≡ s
same_at slots k s h = get_or-set_same slots k s None h

other_at : (slots : List Slot) (k j : ℕ) (s : Slot) → (j ≡ k → ⊥) → slot_at (set slots k s) j ≡ slot_at slots j
other_at slots k j s n = get_or-set_other slots k j s None n

-- a fact of each slot, where one of them changed
each_at : (P : Slot → Type 0) (slots : List Slot) (k : ℕ) (s : Slot) → k < length slots → P s → ((j : ℕ) → P (slot_at slots j)) → (j : ℕ) → P (slot_at (set slots k s) j)
each_at P slots k s h here there j =
    ⊎_elim (λ (e : j ≡ k). subst (λ (i : ℕ). P (slot_at (set slots k s) i)) (sym e) (subst P (sym (same_at slots k s h)) here)) (λ (n : j ≡ k → ⊥). subst P (sym (other_at slots k j s n)) (there j)) (cases_eq j k)

-- only slots with a job to be claimed wait

waits_end : (ks : List ℕ) (k j : ℕ) → waits (ks ++ k ∷ []) j ≡ (waits ks j || (eqb k j || false))
waits_end [] k j = refl
waits_end (x ∷ ks) k j =
    ap (λ b. eqb x j || b) (waits_end ks k j) ∙ sym (or_assoc (eqb x j) (waits ks j) (eqb k j || false))
  where
    or_assoc : (a b c : Bool) → ((a || b) || c) ≡ (a || (b || c))
    or_assoc true b c = refl
    or_assoc false b c = refl

unlike : (k j : ℕ) → (j ≡ k → ⊥) → (b : Bool) → eqb k j ≡ b → b ≡ false
unlike k j n true e = absurd (n (sym (eqb-true k j e)))
unlike k j n false e = refl

added_other : (ks : List ℕ) (k j : ℕ) → (j ≡ k → ⊥) → (b : Bool) → waits (cond b ks (ks ++ k ∷ [])) j ≡ true → waits ks j ≡ true
added_other ks k j n true h = h
added_other ks k j n false h = or_end (waits ks j) (eqb k j) (unlike k j n (eqb k j) refl) (sym (waits_end ks k j) ∙ h)
  where
    or_end : (a b : Bool) → b ≡ false → (a || (b || false)) ≡ true → a ≡ true
    or_end true b e h = refl
    or_end false true e h = absurd (false≢true (sym e))
    or_end false false e h = absurd (false≢true h)

waits_other : (ks : List ℕ) (k j : ℕ) (b : Bool) → (j ≡ k → ⊥) → waits (waiting_after ks k b) j ≡ true → waits ks j ≡ true
waits_other ks k j true n h = added_other ks k j n (list_any (λ i. i == k) ks) h
waits_other ks k j false n h = sym (without_other ks k j n) ∙ h

waits_same : (ks : List ℕ) (k : ℕ) (b : Bool) → waits (waiting_after ks k b) k ≡ true → b ≡ true
waits_same ks k true h = refl
waits_same ks k false h = absurd (false≢true (sym (without_same ks k) ∙ h))

listed_at :
    (slots : List Slot) (ks : List ℕ) (k : ℕ) (s : Slot) → k < length slots
    → ((j : ℕ) → (j ≡ k → ⊥) → waits ks j ≡ true → is_claimable (slot_at slots j) ≡ true) → (j : ℕ)
    → waits (waiting_after ks k (is_claimable s)) j ≡ true → is_claimable (slot_at (set slots k s) j) ≡ true
listed_at slots ks k s h there j w =
    ⊎_elim (λ (e : j ≡ k).
    let w' : waits (waiting_after ks k (is_claimable s)) k ≡ true = ap (waits (waiting_after ks k (is_claimable s))) (sym e) ∙ w in
    ap (λ (i : ℕ). is_claimable (slot_at (set slots k s) i)) e ∙ (ap is_claimable (same_at slots k s h) ∙ waits_same ks k (is_claimable s) w'))
    (λ (n : j ≡ k → ⊥). ap is_claimable (other_at slots k j s n) ∙ there j n (waits_other ks k j (is_claimable s) n w)) (cases_eq j k)

-- numbers below the end

pub has_room : (s : Slot) (steps : ℕ) → IsCountedSlot steps s → steps < 2 ^ 62 → SlotHasRoom s
has_room None steps n h = tt
has_room (Some c) steps n h =
    record { out_queued = omega (arith, n.out_queued, h); cap_queued = omega (arith, n.cap_queued, h); out_done = omega (arith, n.out_done, h); cap_done = omega (arith, n.cap_done, h); raised = omega (arith, n.raised, h) }

more_counted : (s : Slot) (a b : ℕ) → a ≤ b → IsCountedSlot a s → IsCountedSlot b s
more_counted None a b h n = tt
more_counted (Some c) a b h n =
    record { out_queued = omega (arith, n.out_queued, h); cap_queued = omega (arith, n.cap_queued, h); out_done = omega (arith, n.out_done, h); cap_done = omega (arith, n.cap_done, h); raised = omega (arith, n.raised, h) }

steps_at : (reply : Reply) → (steps_of reply ≡ 1) ⊎ (reply ≡ Blocked)
steps_at Blocked = inr refl
steps_at reply = inl refl

-- What the step on a slot comes to.

counted_after : (old new : Slot) (steps : ℕ) (reply : Reply) → IsStepOfSlot old new → (reply ≡ Blocked → new ≡ old) → IsCountedSlot steps old → IsCountedSlot (steps + steps_of reply) new
counted_after old new steps reply step stays n =
    ⊎_elim (λ (e : steps_of reply ≡ 1). subst (λ (m : ℕ). IsCountedSlot (steps + m) new) (sym e) (step.counted steps n))
    (λ (e : reply ≡ Blocked). subst (λ (s : Slot). IsCountedSlot (steps + steps_of reply) s) (sym (stays e)) (more_counted old steps (steps + steps_of reply) (omega arith) n))
    (steps_at reply)

blocked_same : (s new : Slot) (request : Call) (bytes : List ℕ) (told : Reply) → IsAnswer s request bytes told new → told ≡ Blocked → new ≡ s
blocked_same s new request bytes told a e =
    sym a.slot ∙ blocked_stays s request bytes a.found (a.reply ∙ e)

any_default : {A : Type 0} (l : List A) (i : ℕ) (d e : A) → i < length l → get_or l i d ≡ get_or l i e
any_default [] i d e h = absurd (omega (arith, h))
any_default (x ∷ l) zero d e h = refl
any_default (x ∷ l) (suc i) d e h = any_default l i d e (omega (arith, h))

-- the state with these fields
abbrev pub core_state : List Slot → List ℕ → List (Option ℕ) → Bool → ℕ → CoreState
core_state slots waiting workers shut steps =
    record { slots = slots; waiting = waiting; workers = workers; is_shut = shut; steps = steps }

within : (k n : ℕ) → k < n → (b : Bool) → ltb k n ≡ b → b ≡ true
within k n h true e = refl
within k n h false e = absurd (omega (arith, h, ltb-false k n e))

-- the other slots stay, and what fits goes on fitting

pub others_at :
    (slots : List Slot) (waiting waiting_new : List ℕ) (workers workers_new : List (Option ℕ)) (shut : Bool) (steps steps_new : ℕ) (now : CoreState) (k j : ℕ) (new : Slot)
    → core_state slots waiting workers shut steps ≡ now → (j ≡ k → ⊥)
    → slot_of (core_state (set slots k new) waiting_new workers_new shut steps_new) j ≡ slot_of now j
others_at slots waiting waiting_new workers workers_new shut steps steps_new now k j new view n =
    other_at slots k j new n ∙ ap (λ (x : CoreState). slot_of x j) view

pub holds_at :
    (slots : List Slot) (waiting : List ℕ) (workers : List (Option ℕ)) (shut : Bool) (steps : ℕ) (now : CoreState) (k : ℕ) (old new : Slot) (j : ℕ) (hold : HoldState)
    → core_state slots waiting workers shut steps ≡ now → k < length slots → old ≡ get_or slots k old
    → ((h : HoldState) → FitsSlot old h → FitsSlot new h) → FitsSlot (slot_of now j) hold → FitsSlot (slot_at (set slots k new) j) hold
holds_at slots waiting workers shut steps now k old new j hold view h there keeps fits =
    let f : FitsSlot (slot_at slots j) hold = subst (λ (x : CoreState). FitsSlot (slot_of x j) hold) (sym view) fits in
    let is : old ≡ slot_at slots k = there ∙ any_default slots k old None h in
    ⊎_elim (λ (e : j ≡ k).
    let g : FitsSlot new hold =
    keeps hold (subst (λ (s : Slot). FitsSlot s hold) (sym is) (subst (λ (i : ℕ). FitsSlot (slot_at slots i) hold) e f)) in
    subst (λ (i : ℕ). FitsSlot (slot_at (set slots k new) i) hold) (sym e) (subst (λ (s : Slot). FitsSlot s hold) (sym (same_at slots k new h)) g))
    (λ (n : j ≡ k → ⊥). subst (λ (s : Slot). FitsSlot s hold) (sym (other_at slots k j new n)) f) (cases_eq j k)

-- the worker has the job

job_cases : (core : CoreState) (worker k : ℕ) (new : Slot) (given : Option JobData) (taken : Job) → job_of core worker ≡ Some k → slot_of core k ≡ new → RunsWith new given → IsJobWith k given taken → IsJobOfWorker core worker taken
job_cases core worker k new None taken has here r i = absurd r
job_cases core worker k new (Some j) taken has here r i =
    record { slot = k; given = j; has = record { of_slot = has; data_there = subst (λ (s : Slot). RunsInSlot s j) (sym here) r }; is_of = i }

pub worker_has :
    (slots : List Slot) (waiting waiting_new : List ℕ) (workers : List (Option ℕ)) (shut : Bool) (steps steps_new : ℕ) (now : CoreState)
    (worker k : ℕ) (new : Slot) (given : Option JobData) (taken : Job)
    → core_state slots waiting workers shut steps ≡ now → worker < length now.workers → k < length slots → RunsWith new given
    → IsJobWith k given taken → IsJobOfWorker (core_state (set slots k new) waiting_new (set workers worker (Some k)) shut steps_new) worker taken
worker_has slots waiting waiting_new workers shut steps steps_new now worker k new given taken view w h r i =
    let w' : worker < length workers = subst (λ (x : CoreState). worker < length x.workers) (sym view) w in
    job_cases _ worker k new given taken (get_or-set_same workers worker (Some k) None w') (same_at slots k new h) r i

-- A call

called_at :
    (slots : List Slot) (waiting : List ℕ) (workers : List (Option ℕ)) (shut : Bool) (steps k : ℕ) (request : Call) (hold : HoldState) (told : Reply) (new : Slot)
    → k < length slots → IsAnswer (slot_at slots k) request (handed_over request hold) told new
    → IsCall (core_state slots waiting workers shut steps) k request hold told (core_state (set slots k new) (waiting_after waiting k (is_claimable new)) workers shut (steps + steps_of told))
unfolding with_slot
called_at slots waiting workers shut steps k request hold told new h a =
    let core : CoreState = core_state slots waiting workers shut steps in
    let here : ltb k (length slots) ≡ true = within k (length slots) h (ltb k (length slots)) refl in
    let bytes : List ℕ = handed_over request hold in
    let step : DeviceStep = call_answered core k (answer (slot_at slots k) request bytes a.found) in
    let made : step.device ≡ core_state (set slots k new) (waiting_after waiting k (is_claimable new)) workers shut (steps + steps_of told) = rw (a.slot, a.reply) refl in
    record {
      found = a.found;
      handed = (answer (slot_at slots k) request bytes a.found).bytes;
      reply = rw (here, a.reply) refl;
      device = rw here made;
      want = a.want;
    }

-- A finish

finish_job_at :
    (core : CoreState) (worker k : ℕ) (c : Context) (o : Option Running) (back : BroughtBack) → is_some o ≡ true
    → (core_finish_job core worker k c o back).device ≡ counted (with_slot (record core { workers = set core.workers worker None }) k (Some (finished_context c back))) 1
finish_job_at core worker k c None back e = absurd (false≢true e)
finish_job_at core worker k c (Some r) back e = refl

finish_slot_at :
    (core : CoreState) (worker k : ℕ) (s : Slot) (back : BroughtBack) → RunsInSlot s back.job
    → (core_finish_slot core worker k s back).device ≡ counted (with_slot (record core { workers = set core.workers worker None }) k (finished_slot s back)) 1
finish_slot_at core worker k None back h = absurd h
finish_slot_at core worker k (Some c) back h = finish_job_at core worker k c c.running back h.running

finished_core :
    (slots : List Slot) (waiting : List ℕ) (workers : List (Option ℕ)) (shut : Bool) (steps k : ℕ) (old new : Slot) (worker : ℕ) (back : BroughtBack) (now : CoreState)
    → core_state slots waiting workers shut steps ≡ now → job_of now worker ≡ Some k → slot_of now k ≡ old → RunsInSlot old back.job
    → new ≡ finished_slot old back
    → core_state (set slots k new) (waiting_after waiting k (is_claimable new)) (set workers worker None) shut (steps + 1) ≡ (core_finish now worker back).device
unfolding with_slot
finished_core slots waiting workers shut steps k old new worker back now view has here runs made =
    let a : (core_finish now worker back).device ≡ (core_finish_slot now worker k (slot_of now k) back).device = ap (λ (o : Option ℕ). (core_finish_of now worker o back).device) has in
    let b : (core_finish_slot now worker k (slot_of now k) back).device ≡ (core_finish_slot now worker k old back).device = ap (λ (s : Slot). (core_finish_slot now worker k s back).device) here in
    let d = finish_slot_at now worker k old back runs in
    let e :
    counted (with_slot (record now { workers = set now.workers worker None }) k (finished_slot old back)) 1
    ≡ core_state (set slots k new) (waiting_after waiting k (is_claimable new)) (set workers worker None) shut (steps + 1) =
    rw (← view, ← made) refl in
    sym (a ∙ (b ∙ (d ∙ e)))

-- the job of the worker is of a slot of the core

pub has_at :
    (slots : List Slot) (waiting : List ℕ) (workers : List (Option ℕ)) (shut : Bool) (steps : ℕ) (now : CoreState) (worker k : ℕ) (o : Option ℕ)
    → core_state slots waiting workers shut steps ≡ now → worker < length now.workers → o ≡ get_or workers worker o → o ≡ Some k
    → job_of now worker ≡ Some k
has_at slots waiting workers shut steps now worker k o view h there e =
    let h' : worker < length workers = subst (λ (x : CoreState). worker < length x.workers) (sym view) h in
    ap (λ (x : CoreState). job_of x worker) (sym view) ∙ (sym (there ∙ any_default workers worker o None h') ∙ e)

past_end : (slots : List Slot) (k : ℕ) → length slots ≤ k → slot_at slots k ≡ None
past_end [] k h = refl
past_end (s ∷ slots) zero h = absurd (omega (arith, h))
past_end (s ∷ slots) (suc k) h = past_end slots k (omega (arith, h))

below_or : (slots : List Slot) (k : ℕ) (j : JobData) → RunsInSlot (slot_at slots k) j → (b : Bool) → ltb k (length slots) ≡ b → k < length slots
below_or slots k j h true e = ltb-true k (length slots) e
below_or slots k j h false e =
    absurd (subst (λ (s : Slot). RunsInSlot s j) (past_end slots k (ltb-false k (length slots) e)) h)

pub slot_within :
    (slots : List Slot) (waiting : List ℕ) (workers : List (Option ℕ)) (shut : Bool) (steps : ℕ) (now : CoreState) (worker k : ℕ) (finished : job.Finished)
    → core_state slots waiting workers shut steps ≡ now → job_of now worker ≡ Some k → IsOfWorker now worker finished → k < length slots
slot_within slots waiting workers shut steps now worker k finished view has of =
    let e : of.slot ≡ k = cc (sym of.job.of_slot ∙ has) in
    let runs : RunsInSlot (slot_of now k) of.back.job = subst (λ (i : ℕ). RunsInSlot (slot_of now i) of.back.job) e of.job.data_there in
    below_or slots k of.back.job (subst (λ (x : CoreState). RunsInSlot (slot_of x k) of.back.job) (sym view) runs) (ltb k (length slots)) refl

-- A claim

front_is : (ks : List ℕ) (k : ℕ) → jobs.front_of ks ≡ Some k → ks ≡ k ∷ jobs.rest_of ks
front_is [] k e = cc
front_is (x ∷ ks) k e = let f : x ≡ k = cc in ap (λ y. y ∷ ks) f

kept_split : (x k : ℕ) (ks : List ℕ) → filter (λ j. not (j == k)) ks ≡ ks → (b : Bool) → (b || waits ks k) ≡ false → cond (not b) (x ∷ filter (λ j. not (j == k)) ks) (filter (λ j. not (j == k)) ks) ≡ x ∷ ks
kept_split x k ks h true e = absurd (false≢true (sym e))
kept_split x k ks h false e = ap (λ l. x ∷ l) h

rest_split : (b c : Bool) → (b || c) ≡ false → c ≡ false
rest_split true c e = absurd (false≢true (sym e))
rest_split false c e = e

not_there : (ks : List ℕ) (k : ℕ) → waits ks k ≡ false → filter (λ j. not (j == k)) ks ≡ ks
not_there [] k e = refl
not_there (x ∷ ks) k e =
    kept_split x k ks (not_there ks k (rest_split (eqb x k) (waits ks k) e)) (eqb x k) e

claim_slot_at : (core : CoreState) (worker k : ℕ) (s : Slot) → is_claimable s ≡ true → (core_claim_slot core worker k s).device ≡ counted (with_slot (record core { workers = set core.workers worker (Some k) }) k (claimed_slot s)) 1
unfolding is_claimable
claim_slot_at core worker k None e = absurd (false≢true e)
claim_slot_at core worker k (Some c) e = refl

claimed_core :
    (slots : List Slot) (waiting : List ℕ) (workers : List (Option ℕ)) (shut : Bool) (steps k : ℕ) (rest : List ℕ) (old new : Slot) (worker : ℕ) (now : CoreState)
    → core_state slots waiting workers shut steps ≡ now → worker < length now.workers → job_of now worker ≡ None → waiting ≡ k ∷ rest
    → waits rest k ≡ false → slot_of now k ≡ old → is_claimable old ≡ true → new ≡ claimed_slot old → is_claimable new ≡ false
    → core_state (set slots k new) rest (set workers worker (Some k)) shut (steps + 1) ≡ (core_claim now worker).device
unfolding with_slot
claimed_core slots waiting workers shut steps k rest old new worker now view w free front gone here due made taken =
    let there : ltb worker (length now.workers) ≡ true = within worker (length now.workers) w (ltb worker (length now.workers)) refl in
    let front_now : now.waiting ≡ k ∷ rest = ap (λ (x : CoreState). x.waiting) (sym view) ∙ front in
    let first : (core_claim now worker).device ≡ (core_claim_first now worker (k ∷ rest)).device = rw (there, free, front_now) refl in
    let old_there : (core_claim_first now worker (k ∷ rest)).device ≡ (core_claim_slot (record now { waiting = rest }) worker k old).device = ap (λ (s : Slot). (core_claim_slot (record now { waiting = rest }) worker k s).device) here in
    let d = claim_slot_at (record now { waiting = rest }) worker k old due in
    let list : waiting_after rest k (is_claimable new) ≡ rest = ap (waiting_after rest k) taken ∙ not_there rest k gone in
    let e :
    counted (with_slot (record now { waiting = rest; workers = set now.workers worker (Some k) }) k (claimed_slot old)) 1
    ≡ core_state (set slots k new) rest (set workers worker (Some k)) shut (steps + 1) =
    rw (← made, list, ← view) refl in
    sym (first ∙ (old_there ∙ (d ∙ e)))

module _ (slots : List Slot) (list list_new : Jobs) (steps k : ℕ) (old new : Slot) (core : IsCore slots list steps)
    (front : Some k ≡ jobs.front_of list.waiting) (settled : list_new ≡ jobs.with_waiting list (jobs.rest_of list.waiting)) (below : k < list_new.slots)
    (gone : waits list_new.waiting k ≡ false) (there : old ≡ get_or slots k old) where
  pub slot_below : k < length slots
  slot_below =
      let e : list_new.slots ≡ list.slots = ap (λ (l : Jobs). l.slots) settled in
      omega (arith, below, e, core.room)

  old_is : old ≡ slot_at slots k
  old_is = there ∙ any_default slots k old None slot_below

  waiting_is : list.waiting ≡ k ∷ list_new.waiting
  waiting_is =
      front_is list.waiting k (sym front) ∙ ap (λ (ks : List ℕ). k ∷ ks) (sym (ap (λ (l : Jobs). l.waiting) settled))

  pub front_due : is_claimable old ≡ true
  front_due =
      ap is_claimable old_is ∙ core.listed k (ap (λ (ks : List ℕ). waits ks k) waiting_is ∙ front_waits k list_new.waiting)

  pub claim_keeps : IsStepOfSlot old new → IsCore (set slots k new) list_new (steps + 1)
  claim_keeps step =
      record {
        room = length-set slots k new ∙ (core.room ∙ sym (ap (λ (l : Jobs). l.slots) settled));
        listed =
            λ j w.
            let n : j ≡ k → ⊥ = λ (e : j ≡ k). false≢true (sym gone ∙ (ap (waits list_new.waiting) (sym e) ∙ w)) in
            ap is_claimable (other_at slots k j new n) ∙ core.listed j (ap (λ (ks : List ℕ). waits ks j) waiting_is ∙ (sym (behind_front k j list_new.waiting n) ∙ w));
        kept = each_at IsKeptSlot slots k new slot_below step.kept core.kept;
        counted =
            each_at (IsCountedSlot (steps + 1)) slots k new slot_below
            (step.counted steps (subst (IsCountedSlot steps) (sym old_is) (core.counted k)))
            (λ j. more_counted (slot_at slots j) steps (steps + 1) (omega arith) (core.counted j));
      }

  pub claim_steps :
      (workers : List (Option ℕ)) (shut : Bool) (now : CoreState) (worker : ℕ) → core_state slots list.waiting workers shut steps ≡ now
      → worker < length now.workers → job_of now worker ≡ None → new ≡ claimed_slot old → is_claimable new ≡ false
      → core_state (set slots k new) list_new.waiting (set workers worker (Some k)) shut (steps + 1) ≡ (core_claim now worker).device
  claim_steps workers shut now worker view w free made taken =
      let here : slot_of now k ≡ old = ap (λ (x : CoreState). slot_of x k) (sym view) ∙ sym old_is in
      claimed_core slots list.waiting workers shut steps k list_new.waiting old new worker now view w free waiting_is gone here front_due made taken

module _ (slots : List Slot) (list list_new : Jobs) (steps k : ℕ) (old new : Slot) (due : Bool) (h : k < length slots)
    (there : old ≡ get_or slots k old) (is_due : due ≡ is_claimable new)
    (settled : list_new ≡ jobs.with_waiting list (jobs.waiting_after list.waiting k due)) where
  found_there : old ≡ slot_at slots k
  found_there = there ∙ any_default slots k old None h

  waiting_now : list_new.waiting ≡ waiting_after list.waiting k (is_claimable new)
  waiting_now =
      ap (λ (l : Jobs). l.waiting) settled ∙ (same_waiting list.waiting k due ∙ ap (waiting_after list.waiting k) is_due)

  -- the core that is kept, after a step that counts so much
  keeps_at : (count : ℕ) → IsCore slots list steps → IsKeptSlot new → IsCountedSlot (steps + count) new → IsCore (set slots k new) list_new (steps + count)
  keeps_at count core kept n =
      record {
        room = length-set slots k new ∙ (core.room ∙ sym (ap (λ (l : Jobs). l.slots) settled));
        listed = λ j w. listed_at slots list.waiting k new h (λ i n. core.listed i) j (sym (ap (λ (ks : List ℕ). waits ks j) waiting_now) ∙ w);
        kept = each_at IsKeptSlot slots k new h kept core.kept;
        counted = each_at (IsCountedSlot (steps + count)) slots k new h n (λ j. more_counted (slot_at slots j) steps (steps + count) (omega arith) (core.counted j));
      }

  pub call_keeps :
      (count : ℕ) (request : Call) (bytes : List ℕ) (told : Reply) → IsCore slots list steps → IsAnswer old request bytes told new
      → IsStepOfSlot old new → count ≡ steps_of told → IsCore (set slots k new) list_new (steps + count)
  call_keeps count request bytes told core a step e =
      rw e (keeps_at (steps_of told) core step.kept (counted_after old new steps told step (blocked_same old new request bytes told a) (subst (IsCountedSlot steps) (sym found_there) (core.counted k))))

  pub call_steps :
      (workers : List (Option ℕ)) (shut : Bool) (now : CoreState) (count : ℕ) (request : Call) (hold : HoldState) (told : Reply)
      → core_state slots list.waiting workers shut steps ≡ now → IsAnswer old request (handed_over request hold) told new → count ≡ steps_of told
      → IsCall now k request hold told (core_state (set slots k new) list_new.waiting workers shut (steps + count))
  call_steps workers shut now count request hold told view a e =
      rw (e, waiting_now, ← view) (called_at slots list.waiting workers shut steps k request hold told new h (subst (λ (s : Slot). IsAnswer s request (handed_over request hold) told new) found_there a))

  -- A finish

  pub finish_keeps : IsCore slots list steps → IsStepOfSlot old new → IsCore (set slots k new) list_new (steps + 1)
  finish_keeps core step =
      keeps_at 1 core step.kept (step.counted steps (subst (IsCountedSlot steps) (sym found_there) (core.counted k)))

  pub finish_steps :
      (workers : List (Option ℕ)) (shut : Bool) (now : CoreState) (worker k2 : ℕ) (back : BroughtBack) (finished : job.Finished)
      → core_state slots list.waiting workers shut steps ≡ now → job_of now worker ≡ Some k → HasJob now worker k2 back.job → Brings k2 back finished
      → ((i : ℕ) (b : BroughtBack) → RunsInSlot old b.job → Brings i b finished → new ≡ finished_slot old b)
      → core_state (set slots k new) list_new.waiting (set workers worker None) shut (steps + 1) ≡ (core_finish now worker back).device
  finish_steps workers shut now worker k2 back finished view has j b after =
      let e : k2 ≡ k = cc (sym j.of_slot ∙ has) in
      let here : slot_of now k ≡ old = ap (λ (x : CoreState). slot_of x k) (sym view) ∙ sym found_there in
      let runs : RunsInSlot old back.job = subst (λ (s : Slot). RunsInSlot s back.job) here (subst (λ (i : ℕ). RunsInSlot (slot_of now i) back.job) e j.data_there) in
      let made : new ≡ finished_slot old back = after k2 back runs b in
      rw waiting_now (finished_core slots list.waiting workers shut steps k old new worker back now view has here runs made)
