-- Steps of the device keep a desk what it is: each worker's kept job is the one that it has, since a step changes the job of one
-- worker at most, and the data of a running job stay.
use Rattle.std.proofs.Common.{ℕ, zero, suc, ◌≡◌, ◌<◌, ◌≤◌, eqb, nat_lt, Bool, true, false, cond, is_none, is_some, Option, Some, None, List, [], ◌∷◌, ◌++◌}
use Rattle.std.proofs.Common.{length, take, get_or, set, replicate, refl, sym, ap, ◌∙◌, subst, arith, get_or-set_same, get_or-set_other, length-set}
use Rattle.std.proofs.lemmas.Bool.{eqb-true, eqb-false, lt-ltb}
use Rattle.std.proofs.lemmas.List.{length-replicate}
use Rattle.vc_base.specs.declared.Call.{Call}
use Rattle.vc_base.specs.declared.Reply.{Reply}
use Rattle.vc_base.specs.declared.Reply.TheVariants.{Refused}
use Rattle.vc_base.specs.declared.Errno.TheVariants.{NoMem}
use Rattle.vc_base.specs.Device.{DeviceEvent, call, claim, finish}
use Rattle.vc_model.specs.Coder.{the_coder}
use Rattle.vc_model.specs.Context.{Context, Slot, Running}
use Rattle.vc_model.specs.Answer.{answer}
use Rattle.vc_model.specs.Runs.{JobData, finish_word}
use Rattle.vc_model.specs.Solo.{Answered, Claimed, Finished}
use Rattle.vc_model.specs.Devices.{DeviceState, DeviceReply, Told, NoJob, DeviceStep, new_device, slot_of, job_of, with_slot, ignored, call_answered, device_step}
use Rattle.vc_model.specs.Standing.{CoreState, IsDevice, Stands, job_in, job_in_slot, worker_job}
use Rattle.vc_model.specs.Core.{new_core, core_call, core_claim, core_claim_first, core_claim_slot, claimed_job, claimed_in, claimed_first, BroughtBack}
use Rattle.vc_model.specs.Core.{core_finish, core_finish_of, core_finish_slot, core_finish_job, word_of, brought_back, IsGiven}
use Rattle.vc_model.specs.Script.{HasUsedBytes}
use Rattle.vc_model.proofs.CoresStandForDevices.{after-append, new_core_stands, calls_stand, claims_stand, finishes_stand}
use Rattle.vc_model.proofs.CoresAreSound.{cores_are_sound}
use Rattle.vc_model.proofs.SlotsAreIsolated.{closed_at_first}
use Rattle.vc_queue.specs.Holds.{HoldState}
use Rattle.vc_context.specs.Payloads.{FitsSlot, empty_hold, handed_over}
use Rattle.vc_core.specs.Jobs.{IsJobOf, Brings, HasJob, IsOfWorker, RunsInSlot}
use Rattle.vc_core.specs.Steps.{IsCall}
use Rattle.vc_core.specs.declared.job.Job.{Job}
use Rattle.vc_core.specs.declared.job.Finished.{Finished as Brought}
use Rattle.vc_core.proofs.SlotsAnswer.{nothing_held}
use Rattle.vc_core.proofs.JobsOfWorkersAreThere.{jobs_are_there}
use Rattle.vc_desk.specs.Desks.{HasData, after, IsKeptJob, IsAt, filled}
use Rattle.vc_desk.proofs.DeviceJobs.{IsOther, data_stays, worker_stays}
use Rattle.vc_desk.proofs.CallsOnHeldPayloads.{answer_same}

-- The first desk

free_first : (n worker : ℕ) → ◌≡◌ {A = Option ℕ} (get_or (replicate n None) worker None) None
free_first zero worker = refl
free_first (suc n) zero = refl
free_first (suc n) (suc worker) = free_first n worker

no_job : (n worker : ℕ) → ◌≡◌ {A = Option Job} (get_or (replicate n None) worker None) None
no_job zero worker = refl
no_job (suc n) zero = refl
no_job (suc n) (suc worker) = no_job n worker

empty_at : (n k : ℕ) → get_or (replicate n empty_hold) k empty_hold ≡ empty_hold
empty_at zero k = refl
empty_at (suc n) zero = refl
empty_at (suc n) (suc k) = empty_at n k

pub first_desk : (n : ℕ) → n ≤ 1024 → IsAt n [] (new_core n 16) (replicate n empty_hold) (replicate 16 None)
first_desk n few =
    record {
      few = few;
      stands = new_core_stands the_coder n 16 (omega arith);
      slots = length-replicate n None;
      workers = refl;
      users = length-replicate n empty_hold;
      fit = λ k l. subst (λ h. FitsSlot (slot_of (new_core n 16) k) h) (sym (empty_at n k)) (subst (λ s. FitsSlot s empty_hold) (sym (closed_at_first n k)) nothing_held);
      kept_jobs = refl;
      kept = λ worker l. subst (λ o. IsKeptJob (new_device n) worker o) (sym (no_job 16 worker)) (free_first 64 worker);
    }

-- Jobs that are kept

other_kept : (n : ℕ) (history : List DeviceEvent) (worker : ℕ) (e : DeviceEvent) (o : Option Job) → IsOther worker e → IsKeptJob (after n history) worker o → IsKeptJob (device_step the_coder (after n history) e).device worker o
other_kept n history worker e None other k = worker_stays the_coder (after n history) worker e other ∙ k
other_kept n history worker e (Some job) other k =
    (k.0, k.1, data_stays the_coder n history worker k.0 k.1 e other k.2, k.3)

pub kept_next : (n : ℕ) (history : List DeviceEvent) (worker : ℕ) (e : DeviceEvent) (o : Option Job) → IsOther worker e → IsKeptJob (after n history) worker o → IsKeptJob (after n (history ++ e ∷ [])) worker o
kept_next n history worker e o other k =
    subst (λ d. IsKeptJob d worker o) (sym (after-append the_coder (new_device n) history e)) (other_kept n history worker e o other k)

-- The core and the device

get_take : (w : ℕ) (ws : List (Option ℕ)) (k : ℕ) → k < w → get_or (take w ws) k None ≡ get_or ws k None
get_take zero ws k l = absurd (omega arith)
get_take (suc w) [] k l = refl
get_take (suc w) (o ∷ ws) zero l = refl
get_take (suc w) (o ∷ ws) (suc k) l = get_take w ws k (omega arith)

pub worker_same : (core : CoreState) (d : DeviceState) (worker : ℕ) → IsDevice core 16 d → worker < 16 → job_of core worker ≡ job_of d worker
worker_same core d worker is l = ap (λ c. job_of c worker) is.state ∙ get_take 16 d.workers worker l

pub waiting_same : (core : CoreState) (d : DeviceState) → IsDevice core 16 d → core.waiting ≡ d.waiting
waiting_same core d is = ap (λ c. c.waiting) is.state

-- Calls

step_same :
    (core : CoreState) (k : ℕ) (request : Call) (bytes : List ℕ) (hold : HoldState) (found : Bool)
    → answer (slot_of core k) request (handed_over request hold) found ≡ answer (slot_of core k) request bytes found
    → core_call core k request (handed_over request hold) found ≡ core_call core k request bytes found
step_same core k request bytes hold found e =
    ap (λ a. cond (nat_lt k (length core.slots)) (call_answered core k a) (ignored core)) e

slot_apart :
    (core : CoreState) (k i : ℕ) (request : Call) (bytes : List ℕ) (found : Bool) → (i ≡ k → ⊥) → (b : Bool)
    → slot_of (cond b (call_answered core k (answer (slot_of core k) request bytes found)) (ignored core)).device i ≡ slot_of core i
unfolding with_slot
slot_apart core k i request bytes found differs true = get_or-set_other core.slots k i _ None differs
slot_apart core k i request bytes found differs false = refl

fit_at :
    (before now : CoreState) (holds : List HoldState) (k i : ℕ) (hold : HoldState) → k < length holds
    → ((i ≡ k → ⊥) → slot_of now i ≡ slot_of before i) → FitsSlot (slot_of before i) (get_or holds i empty_hold) → FitsSlot (slot_of now k) hold
    → (b : Bool) → eqb k i ≡ b → FitsSlot (slot_of now i) (get_or (set holds k hold) i empty_hold)
fit_at before now holds k i hold l apart f own true e =
    subst (λ y. FitsSlot (slot_of now y) (get_or (set holds k hold) y empty_hold)) (eqb-true k i e) (subst (FitsSlot (slot_of now k)) (sym (get_or-set_same holds k hold empty_hold l)) own)
fit_at before now holds k i hold l apart f own false e =
    let differs = λ (z : i ≡ k). eqb-false k i e (sym z) in
    subst (FitsSlot (slot_of now i)) (sym (get_or-set_other holds k i hold empty_hold differs)) (subst (λ s. FitsSlot s (get_or holds i empty_hold)) (sym (apart differs)) f)

-- what a call came to
pub record CallMade (n : ℕ) (history : List DeviceEvent) (k : ℕ) (request : Call) (bytes : List ℕ) (told : Reply) (now : CoreState) (holds : List HoldState) (jobs : List (Option Job)) (was_handed : List ℕ) : Type 0 where
  pub found : Bool
  pub handed : List ℕ
  pub same_handed : handed ≡ was_handed
  pub want : found ≡ false → told ≡ Refused NoMem
  pub reply : (device_step the_coder (after n history) (call k request bytes found)).reply ≡ Told k (Answered told handed)
  pub at : IsAt n (history ++ call k request bytes found ∷ []) now holds jobs

pub call_made :
    (n : ℕ) (history : List DeviceEvent) (core now : CoreState) (holds : List HoldState) (jobs : List (Option Job)) (k : ℕ) (request : Call) (bytes : List ℕ) (told : Reply) (hold : HoldState)
    → IsAt n history core holds jobs → k < n → HasUsedBytes request bytes
    → (is : IsCall core k request (filled request bytes (get_or holds k empty_hold)) told now) → length now.slots ≡ length core.slots
    → now.workers ≡ core.workers → FitsSlot (slot_of now k) hold → CallMade n history k request bytes told now (set holds k hold) jobs is.handed
call_made n history core now holds jobs k request bytes told hold at l used is size crew fit =
    let sound = cores_are_sound the_coder n 16 core history k at.stands in
    let same = step_same core k request bytes (filled request bytes (get_or holds k empty_hold)) is.found (answer_same (slot_of core k) request bytes (get_or holds k empty_hold) is.found used sound (at.fit k l)) in
    let e = call k request bytes is.found in
    let device : (core_call core k request bytes is.found).device ≡ now = sym (ap (λ s. s.device) same) ∙ is.device in
    let step = calls_stand the_coder n 16 core history k request bytes is.found at.stands in
    record {
      found = is.found;
      handed = is.handed;
      same_handed = refl;
      want = is.want;
      reply = sym step.reply ∙ (sym (ap (λ s. s.reply) same) ∙ is.reply);
      at = record {
        few = at.few;
        stands = subst (λ c. Stands the_coder n 16 c (history ++ e ∷ [])) device step.stands;
        slots = size ∙ at.slots;
        workers = ap length crew ∙ at.workers;
        users = length-set holds k hold ∙ at.users;
        fit =
            λ i m.
            fit_at core now holds k i hold (omega (arith, at.users))
            (λ differs. sym (ap (λ c. slot_of c i) device) ∙ slot_apart core k i request bytes is.found differs (nat_lt k (length core.slots)))
            (at.fit i m) fit (eqb k i) refl;
        kept_jobs = at.kept_jobs;
        kept = λ worker m. kept_next n history worker e (get_or jobs worker None) tt (at.kept worker m);
      };
    }

-- Claims

pub record ClaimTook (n : ℕ) (history : List DeviceEvent) (worker k : ℕ) (now : CoreState) (holds : List HoldState) (jobs : List (Option Job)) (job : Job) : Type 0 where
  pub rest : List ℕ
  pub j : JobData
  pub is_job : IsJobOf k j job
  pub was_free : job_of (after n history) worker ≡ None
  pub waited : (after n history).waiting ≡ k ∷ rest
  pub reply : (device_step the_coder (after n history) (claim worker)).reply ≡ Told k Claimed
  pub at : IsAt n (history ++ claim worker ∷ []) now holds (set jobs worker (Some job))
  pub has : job_of (after n (history ++ claim worker ∷ [])) worker ≡ Some k

pub record ClaimEmpty (n : ℕ) (history : List DeviceEvent) (worker : ℕ) (now : CoreState) (holds : List HoldState) (jobs : List (Option Job)) : Type 0 where
  pub was_free : job_of (after n history) worker ≡ None
  pub waited : (after n history).waiting ≡ []
  pub reply : (device_step the_coder (after n history) (claim worker)).reply ≡ NoJob
  pub at : IsAt n (history ++ claim worker ∷ []) now holds jobs

first_claim : (core : CoreState) (worker : ℕ) → worker < length core.workers → job_of core worker ≡ None → core_claim core worker ≡ core_claim_first core worker core.waiting
first_claim core worker l e =
    ap (λ b. cond b (cond (is_none (job_of core worker)) (core_claim_first core worker core.waiting) (ignored core)) (ignored core)) (lt-ltb worker (length core.workers) l)
    ∙ ap (λ o. cond (is_none o) (core_claim_first core worker core.waiting) (ignored core)) e

-- the core after the claim of slot k
record Fronts (core : CoreState) (worker k : ℕ) (step : DeviceStep) (j : JobData) : Type 0 where
  pub reply : step.reply ≡ Told k Claimed
  pub workers : step.device.workers ≡ set core.workers worker (Some k)

front_is : (core : CoreState) (worker k : ℕ) (rest : List ℕ) (j : JobData) (s : Slot) → slot_of core k ≡ s → claimed_in s ≡ Some j → Fronts core worker k (core_claim_slot (record core { waiting = rest }) worker k s) j
unfolding with_slot
front_is core worker k rest j None e f = absurd (cc)
front_is core worker k rest j (Some c) e f = record { reply = refl; workers = refl }

given_job : (after_claim : DeviceState) (worker k : ℕ) (j : JobData) (r : DeviceReply) (o : Option JobData) → r ≡ Told k Claimed → o ≡ Some j → IsGiven worker after_claim o r → worker_job after_claim worker ≡ Some j
given_job d worker k j r o e f g = subst (λ x. IsGiven worker d o x) e g ∙ f

kept_job :
    (jobs : List (Option Job)) (worker i : ℕ) (o : Option Job) (P : ℕ → Option Job → Type 0) → worker < length jobs → P worker o
    → ((i ≡ worker → ⊥) → P i (get_or jobs i None)) → (b : Bool) → eqb worker i ≡ b → P i (get_or (set jobs worker o) i None)
kept_job jobs worker i o P l own others true e =
    subst (λ y. P y (get_or (set jobs worker o) y None)) (eqb-true worker i e) (subst (P worker) (sym (get_or-set_same jobs worker o None l)) own)
kept_job jobs worker i o P l own others false e =
    let differs = λ (z : i ≡ worker). eqb-false worker i e (sym z) in
    subst (P i) (sym (get_or-set_other jobs worker i o None differs)) (others differs)

pub claim_took :
    (n : ℕ) (history : List DeviceEvent) (core now : CoreState) (holds : List HoldState) (jobs : List (Option Job)) (worker k : ℕ) (rest : List ℕ) (j : JobData) (job : Job)
    → IsAt n history core holds jobs → worker < 16 → job_of core worker ≡ None → core.waiting ≡ k ∷ rest → claimed_job core ≡ Some j
    → IsJobOf k j job → now ≡ (core_claim core worker).device → length now.slots ≡ length core.slots
    → ((i : ℕ) (hold : HoldState) → FitsSlot (slot_of core i) hold → FitsSlot (slot_of now i) hold) → length now.workers ≡ length core.workers
    → ClaimTook n history worker k now holds jobs job
claim_took n history core now holds jobs worker k rest j job at l free waits given is step size keeps crew =
    let l2 : worker < length core.workers = omega (arith, at.workers) in
    let first = first_claim core worker l2 free ∙ ap (core_claim_first core worker) waits in
    let fronts = front_is core worker k rest j (slot_of core k) refl (sym (ap (claimed_first core) waits) ∙ given) in
    let device : now ≡ (core_claim_slot (record core { waiting = rest }) worker k (slot_of core k)).device = step ∙ ap (λ s. s.device) first in
    let stands = claims_stand the_coder n 16 core history worker l at.stands in
    let reply : (core_claim core worker).reply ≡ Told k Claimed = ap (λ s. s.reply) first ∙ fronts.reply in
    let next : Stands the_coder n 16 now (history ++ claim worker ∷ []) = subst (λ c. Stands the_coder n 16 c (history ++ claim worker ∷ [])) (sym step) stands.step.stands in
    let has : job_of (after n (history ++ claim worker ∷ [])) worker ≡ Some k =
    sym (worker_same now (after n (history ++ claim worker ∷ [])) worker next l)
    ∙ (ap (λ c. job_of c worker) device ∙ (ap (λ ws. get_or ws worker None) fronts.workers ∙ get_or-set_same core.workers worker (Some k) None l2)) in
    let there : worker_job (after n (history ++ claim worker ∷ [])) worker ≡ Some j = given_job (after n (history ++ claim worker ∷ [])) worker k j (core_claim core worker).reply (claimed_job core) reply given stands.job in
    let in_slot : job_in (slot_of (after n (history ++ claim worker ∷ [])) k) ≡ Some j = sym (ap (job_in_slot (after n (history ++ claim worker ∷ []))) has) ∙ there in
    record {
      rest = rest;
      j = j;
      is_job = is;
      was_free = sym (worker_same core (after n history) worker at.stands l) ∙ free;
      waited = sym (waiting_same core (after n history) at.stands) ∙ waits;
      reply = sym stands.step.reply ∙ reply;
      has = has;
      at = record {
        few = at.few;
        stands = next;
        slots = size ∙ at.slots;
        workers = crew ∙ at.workers;
        users = at.users;
        fit = λ i m. keeps i (get_or holds i empty_hold) (at.fit i m);
        kept_jobs = length-set jobs worker (Some job) ∙ at.kept_jobs;
        kept =
            λ i m.
            kept_job jobs worker i (Some job) (IsKeptJob (after n (history ++ claim worker ∷ []))) (omega (arith, at.kept_jobs))
            (k, j, record { of_slot = has; data_there = in_slot }, is)
            (λ differs. kept_next n history i (claim worker) (get_or jobs i None) differs (at.kept i m)) (eqb worker i) refl;
      };
    }

pub claim_empty :
    (n : ℕ) (history : List DeviceEvent) (core now : CoreState) (holds : List HoldState) (jobs : List (Option Job)) (worker : ℕ)
    → IsAt n history core holds jobs → worker < 16 → job_of core worker ≡ None → get_or jobs worker None ≡ None → core.waiting ≡ []
    → now ≡ (core_claim core worker).device → ClaimEmpty n history worker now holds jobs
claim_empty n history core now holds jobs worker at l free none waits step =
    let l2 : worker < length core.workers = omega (arith, at.workers) in
    let first = first_claim core worker l2 free ∙ ap (core_claim_first core worker) waits in
    let same : now ≡ core = step ∙ ap (λ s. s.device) first in
    let stands = claims_stand the_coder n 16 core history worker l at.stands in
    let next : Stands the_coder n 16 now (history ++ claim worker ∷ []) = subst (λ c. Stands the_coder n 16 c (history ++ claim worker ∷ [])) (sym step) stands.step.stands in
    let still : job_of (after n (history ++ claim worker ∷ [])) worker ≡ None = sym (worker_same now (after n (history ++ claim worker ∷ [])) worker next l) ∙ (ap (λ c. job_of c worker) same ∙ free) in
    record {
      was_free = sym (worker_same core (after n history) worker at.stands l) ∙ free;
      waited = sym (waiting_same core (after n history) at.stands) ∙ waits;
      reply = sym stands.step.reply ∙ ap (λ s. s.reply) first;
      at = record {
        few = at.few;
        stands = next;
        slots = ap (λ c. length c.slots) same ∙ at.slots;
        workers = ap (λ c. length c.workers) same ∙ at.workers;
        users = at.users;
        fit = λ i m. subst (λ c. FitsSlot (slot_of c i) (get_or holds i empty_hold)) (sym same) (at.fit i m);
        kept_jobs = at.kept_jobs;
        kept = λ i m. kept_empty i (eqb worker i) refl (at.kept i m) still;
      };
    }
  where
    kept_empty :
        (i : ℕ) (b : Bool) → eqb worker i ≡ b → IsKeptJob (after n history) i (get_or jobs i None)
        → job_of (after n (history ++ claim worker ∷ [])) worker ≡ None → IsKeptJob (after n (history ++ claim worker ∷ [])) i (get_or jobs i None)
    kept_empty i true e k still =
        subst (λ y. IsKeptJob (after n (history ++ claim worker ∷ [])) y (get_or jobs y None)) (eqb-true worker i e) (subst (IsKeptJob (after n (history ++ claim worker ∷ [])) worker) (sym none) still)
    kept_empty i false e k still =
        kept_next n history i (claim worker) (get_or jobs i None) (λ (z : i ≡ worker). eqb-false worker i e (sym z)) k

-- Finishes

pub finish_is_of :
    (n : ℕ) (history : List DeviceEvent) (core : CoreState) (holds : List HoldState) (jobs : List (Option Job)) (worker k : ℕ) (j : JobData) (finished : Brought) (fault : Bool)
    → IsAt n history core holds jobs → worker < 16 → HasData (after n history) worker k j → Brings k (brought_back the_coder j fault) finished
    → HasJob core worker k j
finish_is_of n history core holds jobs worker k j finished fault at l h b =
    jobs_are_there the_coder n 16 core history worker k j at.stands (worker_same core (after n history) worker at.stands l ∙ h.of_slot) (ap (job_in_slot (after n history)) h.of_slot ∙ h.data_there)

pub is_of_worker : (core : CoreState) (worker k : ℕ) (back : BroughtBack) (finished : Brought) → HasJob core worker k back.job → Brings k back finished → IsOfWorker core worker finished
is_of_worker core worker k back finished h b = record { slot = k; back = back; job = h; brings = b }

-- the core after the finish of the job of slot k
record Ends (core : CoreState) (worker k : ℕ) (back : BroughtBack) (step : DeviceStep) : Type 0 where
  pub reply : step.reply ≡ Told k (Finished (word_of back))
  pub workers : step.device.workers ≡ set core.workers worker None

job_ends :
    (core : CoreState) (worker k : ℕ) (c : Context) (j : JobData) (fault : Bool) → (o : Option Running) → is_some o ≡ true
    → Ends core worker k (brought_back the_coder j fault) (core_finish_job core worker k c o (brought_back the_coder j fault))
unfolding with_slot
job_ends core worker k c j fault None p = absurd (cc)
job_ends core worker k c j fault (Some r) p = record { reply = refl; workers = refl }

slot_ends : (core : CoreState) (worker k : ℕ) (j : JobData) (fault : Bool) (s : Slot) → RunsInSlot s j → Ends core worker k (brought_back the_coder j fault) (core_finish_slot core worker k s (brought_back the_coder j fault))
slot_ends core worker k j fault None h = absurd h
slot_ends core worker k j fault (Some c) h = job_ends core worker k c j fault c.running h.running

pub same_word : (j : JobData) (fault : Bool) → word_of (brought_back the_coder j fault) ≡ finish_word the_coder j fault
unfolding finish_word
same_word j true = refl
same_word j false = refl

-- what a finish came to
pub record FinishMade (n : ℕ) (history : List DeviceEvent) (worker k : ℕ) (j : JobData) (fault : Bool) (now : CoreState) (holds : List HoldState) (jobs : List (Option Job)) : Type 0 where
  pub had : job_of (after n history) worker ≡ Some k
  pub reply : (device_step the_coder (after n history) (finish worker fault)).reply ≡ Told k (Finished (finish_word the_coder j fault))
  pub at : IsAt n (history ++ finish worker fault ∷ []) now holds (set jobs worker None)

pub finish_made :
    (n : ℕ) (history : List DeviceEvent) (core now : CoreState) (holds : List HoldState) (jobs : List (Option Job)) (worker k : ℕ) (j : JobData) (fault : Bool)
    → IsAt n history core holds jobs → worker < 16 → HasData (after n history) worker k j → HasJob core worker k j
    → now ≡ (core_finish core worker (brought_back the_coder j fault)).device → length now.slots ≡ length core.slots
    → ((i : ℕ) (hold : HoldState) → FitsSlot (slot_of core i) hold → FitsSlot (slot_of now i) hold) → length now.workers ≡ length core.workers
    → FinishMade n history worker k j fault now holds jobs
finish_made n history core now holds jobs worker k j fault at l given has step size keeps crew =
    let back = brought_back the_coder j fault in
    let l2 : worker < length core.workers = omega (arith, at.workers) in
    let first : core_finish core worker back ≡ core_finish_slot core worker k (slot_of core k) back = ap (λ o. core_finish_of core worker o back) has.of_slot in
    let ends = slot_ends core worker k j fault (slot_of core k) has.data_there in
    let device : now ≡ (core_finish_slot core worker k (slot_of core k) back).device = step ∙ ap (λ s. s.device) first in
    let stands = finishes_stand the_coder n 16 core history worker j fault (ap (job_in_slot (after n history)) given.of_slot ∙ given.data_there) at.stands in
    let next : Stands the_coder n 16 now (history ++ finish worker fault ∷ []) = subst (λ c. Stands the_coder n 16 c (history ++ finish worker fault ∷ [])) (sym step) stands.stands in
    let free : job_of (after n (history ++ finish worker fault ∷ [])) worker ≡ None =
    sym (worker_same now (after n (history ++ finish worker fault ∷ [])) worker next l)
    ∙ (ap (λ c. job_of c worker) device ∙ (ap (λ ws. get_or ws worker None) ends.workers ∙ get_or-set_same core.workers worker None None l2)) in
    record {
      had = given.of_slot;
      reply = sym stands.reply ∙ (ap (λ s. s.reply) first ∙ (ends.reply ∙ ap (λ w. Told k (Finished w)) (same_word j fault)));
      at = record {
        few = at.few;
        stands = next;
        slots = size ∙ at.slots;
        workers = crew ∙ at.workers;
        users = at.users;
        fit = λ i m. keeps i (get_or holds i empty_hold) (at.fit i m);
        kept_jobs = length-set jobs worker None ∙ at.kept_jobs;
        kept =
            λ i m.
            kept_job jobs worker i None (IsKeptJob (after n (history ++ finish worker fault ∷ []))) (omega (arith, at.kept_jobs)) free
            (λ differs. kept_next n history i (finish worker fault) (get_or jobs i None) differs (at.kept i m)) (eqb worker i) refl;
      };
    }

-- a desk after another history that comes to the same device
pub same_at : (n : ℕ) (h g : List DeviceEvent) (core : CoreState) (holds : List HoldState) (jobs : List (Option Job)) → after n h ≡ after n g → IsAt n h core holds jobs → IsAt n g core holds jobs
same_at n h g core holds jobs e at =
    record {
      few = at.few;
      stands = subst (λ d. IsDevice core 16 d) e at.stands;
      slots = at.slots;
      workers = at.workers;
      users = at.users;
      fit = at.fit;
      kept_jobs = at.kept_jobs;
      kept = λ worker l. subst (λ d. IsKeptJob d worker (get_or jobs worker None)) e (at.kept worker l);
    }
