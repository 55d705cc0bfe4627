-- What a claim and a finish by a worker come to. The core in the turn stands for the history, so a claim takes the job that the
-- device gives there, and a finish brings back the one that the worker has had since its claim; each is one entry more.
use Rattle.std.proofs.Common.{ℕ, zero, suc, ◌≡◌, ◌<◌, ◌+◌, ◌-◌, ◌==◌, nat_lt, Bool, true, false, cond, is_none, Option, Some, None, List, [], ◌∷◌, ◌++◌, length, take, get_or, refl, sym, ap, ◌∙◌, subst, arith, get_or-set_same}
use Rattle.std.specs.Option.{option_map}
use Rattle.std.proofs.lemmas.List.{length-map, length-take}
use Rattle.std.proofs.lemmas.Bool.{lt-ltb, le-ltb}
use Rattle.std.proofs.lemmas.Bool.Decides.{nat_tests}
use Rattle.vc_base.specs.Device.{claim, finish}
use Rattle.vc_model.specs.Coder.{the_coder}
use Rattle.vc_model.specs.Context.{Context, Slot, Running}
use Rattle.vc_model.specs.Runs.{JobData, job_data, finish_word}
use Rattle.vc_model.specs.Solo.{Claimed, Finished}
use Rattle.vc_model.specs.Devices.{DeviceState, DeviceReply, Told, slot_of, job_of, with_slot, ignored, claim_slot, claim_first, finish_of, finish_slot, finish_job, device_step}
use Rattle.vc_model.specs.Standing.{CoreState, Stands, core_slot, job_in, worker_job}
use Rattle.vc_model.specs.Core.{core_claim, core_claim_first, claimed_in, claimed_first, claimed_job, IsGiven, core_finish, brought_back, BroughtBack}
use Rattle.vc_model.specs.Seats.{handle_of, worker_of, may_add, steps_at}
use Rattle.vc_model.proofs.CoresStandForDevices.{claims_stand, finishes_stand}
use Rattle.vc_model.proofs.HistoriesGrow.{shuts_are_seen}
use Rattle.vc_turn.specs.declared.rule.Noted.{Noted}
use Rattle.vc_turn.specs.Place.{Place}
use Rattle.vc_turn.specs.History.{places}
use Rattle.vc_core.specs.declared.job.Job.{Job}
use Rattle.vc_core.specs.declared.job.Finished.{Finished as Brought}
use Rattle.vc_core.specs.Jobs.{IsJobOf, IsClaim, Brings, HasJob, IsOfWorker, is_fault}
use Rattle.vc_core.proofs.JobsOfWorkersAreThere.{jobs_are_there}
use Rattle.vc_shared.specs.declared.held.Sizes.{Sizes}
use Rattle.vc_shared.specs.Histories.{after, events_of, owner_of, IsLog, StandsForLog}
use Rattle.vc_shared.specs.Handles.{IsAtRest}
use Rattle.vc_shared.specs.Workers.{WorkerState, worker_at, IsWorker, IsWorkerSeat}
use Rattle.vc_shared.specs.Claiming.{nothing_claimed}
use Rattle.vc_shared.specs.Claims.{IsClaim as Claim, ClaimsJob, ClaimsNone, IsOfItsJob, FinishesJob}
use Rattle.vc_shared.proofs.EntriesAreOwned.{entry, events-append, longer_log, own_steps, prefix_events}
use Rattle.vc_shared.proofs.SeatsAfterTurns.{ended, looked, IsInTurn, same_entries, rests_after_note, rests_after_look}
use Rattle.vc_shared.proofs.CallsByHandle.{after_event, core_slot_is}
use Rattle.vc_shared.proofs.JobsStayToFinish.{HasData}
use Rattle.vc_shared.proofs.WorkerKeepsJob.{job_later, data_later, has_data, data_of}

-- Whose the entries are

past_slots : (slots worker : ℕ) → nat_lt (slots + worker) slots ≡ false
past_slots slots worker = le-ltb (slots + worker) slots (omega arith)

back : (slots worker : ℕ) → (slots + worker) - slots ≡ worker
back slots worker = omega arith

same : (i : ℕ) → (i == i) ≡ true
same i = grind (arith, nat_tests)

owner_is : (slots worker : ℕ) → owner_of slots (slots + worker) ≡ worker_of worker
owner_is slots worker =
    ap (λ b. cond b (handle_of (slots + worker)) (worker_of ((slots + worker) - slots))) (past_slots slots worker) ∙ ap worker_of (back slots worker)

may_claim : (slots worker : ℕ) → may_add (owner_of slots (slots + worker)) (claim worker) ≡ true
may_claim slots worker = ap (λ o. may_add o (claim worker)) (owner_is slots worker) ∙ same worker

may_finish : (slots worker : ℕ) (fault : Bool) → may_add (owner_of slots (slots + worker)) (finish worker fault) ≡ true
may_finish slots worker fault = ap (λ o. may_add o (finish worker fault)) (owner_is slots worker) ∙ same worker

-- the claims and finishes of the worker are the entries of its seat
steps_are_own : (slots workers worker : ℕ) (p : Place) → IsAtRest (slots + worker) (slots + workers) slots p → steps_at worker (events_of p.seen) ≡ p.mine
steps_are_own slots workers worker p r =
    own_steps slots worker p.seen r.entries.own ∙ (ap (λ k. places k p.seen) (sym r.numbered) ∙ r.places)

pub is_worker : (p : Place) (sizes : Sizes) (worker : ℕ) (over : Bool) → IsWorkerSeat p sizes worker → IsWorker (worker_at p sizes worker over)
is_worker p sizes worker over s =
    record { within = s.within; history = s.rest.entries.steps; own = steps_are_own sizes.slots sizes.workers worker p s.rest }

-- The core and the device

get_take : (w : ℕ) (ws : List (Option ℕ)) (k : ℕ) → k < w → get_or (take w ws) k None ≡ get_or ws k None
get_take zero ws k l = absurd (omega arith)
get_take (suc w) [] k l = refl
get_take (suc w) (o ∷ ws) zero l = refl
get_take (suc w) (o ∷ ws) (suc k) l = get_take w ws k (omega arith)

-- the worker of the core has the job that it has in the device
pub worker_is : (slots workers worker : ℕ) (core : CoreState) (log : List Noted) → StandsForLog slots workers core log → worker < workers → job_of core worker ≡ job_of (after slots (events_of log)) worker
worker_is slots workers worker core log s l =
    ap (λ c. job_of c worker) s.stands.state ∙ get_take workers (after slots (events_of log)).workers worker l

-- the device has the worker
worker_there : (slots workers worker : ℕ) (core : CoreState) (log : List Noted) → StandsForLog slots workers core log → worker < workers → worker < length (after slots (events_of log)).workers
worker_there slots workers worker core log s l =
    let d = after slots (events_of log) in
    let n : length (take workers d.workers) ≡ workers = sym (ap (λ c. length c.workers) s.stands.state) ∙ s.worker_count in
    omega (arith, n, l, length-take workers d.workers)

waiting_is : (slots workers : ℕ) (core : CoreState) (log : List Noted) → StandsForLog slots workers core log → core.waiting ≡ (after slots (events_of log)).waiting
waiting_is slots workers core log s = ap (λ c. c.waiting) s.stands.state

-- Claims

record Takes (d : DeviceState) (worker k : ℕ) : Type 0 where
  pub reply : (device_step the_coder d (claim worker)).reply ≡ Told k Claimed
  pub steps : (device_step the_coder d (claim worker)).device.steps ≡ d.steps + 1
  pub has : job_of (device_step the_coder d (claim worker)).device worker ≡ Some k

takes : (d : DeviceState) (worker k : ℕ) (rest : List ℕ) (c : Context) → worker < length d.workers → job_of d worker ≡ None → d.waiting ≡ k ∷ rest → slot_of d k ≡ Some c → Takes d worker k
unfolding device_step with_slot
takes d worker k rest c l free waits is =
    let e : device_step the_coder d (claim worker) ≡ claim_slot (record d { waiting = rest }) worker k (Some c) = ap
    (λ b. cond b (cond (is_none (job_of d worker)) (claim_first d worker d.waiting) (ignored d)) (ignored d)) (lt-ltb worker (length d.workers) l)
    ∙ (ap (λ o. cond (is_none o) (claim_first d worker d.waiting) (ignored d)) free ∙ (ap (claim_first d worker) waits ∙ ap (claim_slot (record d { waiting = rest }) worker k) is)) in
    record {
      reply = ap (λ s. s.reply) e;
      steps = ap (λ s. s.device.steps) e;
      has = ap (λ s. job_of s.device worker) e ∙ get_or-set_same d.workers worker (Some k) None l;
    }

-- the front slot of a core that gives a job is open
front_open : (s : Slot) (o : Option Context) (j : JobData) → s ≡ core_slot o → claimed_in s ≡ Some j → (c : Context) × (o ≡ Some c)
front_open s None j e f = let z = ap claimed_in (sym e) ∙ f in absurd (cc)
front_open s (Some c) j e f = (c, refl)

record Gives (core : CoreState) (job : Job) : Type 0 where
  pub k : ℕ
  pub rest : List ℕ
  pub j : JobData
  pub waits : core.waiting ≡ k ∷ rest
  pub claimed : claimed_job core ≡ Some j
  pub is_of : IsJobOf k j job

gives : (core : CoreState) (job : Job) (waiting : List ℕ) (o : Option JobData) → core.waiting ≡ waiting → claimed_job core ≡ o → IsClaim waiting o (Some job) → Gives core job
gives core job [] o e f h = absurd h
gives core job (k ∷ rest) None e f h = absurd h
gives core job (k ∷ rest) (Some j) e f h = record { k = k; rest = rest; j = j; waits = e; claimed = f; is_of = h }

gives_none : (waiting : List ℕ) (o : Option JobData) → IsClaim waiting o None → waiting ≡ []
gives_none [] o h = refl
gives_none (k ∷ rest) None h = absurd h
gives_none (k ∷ rest) (Some j) h = absurd h

given_job : (d : DeviceState) (worker k : ℕ) (j : JobData) (r : DeviceReply) (o : Option JobData) → r ≡ Told k Claimed → o ≡ Some j → IsGiven worker d o r → worker_job d worker ≡ Some j
given_job d worker k j r o e f g = subst (λ x. IsGiven worker d o x) e g ∙ f

-- the worker has no job in the core
pub free_in_core : (p : Place) (sizes : Sizes) (worker : ℕ) (log : List Noted) (core : CoreState) → IsWorkerSeat p sizes worker → job_of (after sizes.slots (events_of p.seen)) worker ≡ None → IsInTurn sizes.slots sizes.workers p core log → job_of core worker ≡ None
free_in_core p sizes worker log core seat idle t =
    let n = sizes.slots in
    let w = sizes.workers in
    worker_is n w worker core log t.core_stands seat.within ∙ (job_later n worker p.seen log t.seen t.core_stands.entries.own (same_entries (n + worker) (n + w) n w p core log seat.rest t) ∙ idle)

-- What a claim that gives a job comes to.
pub record ClaimMade (p : Place) (sizes : Sizes) (worker ticket : ℕ) (log : List Noted) (core' : CoreState) (job : Job) (was over : Bool) : Type 0 where
  pub put : StandsForLog sizes.slots sizes.workers core' (log ++ entry (sizes.slots + worker) (claim worker) ∷ [])
  pub seat : IsWorkerSeat (ended p log ticket (claim worker)) sizes worker
  pub claims : ClaimsJob (worker_at p sizes worker was) (worker_at (ended p log ticket (claim worker)) sizes worker over) job

pub claim_made : (p : Place) (sizes : Sizes) (worker ticket : ℕ) (log : List Noted) (core core' : CoreState) (job : Job) (was over : Bool) → IsWorkerSeat p sizes worker
    → job_of (after sizes.slots (events_of p.seen)) worker ≡ None → IsInTurn sizes.slots sizes.workers p core log → core' ≡ (core_claim core worker).device
    → IsClaim core.waiting (claimed_job core) (Some job) → length core'.slots ≡ length core.slots → length core'.workers ≡ length core.workers
    → ClaimMade p sizes worker ticket log core' job was over
claim_made p sizes worker ticket log core core' job was over seat idle t is given size crew =
    let n = sizes.slots in
    let w = sizes.workers in
    let number = n + worker in
    let e = claim worker in
    let d = after n (events_of log) in
    let d' = (device_step the_coder d e).device in
    let longer = log ++ entry number e ∷ [] in
    let stands = t.core_stands in
    let free : job_of d worker ≡ None = job_later n worker p.seen log t.seen stands.entries.own (same_entries number (n + w) n w p core log seat.rest t) ∙ idle in
    let g = gives core job core.waiting (claimed_job core) refl refl given in
    let open_slot = front_open (slot_of core g.k) (slot_of d g.k) g.j (core_slot_is n w g.k core (events_of log) stands.stands) (sym (ap (claimed_first core) g.waits) ∙ g.claimed) in
    let took = takes d worker g.k g.rest open_slot.0 (worker_there n w worker core log stands seat.within) free (sym (waiting_is n w core log stands) ∙ g.waits) open_slot.1 in
    let made = claims_stand the_coder n w core (events_of log) worker seat.within stands.stands in
    let told : (core_claim core worker).reply ≡ Told g.k Claimed = made.step.reply ∙ took.reply in
    let entries : IsLog n longer = longer_log n number log e stands.entries (may_claim n worker) took.steps in
    let rest = rests_after_note number (n + w) n w ticket p core log e seat.rest t entries in
    let q = ended p log ticket e in
    let seen : q.seen ≡ longer = ap (λ k. log ++ entry k e ∷ []) seat.rest.numbered in
    let now : after n (events_of q.seen) ≡ d' = ap (λ l. after n (events_of l)) seen ∙ after_event n log number e in
    let job_there : worker_job d' worker ≡ Some g.j = given_job d' worker g.k g.j (core_claim core worker).reply (claimed_job core) told g.claimed
    (subst (λ x. IsGiven worker x (claimed_job core) (core_claim core worker).reply) (ap (after n) (sym (events-append log (entry number e ∷ []))) ∙ after_event n log number e) made.job) in
    record {
      put = record {
        stands = subst (Stands the_coder n w core') (sym (events-append log (entry number e ∷ []))) (subst (λ c. Stands the_coder n w c (events_of log ++ e ∷ [])) (sym is) made.step.stands);
        entries = entries;
        slot_count = size ∙ stands.slot_count;
        worker_count = crew ∙ stands.worker_count;
      };
      seat = record { rest = rest; within = seat.within; few = seat.few };
      claims = record {
        slot = g.k;
        job = g.j;
        claimed = record {
          adds = record {
            before = events_of log;
            seen = prefix_events p.seen log t.seen;
            added = events-append log (entry p.number e ∷ []);
            mine = ap (λ i. p.mine ++ i ∷ []) (sym (length-map log (λ (x : Noted). x.event)));
          };
          own = steps_are_own n w worker q rest;
          history = rest.entries.steps;
          told = took.reply;
          data_of_job = ap (λ x. worker_job x worker) now ∙ job_there;
        };
        is_of = g.is_of;
        had = ap (λ x. job_of x worker) now ∙ took.has;
        given = ap (λ x. worker_job x worker) now ∙ job_there;
      };
    }

-- What a claim that finds nothing comes to: the core is as it was.
pub record ClaimEmpty (p : Place) (sizes : Sizes) (worker ticket : ℕ) (log : List Noted) (core' : CoreState) (was over shut : Bool) : Type 0 where
  pub put : StandsForLog sizes.slots sizes.workers core' log
  pub seat : IsWorkerSeat (looked p log ticket) sizes worker
  pub finds : ClaimsNone (worker_at p sizes worker was) (worker_at (looked p log ticket) sizes worker over) shut

first_claim : (core : CoreState) (worker : ℕ) → worker < length core.workers → job_of core worker ≡ None → core_claim core worker ≡ core_claim_first core worker core.waiting
first_claim core worker l e =
    ap (λ b. cond b (cond (is_none (job_of core worker)) (core_claim_first core worker core.waiting) (ignored core)) (ignored core)) (lt-ltb worker (length core.workers) l) ∙ ap (λ o. cond (is_none o) (core_claim_first core worker core.waiting) (ignored core)) e

pub claim_empty : (p : Place) (sizes : Sizes) (worker ticket : ℕ) (log : List Noted) (core core' : CoreState) (was over shut : Bool) → IsWorkerSeat p sizes worker
    → job_of (after sizes.slots (events_of p.seen)) worker ≡ None → IsInTurn sizes.slots sizes.workers p core log → core' ≡ (core_claim core worker).device
    → IsClaim core.waiting (claimed_job core) None → core'.is_shut ≡ shut → ClaimEmpty p sizes worker ticket log core' was over shut
claim_empty p sizes worker ticket log core core' was over shut seat idle t is given mark =
    let n = sizes.slots in
    let w = sizes.workers in
    let number = n + worker in
    let d = after n (events_of log) in
    let stands = t.core_stands in
    let free : job_of d worker ≡ None = job_later n worker p.seen log t.seen stands.entries.own (same_entries number (n + w) n w p core log seat.rest t) ∙ idle in
    let waits : core.waiting ≡ [] = gives_none core.waiting (claimed_job core) given in
    let same_core : core' ≡ core = is ∙ (ap (λ s. s.device) (first_claim core worker (let c = stands.worker_count in let l = seat.within in omega arith) (worker_is n w worker core log stands seat.within ∙ free)) ∙ ap (λ l. (core_claim_first core worker l).device) waits) in
    let rest = rests_after_look number (n + w) n w ticket p core log seat.rest t in
    record {
      put = subst (λ c. StandsForLog n w c log) (sym same_core) stands;
      seat = record { rest = rest; within = seat.within; few = seat.few };
      finds = record {
        nothing = record {
          looks = record { seen = prefix_events p.seen log t.seen; mine = refl };
          own = steps_are_own n w worker (looked p log ticket) rest;
          history = stands.entries.steps;
          empty = sym (waiting_is n w core log stands) ∙ waits;
          shut = sym (shuts_are_seen the_coder n (events_of log)) ∙ (sym (ap (λ c. c.is_shut) stands.stands.state) ∙ (sym (ap (λ c. c.is_shut) same_core) ∙ mark));
        };
        free = free;
      };
    }

-- Finishes

record Ends (d : DeviceState) (worker k : ℕ) (j : JobData) (fault : Bool) : Type 0 where
  pub reply : (device_step the_coder d (finish worker fault)).reply ≡ Told k (Finished (finish_word the_coder j fault))
  pub steps : (device_step the_coder d (finish worker fault)).device.steps ≡ d.steps + 1
  pub free : job_of (device_step the_coder d (finish worker fault)).device worker ≡ None

has_worker : (ws : List (Option ℕ)) (worker k : ℕ) → get_or ws worker None ≡ Some k → worker < length ws
has_worker [] worker k e = absurd (cc)
has_worker (o ∷ ws) zero k e = omega arith
has_worker (o ∷ ws) (suc worker) k e = let h = has_worker ws worker k e in omega arith

job_ends : (d : DeviceState) (worker k : ℕ) (j : JobData) (fault : Bool) (c : Context) (o : Option Running) → option_map (job_data c) o ≡ Some j → worker < length d.workers → device_step the_coder d (finish worker fault) ≡ finish_job the_coder d worker k c o fault → Ends d worker k j fault
unfolding with_slot
job_ends d worker k j fault c None e l is = absurd (cc)
job_ends d worker k j fault c (Some r) e l is =
    let z : job_data c r ≡ j = cc in
    record {
      reply = ap (λ s. s.reply) is ∙ ap (λ x. Told k (Finished (finish_word the_coder x fault))) z;
      steps = ap (λ s. s.device.steps) is;
      free = ap (λ s. job_of s.device worker) is ∙ get_or-set_same d.workers worker None None l;
    }

slot_ends : (d : DeviceState) (worker k : ℕ) (j : JobData) (fault : Bool) (s : Slot) → job_in s ≡ Some j → worker < length d.workers → device_step the_coder d (finish worker fault) ≡ finish_slot the_coder d worker k s fault → Ends d worker k j fault
slot_ends d worker k j fault None e l is = absurd (cc)
slot_ends d worker k j fault (Some c) e l is = job_ends d worker k j fault c c.running e l is

ends : (d : DeviceState) (worker k : ℕ) (j : JobData) (fault : Bool) → HasData d worker k j → Ends d worker k j fault
unfolding device_step
ends d worker k j fault h =
    slot_ends d worker k j fault (slot_of d k) h.data_there (has_worker d.workers worker k h.of_slot) (ap (λ o. finish_of the_coder d worker o fault) h.of_slot)

-- the worker still has its job in the device
still_has : (p : Place) (sizes : Sizes) (worker : ℕ) (over : Bool) (log : List Noted) (core : CoreState) (finished : Brought) → IsWorkerSeat p sizes worker
    → IsInTurn sizes.slots sizes.workers p core log → (h : IsOfItsJob (worker_at p sizes worker over) finished)
    → HasData (after sizes.slots (events_of log)) worker h.slot h.job
still_has p sizes worker over log core finished seat t h =
    let n = sizes.slots in
    data_later n worker h.slot h.job p.seen log t.seen t.core_stands.entries.own (same_entries (n + worker) (n + sizes.workers) n sizes.workers p core log seat.rest t) (has_data _ worker h.slot h.job h.had h.given)

-- and in the core
has_in_core : (p : Place) (sizes : Sizes) (worker : ℕ) (over : Bool) (log : List Noted) (core : CoreState) (finished : Brought) → IsWorkerSeat p sizes worker → IsInTurn sizes.slots sizes.workers p core log → (h : IsOfItsJob (worker_at p sizes worker over) finished) → HasJob core worker h.slot h.job
has_in_core p sizes worker over log core finished seat t h =
    let n = sizes.slots in
    let w = sizes.workers in
    let has = still_has p sizes worker over log core finished seat t h in
    jobs_are_there the_coder n w core (events_of log) worker h.slot h.job t.core_stands.stands (worker_is n w worker core log t.core_stands seat.within ∙ has.of_slot) (data_of (after n (events_of log)) worker h.slot h.job has)

-- what is brought back is of the job that the worker of the core has
pub is_of_worker : (p : Place) (sizes : Sizes) (worker : ℕ) (over : Bool) (log : List Noted) (core : CoreState) (finished : Brought) → IsWorkerSeat p sizes worker → IsInTurn sizes.slots sizes.workers p core log → IsOfItsJob (worker_at p sizes worker over) finished → IsOfWorker core worker finished
is_of_worker p sizes worker over log core finished seat t h =
    record {
      slot = h.slot;
      back = brought_back the_coder h.job (is_fault finished);
      job = has_in_core p sizes worker over log core finished seat t h;
      brings = h.brings;
    }

pub record FinishMade (p : Place) (sizes : Sizes) (worker ticket : ℕ) (log : List Noted) (core' : CoreState) (fault over : Bool) : Type 0 where
  pub put : StandsForLog sizes.slots sizes.workers core' (log ++ entry (sizes.slots + worker) (finish worker fault) ∷ [])
  pub seat : IsWorkerSeat (ended p log ticket (finish worker fault)) sizes worker
  pub finishes : FinishesJob (worker_at p sizes worker over) (worker_at (ended p log ticket (finish worker fault)) sizes worker over) fault

pub finish_made : (p : Place) (sizes : Sizes) (worker ticket : ℕ) (over : Bool) (log : List Noted) (core core' : CoreState) (finished : Brought)
    → IsWorkerSeat p sizes worker → IsInTurn sizes.slots sizes.workers p core log → IsOfItsJob (worker_at p sizes worker over) finished
    → ((k : ℕ) (back : BroughtBack) → HasJob core worker k back.job → Brings k back finished → core' ≡ (core_finish core worker back).device)
    → length core'.slots ≡ length core.slots → length core'.workers ≡ length core.workers → FinishMade p sizes worker ticket log core' (is_fault finished) over
finish_made p sizes worker ticket over log core core' finished seat t h step size crew =
    let n = sizes.slots in
    let w = sizes.workers in
    let number = n + worker in
    let fault = is_fault finished in
    let e = finish worker fault in
    let d = after n (events_of log) in
    let longer = log ++ entry number e ∷ [] in
    let stands = t.core_stands in
    let data_now = still_has p sizes worker over log core finished seat t h in
    let is : core' ≡ (core_finish core worker (brought_back the_coder h.job fault)).device = step h.slot (brought_back the_coder h.job fault) (has_in_core p sizes worker over log core finished seat t h) h.brings in
    let made = finishes_stand the_coder n w core (events_of log) worker h.job fault (data_of d worker h.slot h.job data_now) stands.stands in
    let end = ends d worker h.slot h.job fault data_now in
    let entries : IsLog n longer = longer_log n number log e stands.entries (may_finish n worker fault) end.steps in
    let rest = rests_after_note number (n + w) n w ticket p core log e seat.rest t entries in
    let q = ended p log ticket e in
    let seen : q.seen ≡ longer = ap (λ k. log ++ entry k e ∷ []) seat.rest.numbered in
    let now : after n (events_of q.seen) ≡ (device_step the_coder d e).device = ap (λ l. after n (events_of l)) seen ∙ after_event n log number e in
    record {
      put = record {
        stands = subst (Stands the_coder n w core') (sym (events-append log (entry number e ∷ []))) (subst (λ c. Stands the_coder n w c (events_of log ++ e ∷ [])) (sym is) made.stands);
        entries = entries;
        slot_count = size ∙ stands.slot_count;
        worker_count = crew ∙ stands.worker_count;
      };
      seat = record { rest = rest; within = seat.within; few = seat.few };
      finishes = record {
        slot = h.slot;
        job = h.job;
        had = h.had;
        given = h.given;
        finished = record {
          adds = record {
            before = events_of log;
            seen = prefix_events p.seen log t.seen;
            added = events-append log (entry p.number e ∷ []);
            mine = ap (λ i. p.mine ++ i ∷ []) (sym (length-map log (λ (x : Noted). x.event)));
          };
          own = steps_are_own n w worker q rest;
          history = rest.entries.steps;
          told = end.reply;
        };
        free = ap (λ x. job_of x worker) now ∙ end.free;
      };
    }

-- what a claim comes to that finds nothing
pub nothing_is : (old new : WorkerState) (shut : Bool) → ClaimsNone old new shut → Claim old new (nothing_claimed shut)
nothing_is old new true h = h
nothing_is old new false h = h
