-- How what a port and a station remember grows: the answered calls of a handle, and the claims and finishes of a worker. They are
-- read off the events of the seat, to which an answered call, a claim or a finish adds one, and nothing else any.
use Rattle.std.proofs.Common.{ℕ, ◌≡◌, ◌+◌, ◌==◌, Bool, true, false, cond, Option, Some, None, List, [], ◌∷◌, ◌++◌, length, refl, sym, ap, ◌∙◌, subst, arith, append_assoc, append-nil, length-append}
use Rattle.std.proofs.lemmas.Bool.{false≢true}
use Rattle.std.proofs.lemmas.Bool.Decides.{nat_tests}
use mathlib.Core.List.{IsPrefix}
use Rattle.vc_base.specs.declared.Call.{Call}
use Rattle.vc_base.specs.declared.Reply.{Reply}
use Rattle.vc_base.specs.declared.Reply.TheVariants.{Blocked}
use Rattle.vc_base.specs.Device.{DeviceEvent, call, claim, finish, shut}
use Rattle.vc_model.specs.Coder.{the_coder}
use Rattle.vc_model.specs.Context.{Slot}
use Rattle.vc_model.specs.Runs.{JobData}
use Rattle.vc_model.specs.Solo.{SoloEvent, Called, Claims, Finishes, Answered, SoloEntry, solo_step, solo_run, solo_slot}
use Rattle.vc_model.specs.Devices.{DeviceState, new_device, job_of, device_step, device_after}
use Rattle.vc_model.specs.Standing.{worker_job}
use Rattle.vc_model.specs.Seats.{is_step_of, positions_from, steps_at, Seat, Adds, HasItsSteps}
use Rattle.vc_model.proofs.HistoriesGrow.{last_positions, jobs_are_held}
use Rattle.vc_model.proofs.CoresStandForDevices.{after-append}
use Rattle.vc_queue.specs.Holds.{HoldState}
use Rattle.vc_port.specs.Ports.{AnsweredCall, answered_after}
use Rattle.vc_port.specs.Payloads.{AreOfJobs, told_at, with_call, IsCallOn}
use Rattle.vc_core.specs.declared.job.Finished.{Finished}
use Rattle.vc_port.specs.declared.station.Claimed.{Claimed}
use Rattle.vc_port.specs.declared.station.Claimed.TheVariants as gave
use Rattle.vc_port.specs.Stations.{StationJob, took, gave_back, GivesNone, IsClaim, IsOf}
use Rattle.vc_shared.specs.Histories.{after}
use Rattle.vc_shared.specs.AsPort.{answered_at, answered_in}
use Rattle.vc_shared.specs.Workers.{WorkerState, slot_had, job_had, IsWorker}
use Rattle.vc_shared.specs.Claiming.{is_over}
use Rattle.vc_shared.specs.Claims.{IsClaim as Claim, ClaimsNone, IsOfItsJob, FinishesJob}
use Rattle.vc_shared.specs.Following.{WorkerFollows}
use Rattle.vc_shared.specs.AsStation.{job_with, job_in_device, station_job, took_job, worked_at, worked_from, worked}

-- Answered calls

run-append : (s : Slot) (es fs : List SoloEvent) → solo_run the_coder s (es ++ fs) ≡ solo_run the_coder s es ++ solo_run the_coder (solo_slot the_coder s es) fs
run-append s [] fs = refl
run-append s (e ∷ es) fs =
    ap (λ rs. record { event = e; told = (solo_step the_coder s e).told } ∷ rs) (run-append (solo_step the_coder s e).slot es fs)

answered-append : (xs ys : List SoloEntry) → answered_in (xs ++ ys) ≡ answered_in xs ++ answered_in ys
answered-append [] ys = refl
answered-append (x ∷ xs) ys =
    ap (λ l. answered_at x.event x.told ++ l) (answered-append xs ys) ∙ sym (append_assoc (answered_at x.event x.told) (answered_in xs) (answered_in ys))

-- claims and finishes are no calls
jobs_answer_none : (s : Slot) (es : List SoloEvent) → AreOfJobs es → answered_in (solo_run the_coder s es) ≡ []
jobs_answer_none s [] a = refl
jobs_answer_none s (Called request bytes found ∷ es) a = absurd (false≢true a)
jobs_answer_none s (Claims ∷ es) a = jobs_answer_none (solo_step the_coder s Claims).slot es a
jobs_answer_none s (Finishes fault ∷ es) a = jobs_answer_none (solo_step the_coder s (Finishes fault)).slot es a

told_jobs : (old jobs : List SoloEvent) → AreOfJobs jobs → answered_in (told_at (old ++ jobs)) ≡ answered_in (told_at old)
told_jobs old jobs a =
    ap answered_in (run-append None old jobs) ∙ (answered-append (told_at old) (solo_run the_coder (solo_slot the_coder None old) jobs) ∙ (ap (λ l. answered_in (told_at old) ++ l) (jobs_answer_none (solo_slot the_coder None old) jobs a) ∙ append-nil (answered_in (told_at old))))

told_call : (events : List SoloEvent) (request : Call) (bytes : List ℕ) (found : Bool) (told : Reply) (handed : List ℕ)
    → (solo_step the_coder (solo_slot the_coder None events) (Called request bytes found)).told ≡ Answered told handed
    → answered_in (told_at (events ++ Called request bytes found ∷ [])) ≡ answered_in (told_at events) ++ record { request = request; reply = told } ∷ []
told_call events request bytes found told handed t =
    let e = Called request bytes found in
    ap answered_in (run-append None events (e ∷ [])) ∙ (answered-append (told_at events) (solo_run the_coder (solo_slot the_coder None events) (e ∷ [])) ∙ ap (λ r. answered_in (told_at events) ++ (answered_at e r ++ [])) t)

after_call : (calls : List AnsweredCall) (old new : List SoloEvent) (request : Call) (bytes : List ℕ) (found : Bool) (told : Reply)
    → new ≡ with_call old told (Called request bytes found) → answered_in (told_at old) ≡ calls
    → answered_in (told_at (old ++ Called request bytes found ∷ [])) ≡ answered_in (told_at old) ++ record { request = request; reply = told } ∷ []
    → answered_in (told_at new) ≡ answered_after calls request told
after_call calls old new request bytes found Blocked e was more = ap (λ l. answered_in (told_at l)) e ∙ was
after_call calls old new request bytes found told e was more =
    ap (λ l. answered_in (told_at l)) e ∙ (more ∙ ap (λ l. l ++ record { request = request; reply = told } ∷ []) was)

-- a call is one more answered call, unless it is answered by Blocked
pub answered_grows : (old : List SoloEvent) (before : HoldState) (request : Call) (told : Reply) (new : List SoloEvent) (now : HoldState) → IsCallOn old before request told new now → answered_in (told_at new) ≡ answered_after (answered_in (told_at old)) request told
answered_grows old before request told new now c =
    after_call (answered_in (told_at old)) (old ++ c.jobs) new request _ c.found told c.events (told_jobs old c.jobs c.of_jobs) (told_call (old ++ c.jobs) request _ c.found told c.handed c.reply)

-- Claims and finishes

positions-append : (own : DeviceEvent → Bool) (at : ℕ) (es fs : List DeviceEvent) → positions_from own at (es ++ fs) ≡ positions_from own at es ++ positions_from own (at + length es) fs
positions-append own at [] fs = let n : at ≡ at + 0 = omega arith in ap (λ k. positions_from own k fs) n
positions-append own at (e ∷ es) fs =
    split (own e) (positions-append own (at + 1) es fs ∙ (let n : (at + 1) + length es ≡ at + length (e ∷ es) = omega arith in ap (λ k. positions_from own (at + 1) es ++ positions_from own k fs) n))
  where
    split : (b : Bool) → positions_from own (at + 1) (es ++ fs) ≡ positions_from own (at + 1) es ++ positions_from own (at + length (e ∷ es)) fs
        → cond b (at ∷ positions_from own (at + 1) (es ++ fs)) (positions_from own (at + 1) (es ++ fs)) ≡ cond b (at ∷ positions_from own (at + 1) es) (positions_from own (at + 1) es) ++ positions_from own (at + length (e ∷ es)) fs
    split true h = ap (λ l. at ∷ l) h
    split false h = h

no_more : (l m : List ℕ) → l ++ m ≡ l → m ≡ []
no_more l [] e = refl
no_more l (x ∷ m) e = absurd (omega (arith, length-append l (x ∷ m), ap length e))

none_at : (own : DeviceEvent → Bool) (e : DeviceEvent) (at : ℕ) (ps : List ℕ) (b : Bool) → cond b (at ∷ ps) ps ≡ [] → (b ≡ false) × (ps ≡ [])
none_at own e at ps true h = absurd (cc)
none_at own e at ps false h = (refl, h)

-- an event that is no step of the worker is none that it did
others_work : (worker : ℕ) (e : DeviceEvent) (now : DeviceState) → is_step_of worker e ≡ false → worked_at worker e now ≡ []
others_work worker (call k request bytes found) now h = refl
others_work worker (claim other) now h = ap (λ b. cond b (took_job (job_in_device now worker)) []) h
others_work worker (finish other fault) now h = ap (λ b. cond b (gave_back fault ∷ []) []) h
others_work worker shut now h = refl

rest_works_none : (worker at : ℕ) (d : DeviceState) (es : List DeviceEvent) → positions_from (is_step_of worker) at es ≡ [] → worked_from worker d es ≡ []
rest_works_none worker at d [] h = refl
rest_works_none worker at d (e ∷ es) h =
    let now = (device_step the_coder d e).device in
    let first = none_at (is_step_of worker) e at (positions_from (is_step_of worker) (at + 1) es) (is_step_of worker e) h in
    ap (λ l. l ++ worked_from worker now es) (others_work worker e now first.0) ∙ rest_works_none worker (at + 1) now es first.1

worked-append : (worker : ℕ) (d : DeviceState) (es fs : List DeviceEvent) → worked_from worker d (es ++ fs) ≡ worked_from worker d es ++ worked_from worker (device_after the_coder d es) fs
worked-append worker d [] fs = refl
worked-append worker d (e ∷ es) fs =
    let now = (device_step the_coder d e).device in
    ap (λ l. worked_at worker e now ++ l) (worked-append worker now es fs) ∙ sym (append_assoc (worked_at worker e now) (worked_from worker now es) (worked_from worker (device_after the_coder now es) fs))

-- a longer history with no more steps of the worker
pub worked_same : (slots worker : ℕ) (xs ys : List DeviceEvent) → IsPrefix xs ys → steps_at worker ys ≡ steps_at worker xs → worked_from worker (new_device slots) ys ≡ worked_from worker (new_device slots) xs
worked_same slots worker xs ys p same =
    let whole : steps_at worker (xs ++ p.0) ≡ steps_at worker xs = ap (steps_at worker) p.1 ∙ same in
    let none = no_more (steps_at worker xs) (positions_from (is_step_of worker) (0 + length xs) p.0) (sym (positions-append (is_step_of worker) 0 xs p.0) ∙ whole) in
    ap (worked_from worker (new_device slots)) (sym p.1) ∙ (worked-append worker (new_device slots) xs p.0 ∙ (ap (λ l. worked_from worker (new_device slots) xs ++ l) (rest_works_none worker (0 + length xs) (after slots xs) p.0 none) ∙ append-nil (worked_from worker (new_device slots) xs)))

snoc_same : (xs ys : List ℕ) (a : ℕ) → xs ++ a ∷ [] ≡ ys ++ a ∷ [] → xs ≡ ys
snoc_same [] [] a e = refl
snoc_same [] (y ∷ ys) a e = absurd (omega (arith, ap length e, length-append ys (a ∷ [])))
snoc_same (x ∷ xs) [] a e = absurd (omega (arith, ap length e, length-append xs (a ∷ [])))
snoc_same (x ∷ xs) (y ∷ ys) a e =
    let t : xs ++ a ∷ [] ≡ ys ++ a ∷ [] = cc in
    let h : x ≡ y = cc in
    let r = snoc_same xs ys a t in
    λ i. h i ∷ r i

-- before its step the worker did what it had done
pub steps_before : (worker : ℕ) (old new : Seat) (e : DeviceEvent) → HasItsSteps worker old → HasItsSteps worker new → is_step_of worker e ≡ true → (a : Adds old new e) → steps_at worker a.before ≡ steps_at worker old.seen
steps_before worker old new e had has mine a =
    let last : steps_at worker (a.before ++ e ∷ []) ≡ steps_at worker a.before ++ length a.before ∷ [] = last_positions (is_step_of worker) a.before e ∙ ap (λ b. steps_at worker a.before ++ cond b (length a.before ∷ []) []) mine in
    snoc_same (steps_at worker a.before) old.mine (length a.before) (sym last ∙ (ap (steps_at worker) (sym a.added) ∙ (has ∙ a.mine))) ∙ sym had

-- one step more of the worker
pub worked_more : (slots worker : ℕ) (old new : Seat) (e : DeviceEvent) → HasItsSteps worker old → HasItsSteps worker new → is_step_of worker e ≡ true → Adds old new e
    → worked_from worker (new_device slots) new.seen ≡ worked_from worker (new_device slots) old.seen ++ worked_at worker e (after slots new.seen)
worked_more slots worker old new e had has mine a =
    let d = after slots a.before in
    let now : (device_step the_coder d e).device ≡ after slots new.seen = sym (after-append the_coder (new_device slots) a.before e) ∙ ap (after slots) (sym a.added) in
    ap (worked_from worker (new_device slots)) a.added ∙ (worked-append worker (new_device slots) a.before (e ∷ []) ∙ ((λ i. worked_same slots worker old.seen a.before a.seen (steps_before worker old new e had has mine a) i ++ append-nil (worked_at worker e (now i)) i)))

same : (i : ℕ) → (i == i) ≡ true
same i = grind (arith, nat_tests)

pub claim_is_own : (worker : ℕ) → is_step_of worker (claim worker) ≡ true
claim_is_own worker = same worker

pub finish_is_own : (worker : ℕ) (fault : Bool) → is_step_of worker (finish worker fault) ≡ true
finish_is_own worker fault = same worker

pub took_it : (worker slot : ℕ) (job : JobData) (now : DeviceState) → job_of now worker ≡ Some slot → worker_job now worker ≡ Some job → worked_at worker (claim worker) now ≡ took (record { slot = slot; given = job }) ∷ []
took_it worker slot job now e f =
    ap (λ b. cond b (took_job (job_in_device now worker)) []) (same worker) ∙ (λ i. took_job (job_with (e i) (f i)))

pub gave_it : (worker : ℕ) (fault : Bool) (now : DeviceState) → worked_at worker (finish worker fault) now ≡ gave_back fault ∷ []
gave_it worker fault now = ap (λ b. cond b (gave_back fault ∷ []) []) (same worker)

some_not_none : {A : Type 0} (x : A) → Some x ≡ None → ⊥
some_not_none x e = cc

-- a station without a job is that of a worker without one
pub free_of : (slots worker : ℕ) (history : List DeviceEvent) → job_in_device (after slots history) worker ≡ None → job_of (after slots history) worker ≡ None
free_of slots worker history e = split (job_of (after slots history) worker) refl
  where
    split : (o : Option ℕ) → job_of (after slots history) worker ≡ o → o ≡ None
    split None p = refl
    split (Some k) p =
        let j = (jobs_are_held the_coder slots history).running worker k p in
        absurd (some_not_none (record { slot = k; given = j.0 }) (sym (λ i. job_with (p i) (j.1 i)) ∙ e))

job_parts : (slot : Option ℕ) (given : Option JobData) (job : StationJob) → job_with slot given ≡ Some job → (slot ≡ Some job.slot) × (given ≡ Some job.given)
job_parts None given job e = absurd (cc)
job_parts (Some k) None job e = absurd (cc)
job_parts (Some k) (Some j) job e =
    let z : record { slot = k; given = j } ≡ job = cc in
    (ap (λ x. Some x.slot) z, ap (λ x. Some x.given) z)

-- What a claim and a finish do to what the seat remembers

-- a seat that is the same but for what it knows
pub same_but : (old new : WorkerState) → WorkerFollows old new → new ≡ record old { seat = new.seat; over = new.over }
same_but old new f = λ i. record { device = f.device i; worker = f.worker i; seat = new.seat; over = new.over }

abbrev seen_now : WorkerState → Seat → Bool → WorkerState
seen_now old s over = record old { seat = s; over = over }

none_told : (old : WorkerState) (s : Seat) (over ended : Bool) → IsWorker old → ClaimsNone old (seen_now old s over) ended → over ≡ ended → GivesNone ended (worked old) (worked (seen_now old s over)) (station_job (seen_now old s over)) over
none_told old s over ended w c e =
    record {
      listed = worked_same old.device.slots old.worker old.seat.seen s.seen c.nothing.looks.seen (c.nothing.own ∙ (c.nothing.looks.mine ∙ sym w.own));
      has_none = ap (λ o. job_with o (job_had (seen_now old s over))) c.free;
      is_over = e;
    }

claim_seen : (old : WorkerState) (s : Seat) (over : Bool) (r : Claimed) → IsWorker old → Claim old (seen_now old s over) r → over ≡ is_over r → IsClaim r (worked old) (worked (seen_now old s over)) (station_job (seen_now old s over)) over
claim_seen old s over (gave.Job given) w c e =
    let job : StationJob = record { slot = c.slot; given = c.job } in
    record {
      job = job;
      is_of = c.is_of;
      listed = worked_more old.device.slots old.worker old.seat s (claim old.worker) w.own c.claimed.own (claim_is_own old.worker) c.claimed.adds ∙ ap (λ l. worked old ++ l) (took_it old.worker c.slot c.job (after old.device.slots s.seen) c.had c.claimed.data_of_job);
      has_it = λ i. job_with (c.had i) (c.claimed.data_of_job i);
      goes_on = e;
    }
claim_seen old s over gave.Empty w c e = none_told old s over false w c e
claim_seen old s over gave.Over w c e = none_told old s over true w c e

-- what a claim gave is one more thing that the worker did, or none
pub claim_told : (old new : WorkerState) (r : Claimed) → IsWorker old → WorkerFollows old new → Claim old new r → new.over ≡ is_over r → IsClaim r (worked old) (worked new) (station_job new) new.over
claim_told old new r w f c e =
    subst (λ (v : WorkerState). IsClaim r (worked old) (worked v) (station_job v) v.over) (sym (same_but old new f)) (claim_seen old new.seat new.over r w (subst (λ (v : WorkerState). Claim old v r) (same_but old new f) c) e)

finish_seen : (old : WorkerState) (s : Seat) (over fault : Bool) → IsWorker old → FinishesJob old (seen_now old s over) fault → worked (seen_now old s over) ≡ worked old ++ gave_back fault ∷ []
finish_seen old s over fault w c =
    worked_more old.device.slots old.worker old.seat s (finish old.worker fault) w.own c.finished.own (finish_is_own old.worker fault) c.finished.adds ∙ ap (λ l. worked old ++ l) (gave_it old.worker fault (after old.device.slots s.seen))

-- a finish is one more thing that the worker did
pub finish_told : (old new : WorkerState) (fault : Bool) → IsWorker old → WorkerFollows old new → FinishesJob old new fault → worked new ≡ worked old ++ gave_back fault ∷ []
finish_told old new fault w f c =
    subst (λ (v : WorkerState). worked v ≡ worked old ++ gave_back fault ∷ []) (sym (same_but old new f)) (finish_seen old new.seat new.over fault w (subst (λ (v : WorkerState). FinishesJob old v fault) (same_but old new f) c))

of_job : (w : WorkerState) (finished : Finished) (o : Option StationJob) → station_job w ≡ o → IsOf o finished → IsOfItsJob w finished
of_job w finished None e h = absurd h
of_job w finished (Some job) e h =
    let p = job_parts (slot_had w) (job_had w) job e in
    record { slot = job.slot; job = job.given; had = p.0; given = p.1; brings = h }

-- what is brought back of the station's job is of the worker's
pub is_of_its_job : (w : WorkerState) (finished : Finished) → IsOf (station_job w) finished → IsOfItsJob w finished
is_of_its_job w finished h = of_job w finished (station_job w) refl h
