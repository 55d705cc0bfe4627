-- What a worker has stays as it is in a longer history in which its seat has no more entries. Each entry that was added is
-- another's, and such an event leaves the worker's slot and the data of its job.
use Rattle.std.proofs.Common.{ℕ, suc, ◌≡◌, ◌+◌, ◌==◌, false, Some, List, [], ◌∷◌, ◌++◌, length, sym, ap, ◌∙◌, subst, append_assoc, append-nil}
use Rattle.std.proofs.lemmas.Bool.{eqb-false}
use mathlib.Core.List.{IsPrefix}
use Rattle.vc_base.specs.Device.{DeviceEvent, call, claim, finish, shut}
use Rattle.vc_model.specs.Coder.{the_coder}
use Rattle.vc_model.specs.Runs.{JobData}
use Rattle.vc_model.specs.Devices.{DeviceState, job_of}
use Rattle.vc_model.specs.Standing.{job_in_slot, worker_job}
use Rattle.vc_model.specs.Seats.{is_step_of}
use Rattle.vc_turn.specs.declared.rule.Noted.{Noted}
use Rattle.vc_turn.specs.History.{places_from, places}
use Rattle.vc_shared.specs.Histories.{after, events_of, AreOwn}
use Rattle.vc_shared.proofs.EntriesAreOwned.{step_is_own, own_rest, none_added}
use Rattle.vc_shared.proofs.PayloadsFitLater.{none_first}
use Rattle.vc_shared.proofs.CallsByHandle.{after_event}
use Rattle.vc_shared.proofs.JobsStayToFinish.{HasData, IsOther, data_stays, worker_stays}

other_worker : (worker other : ℕ) → (other == worker) ≡ false → worker ≡ other → ⊥
other_worker worker other e z = eqb-false other worker e (sym z)

-- an event that is no step of the worker is another's
is_other : (worker : ℕ) (e : DeviceEvent) → is_step_of worker e ≡ false → IsOther worker e
is_other worker (call k request bytes found) h = tt
is_other worker (claim other) h = other_worker worker other h
is_other worker (finish other fault) h = other_worker worker other h
is_other worker shut h = tt

-- what has the device after one entry more of another seat
others_entry : (slots worker at : ℕ) (x : Noted) (es : List Noted) → AreOwn slots (x ∷ es) → places_from at (slots + worker) (x ∷ es) ≡ [] → IsOther worker x.event
others_entry slots worker at x es own none =
    let first = none_first (x.seat == slots + worker) at (places_from (suc at) (slots + worker) es) none in
    is_other worker x.event (step_is_own slots x.seat worker x.event own.0 ∙ first.0)

job_rest : (slots worker at : ℕ) (pre es : List Noted) → AreOwn slots es → places_from at (slots + worker) es ≡ [] → job_of (after slots (events_of (pre ++ es))) worker ≡ job_of (after slots (events_of pre)) worker
job_rest slots worker at pre [] own none = ap (λ l. job_of (after slots (events_of l)) worker) (append-nil pre)
job_rest slots worker at pre (x ∷ es) own none =
    let first = none_first (x.seat == slots + worker) at (places_from (suc at) (slots + worker) es) none in
    ap (λ l. job_of (after slots (events_of l)) worker) (sym (append_assoc pre (x ∷ []) es))
    ∙ (job_rest slots worker (suc at) (pre ++ x ∷ []) es own.1 first.1 ∙ (ap (λ d. job_of d worker) (after_event slots pre x.seat x.event) ∙ worker_stays the_coder (after slots (events_of pre)) worker x.event (others_entry slots worker at x es own none)))

data_rest : (slots worker k at : ℕ) (j : JobData) (pre es : List Noted) → AreOwn slots es → places_from at (slots + worker) es ≡ [] → HasData (after slots (events_of pre)) worker k j → HasData (after slots (events_of (pre ++ es))) worker k j
data_rest slots worker k at j pre [] own none h =
    subst (λ l. HasData (after slots (events_of l)) worker k j) (sym (append-nil pre)) h
data_rest slots worker k at j pre (x ∷ es) own none h =
    let first = none_first (x.seat == slots + worker) at (places_from (suc at) (slots + worker) es) none in
    let next = subst (λ d. HasData d worker k j) (sym (after_event slots pre x.seat x.event)) (data_stays the_coder slots (events_of pre) worker k j x.event (others_entry slots worker at x es own none) h) in
    subst (λ l. HasData (after slots (events_of l)) worker k j) (append_assoc pre (x ∷ []) es) (data_rest slots worker k (suc at) j (pre ++ x ∷ []) es own.1 first.1 next)

-- the worker has the job of the same slot, or none as before
pub job_later : (slots worker : ℕ) (xs log : List Noted) → IsPrefix xs log → AreOwn slots log → places (slots + worker) log ≡ places (slots + worker) xs → job_of (after slots (events_of log)) worker ≡ job_of (after slots (events_of xs)) worker
job_later slots worker xs log p own same =
    let e = p.1 in
    ap (λ l. job_of (after slots (events_of l)) worker) (sym e) ∙ job_rest slots worker (length xs + 0) xs p.0 (own_rest slots xs p.0 (subst (AreOwn slots) (sym e) own)) (none_added (slots + worker) xs p.0 (ap (places (slots + worker)) e ∙ same))

-- with the same data
pub data_later : (slots worker k : ℕ) (j : JobData) (xs log : List Noted) → IsPrefix xs log → AreOwn slots log → places (slots + worker) log ≡ places (slots + worker) xs → HasData (after slots (events_of xs)) worker k j → HasData (after slots (events_of log)) worker k j
data_later slots worker k j xs log p own same h =
    let e = p.1 in
    subst (λ l. HasData (after slots (events_of l)) worker k j) e (data_rest slots worker k (length xs + 0) j xs p.0 (own_rest slots xs p.0 (subst (AreOwn slots) (sym e) own)) (none_added (slots + worker) xs p.0 (ap (places (slots + worker)) e ∙ same)) h)

-- the job of a worker, by its slot and its data
pub has_data : (d : DeviceState) (worker k : ℕ) (j : JobData) → job_of d worker ≡ Some k → worker_job d worker ≡ Some j → HasData d worker k j
has_data d worker k j e f = record { of_slot = e; data_there = sym (ap (job_in_slot d) e) ∙ f }

pub data_of : (d : DeviceState) (worker k : ℕ) (j : JobData) → HasData d worker k j → worker_job d worker ≡ Some j
data_of d worker k j h = ap (job_in_slot d) h.of_slot ∙ h.data_there
