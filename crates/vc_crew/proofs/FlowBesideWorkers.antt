-- What a flow beside workers did, from what is known when all have ended. All seats came back, so one history has every step;
-- the ends on the flow's slot are among its ends, and these are shared out among the workers, whose engines counted them.
use Rattle.std.proofs.Common.{ℕ, zero, suc, ◌≡◌, ◌+◌, ◌<◌, ◌≤◌, Bool, true, false, Some, List, [], ◌∷◌, length, sym, ap, ◌∙◌, subst, arith}
use Rattle.std.specs.Prelude.{slice_get, map, take, drop}
use Rattle.vc_base.specs.Device.{finish}
use Rattle.vc_model.specs.Solo.{SoloEvent}
use Rattle.vc_model.specs.Handed.{finishes_by_fault}
use Rattle.vc_model.specs.Devices.{new_device}
use Rattle.vc_model.specs.Standing.{CoreState}
use Rattle.vc_model.specs.Seats.{steps_at}
use Rattle.vc_port.specs.Payloads.{told_at}
use Rattle.vc_shared.specs.Handles.{DeviceId, HandleState, new_handle, slot_events}
use Rattle.vc_shared.specs.Workers.{WorkerState, new_worker, IsWorker}
use Rattle.vc_shared.specs.Following.{WorkerFollows}
use Rattle.vc_shared.specs.AsStation.{worked_from}
use Rattle.vc_shared.specs.Closing.{owned_worker, owned_seats, IsClosed, AreWorkersOf}
use Rattle.vc_shared.proofs.PortsRemember.{worked_same, finish_is_own}
use Rattle.vc_crew.specs.Counts.{counts_of}
use Rattle.vc_crew.specs.Workers.{HaveWorked}
use Rattle.vc_crew.specs.Flowing.{HasFlowed}
use Rattle.vc_crew.specs.Beside.{RanBeside}
use Rattle.vc_crew.proofs.EndsInHistories.{ends, ends_of, backs, backs_are_ends, ends_on_slot, ends_grow}
use Rattle.vc_crew.proofs.EntriesHaveOwners.{AreInOrder, seat_at, each_step_held, all_steps_seen, worker_behind}
use Rattle.vc_crew.proofs.EndsAreShared.{shares_of, AreOfWorkers, shares_are_enough, AreGivenBack, runs_rose, faults_rose}

-- what is known of the worker at a place
pub record WorkedAt (device : DeviceId) (number : ℕ) (s : WorkerState) : Type 0 where
  pub follows : WorkerFollows (new_worker device number) s
  pub ready : IsWorker s

worked_at_place :
    {E : Type 0} (runs faults : E → ℕ) (device : DeviceId) (number : ℕ) (ws : List WorkerState) (es es' : List E)
    → HaveWorked runs faults device number ws es es' → (n : ℕ) (s : WorkerState) → slice_get ws n ≡ Some s → WorkedAt device (number + n) s
worked_at_place runs faults device number [] es es' have n s at = absurd (cc)
worked_at_place runs faults device number (w ∷ ws) [] es' have n s at = absurd have
worked_at_place runs faults device number (w ∷ ws) (e ∷ es) [] have n s at = absurd have
worked_at_place runs faults device number (w ∷ ws) (e ∷ es) (e' ∷ es') have zero s at =
    let same : w ≡ s = cc in
    let k : number ≡ number + 0 = omega arith in
    subst (WorkedAt device (number + 0)) same (subst (λ m. WorkedAt device m w) k (record { follows = have.0.follows; ready = have.0.ready }))
worked_at_place runs faults device number (w ∷ ws) (e ∷ es) (e' ∷ es') have (suc n) s at =
    let k : (number + 1) + n ≡ number + suc n = omega arith in
    subst (λ m. WorkedAt device m s) k (worked_at_place runs faults device (number + 1) ws es es' have.1 n s at)

-- from number 0 on
pub first_worked : {E : Type 0} (runs faults : E → ℕ) (device : DeviceId) (ws : List WorkerState) (es es' : List E) → HaveWorked runs faults device 0 ws es es' → (n : ℕ) (s : WorkerState) → slice_get ws n ≡ Some s → WorkedAt device n s
first_worked runs faults device ws es es' have n s at =
    let k : 0 + n ≡ n = omega arith in
    subst (λ m. WorkedAt device m s) k (worked_at_place runs faults device 0 ws es es' have n s at)

-- the workers are those of the device, in order
pub are_workers : {E : Type 0} (runs faults : E → ℕ) (device : DeviceId) (ws : List WorkerState) (es es' : List E) → HaveWorked runs faults device 0 ws es es' → length ws ≡ device.workers → AreWorkersOf device ws
are_workers runs faults device ws es es' have all = record {
  all = all;
  each = λ n s at. (let w = first_worked runs faults device ws es es' have n s at in (w.follows.device, w.follows.worker));
}

-- the engines behind the workers are as they were
pub others_stay : {E : Type 0} (runs faults : E → ℕ) (device : DeviceId) (number : ℕ) (ws : List WorkerState) (es es' : List E) → HaveWorked runs faults device number ws es es' → drop (length ws) es' ≡ drop (length ws) es
others_stay runs faults device number [] es es' have = ap (drop 0) have
others_stay runs faults device number (w ∷ ws) [] es' have = absurd have
others_stay runs faults device number (w ∷ ws) (e ∷ es) [] have = absurd have
others_stay runs faults device number (w ∷ ws) (e ∷ es) (e' ∷ es') have =
    others_stay runs faults device (number + 1) ws es es' have.1

is_below : (ws : List WorkerState) (n : ℕ) (s : WorkerState) → slice_get ws n ≡ Some s → n < length ws
is_below [] n s at = absurd (cc)
is_below (w ∷ ws) zero s at = omega arith
is_below (w ∷ ws) (suc n) s at = let h = is_below ws n s at in omega (arith, h)

-- what a worker ended in the one history is what it gave back
pub given_back :
    (core : CoreState) (hs : List HandleState) (ws : List WorkerState) (closed : IsClosed core hs ws) (device : DeviceId)
    → ((n : ℕ) (s : WorkerState) → slice_get ws n ≡ Some s → WorkedAt device n s) → AreGivenBack closed.history 0 ws
given_back core hs ws closed device known n s fault at =
    let w = known n s at in
    let history = closed.history in
    let seat = seat_at history (owned_seats hs ws) (length hs + n) (owned_worker s) closed.one.owned (worker_behind hs ws n s at) in
    let number : s.worker ≡ n = w.follows.worker in
    let own : steps_at n s.seat.seen ≡ s.seat.mine = subst (λ m. steps_at m s.seat.seen ≡ s.seat.mine) number w.ready.own in
    let all = all_steps_seen core hs ws closed (λ m x is. (known m x is).follows.worker) n s at own seat.seen in
    let slots = s.device.slots in
    let same : worked_from n (new_device slots) history ≡ worked_from n (new_device slots) s.seat.seen = worked_same slots n s.seat.seen history seat.seen all in
    let k : 0 + n ≡ n = omega arith in
    ap (λ m. ends_of fault m history) k ∙ (sym (backs_are_ends fault n (new_device slots) history) ∙ (ap (backs fault) same ∙ ap (λ m. backs fault (worked_from m (new_device slots) s.seat.seen)) (sym number)))

pub of_workers : (core : CoreState) (hs : List HandleState) (ws : List WorkerState) (closed : IsClosed core hs ws) → AreInOrder ws → AreOfWorkers closed.history (length ws)
of_workers core hs ws closed order i worker fault at =
    let held = each_step_held core hs ws closed order worker i (finish worker fault) at (finish_is_own worker fault) in
    is_below ws worker held.seat held.there

-- the flow's ends are among those of the one history
flow_ends :
    {F End : Type 0} (does : F → List SoloEvent → List SoloEvent → End → F → Type 0) (flow flow' : F) (end : End) (first h : HandleState)
    (core : CoreState) (ws : List WorkerState) (flowed : HasFlowed does flow flow' end first h) (closed : IsClosed core (h ∷ []) ws) (fault : Bool)
    → finishes_by_fault fault (told_at (slot_events flowed.left)) ≤ ends fault closed.history
flow_ends does flow flow' end first h core ws flowed closed fault =
    let left = flowed.left in
    let slot = ends_on_slot fault left.device.slots left.slot left.seat.seen in
    let later = ends_grow fault left.seat.seen h.seat.seen flowed.later.knows.seen in
    let whole = ends_grow fault h.seat.seen closed.history closed.one.owned.0.seen in
    omega (arith, slot, later, whole)

-- What a flow did beside workers, on a device whose seats all came back.
pub ran_beside :
    {E F End : Type 0} (runs faults : E → ℕ) (does : F → List SoloEvent → List SoloEvent → End → F → Type 0) (flow flow' : F) (end : End)
    (device : DeviceId) (first h : HandleState) (core : CoreState) (ws : List WorkerState) (es es' : List E)
    → slot_events first ≡ [] → HasFlowed does flow flow' end first h → HaveWorked runs faults device 0 ws es es' → IsClosed core (h ∷ []) ws
    → RanBeside does flow flow' end (take (length ws) (counts_of runs faults es)) (take (length ws) (counts_of runs faults es'))
ran_beside runs faults does flow flow' end device first h core ws es es' fresh flowed have closed =
    let known = first_worked runs faults device ws es es' have in
    let history = closed.history in
    let all = of_workers core (h ∷ []) ws closed (λ m x is. (known m x is).follows.worker) in
    let given = given_back core (h ∷ []) ws closed device known in
    let good = flow_ends does flow flow' end first h core ws flowed closed false in
    let good_shared = shares_are_enough false history ws all in
    let bad = flow_ends does flow flow' end first h core ws flowed closed true in
    let bad_shared = shares_are_enough true history ws all in record {
      events = slot_events flowed.left;
      did = subst (λ l. does flow l (slot_events flowed.left) end flow') fresh flowed.did;
      ran = record { shares = shares_of false history 0 ws; enough = omega (arith, good, good_shared); shared = runs_rose runs faults device history 0 ws es es' have given };
      failed = record { shares = shares_of true history 0 ws; enough = omega (arith, bad, bad_shared); shared = faults_rose runs faults device history 0 ws es es' have given };
    }

-- The same, where each part is known by an equation.

pub all_ran :
    {E F End : Type 0} (runs faults : E → ℕ) (does : F → List SoloEvent → List SoloEvent → End → F → Type 0) (flow flow' : F) (end : End)
    (device : DeviceId) (first h : HandleState) (handles : List HandleState) (core : CoreState) (ws : List WorkerState) (es es' old : List E)
    (count : ℕ)
    → first ≡ new_handle device 0 → handles ≡ h ∷ [] → es ≡ old → length ws ≡ count → HasFlowed does flow flow' end first h
    → HaveWorked runs faults first.device 0 ws es es' → IsClosed core handles ws
    → RanBeside does flow flow' end (take count (counts_of runs faults old)) (take count (counts_of runs faults es'))
all_ran runs faults does flow flow' end device first h handles core ws es es' old count fresh one same number flowed have closed =
    let alone : IsClosed core (h ∷ []) ws = subst (λ l. IsClosed core l ws) one closed in
    let ran = ran_beside runs faults does flow flow' end first.device first h core ws es es' (ap slot_events fresh) flowed have alone in
    subst (λ n. RanBeside does flow flow' end (take n (counts_of runs faults old)) (take n (counts_of runs faults es'))) number
    (subst (λ l. RanBeside does flow flow' end (take (length ws) (counts_of runs faults l)) (take (length ws) (counts_of runs faults es'))) same ran)

pub others_kept : {E : Type 0} (runs faults : E → ℕ) (device : DeviceId) (ws : List WorkerState) (es es' old : List E) (count : ℕ) → es ≡ old → length ws ≡ count → HaveWorked runs faults device 0 ws es es' → drop count es' ≡ drop count old
others_kept runs faults device ws es es' old count same number have =
    subst (λ n. drop n es' ≡ drop n old) number (others_stay runs faults device 0 ws es es' have ∙ ap (λ l. drop (length ws) l) same)
