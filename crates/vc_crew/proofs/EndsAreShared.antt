-- The ends of a history are shared out among the workers. Each end is one of a worker of the list, so the shares are as many
-- together as the ends, and each engine's counts rose by its worker's share.
use Rattle.std.proofs.Common.{ℕ, suc, ◌≡◌, ◌+◌, ◌<◌, ◌≤◌, ◌==◌, ◌&&◌, Bool, true, false, cond, Some, List, [], ◌∷◌, length, refl, sym, ap, ◌∙◌, subst, arith, eqb}
use Rattle.std.specs.Prelude.{slice_get, map, take, sum}
use Rattle.std.proofs.lemmas.Bool.{eqb-false}
use Rattle.std.proofs.lemmas.List.Sums.{sum_by-cons}
use Rattle.vc_base.specs.Device.{DeviceEvent, call, claim, finish, shut}
use Rattle.vc_model.specs.Handed.{same_bool}
use Rattle.vc_shared.specs.Handles.{DeviceId}
use Rattle.vc_shared.specs.Workers.{WorkerState}
use Rattle.vc_shared.specs.AsStation.{worked}
use Rattle.vc_worker.specs.Turns.{RoseBy, good_runs, failed_runs}
use Rattle.vc_crew.specs.Counts.{EngineCounts, counts_of}
use Rattle.vc_crew.specs.Rising.{AreShared}
use Rattle.vc_crew.specs.Workers.{HaveWorked}
use Rattle.vc_crew.proofs.EndsInHistories.{is_end, ends, is_end_of, ends_of, backs, good_backs, failed_backs}

-- the share of each worker: what it ended
pub shares_of : Bool → List DeviceEvent → ℕ → List WorkerState → List ℕ
shares_of fault history number [] = []
shares_of fault history number (w ∷ ws) = ends_of fault number history ∷ shares_of fault history (number + 1) ws

-- how many workers of the list an event is an end of
hits : Bool → DeviceEvent → ℕ → List WorkerState → ℕ
hits fault e number [] = 0
hits fault e number (w ∷ ws) = cond (is_end_of fault number e) 1 0 + hits fault e (number + 1) ws

one_more : (fault : Bool) (e : DeviceEvent) (history : List DeviceEvent) (number : ℕ) (ws : List WorkerState) → sum (shares_of fault (e ∷ history) number ws) ≡ hits fault e number ws + sum (shares_of fault history number ws)
unfolding shares_of hits
one_more fault e history number [] = omega arith
one_more fault e history number (w ∷ ws) =
    let h = one_more fault e history (number + 1) ws in
    let now :
    sum (ends_of fault number (e ∷ history) ∷ shares_of fault (e ∷ history) (number + 1) ws) ≡ ends_of fault number (e ∷ history) + sum (shares_of fault (e ∷ history) (number + 1) ws) =
    sum_by-cons (λ (n : ℕ). n) (ends_of fault number (e ∷ history)) (shares_of fault (e ∷ history) (number + 1) ws) in
    let was :
    sum (ends_of fault number history ∷ shares_of fault history (number + 1) ws) ≡ ends_of fault number history + sum (shares_of fault history (number + 1) ws) =
    sum_by-cons (λ (n : ℕ). n) (ends_of fault number history) (shares_of fault history (number + 1) ws) in
    omega (arith, h, now, was)

none_shared : (fault : Bool) (number : ℕ) (ws : List WorkerState) → 0 ≤ sum (shares_of fault [] number ws)
none_shared fault number ws = omega arith

hit : (fault ended : Bool) (worker number : ℕ) (ws : List WorkerState) → number ≤ worker → worker < number + length ws → cond (same_bool fault ended) 1 0 ≤ hits fault (finish worker ended) number ws
unfolding hits
hit fault ended worker number [] l m = absurd (omega arith)
hit fault ended worker number (w ∷ ws) l m =
    split (worker == number) refl (λ n. hit fault ended worker (number + 1) ws n (omega arith))
  where
    split :
        (b : Bool) → eqb worker number ≡ b
        → (number + 1 ≤ worker → cond (same_bool fault ended) 1 0 ≤ hits fault (finish worker ended) (number + 1) ws)
        → cond (same_bool fault ended) 1 0 ≤ cond (b && same_bool fault ended) 1 0 + hits fault (finish worker ended) (number + 1) ws
    split true e later = omega arith
    split false e later =
        let z = eqb-false worker number e in
        let h = later (omega arith) in
        omega (arith, h)

-- each end is one of a worker of the list
abbrev pub AreOfWorkers : List DeviceEvent → ℕ → Type 0
AreOfWorkers history count = (i worker : ℕ) (fault : Bool) → slice_get history i ≡ Some (finish worker fault) → worker < count

first_hit : (fault : Bool) (e : DeviceEvent) (es : List DeviceEvent) (ws : List WorkerState) → AreOfWorkers (e ∷ es) (length ws) → cond (is_end fault e) 1 0 ≤ hits fault e 0 ws
first_hit fault (call slot request bytes found) es ws all = omega arith
first_hit fault (claim worker) es ws all = omega arith
first_hit fault (finish worker ended) es ws all =
    let low = all 0 worker ended refl in hit fault ended worker 0 ws (omega arith) (omega (arith, low))
first_hit fault shut es ws all = omega arith

later_ones : (e : DeviceEvent) (es : List DeviceEvent) (count : ℕ) → AreOfWorkers (e ∷ es) count → AreOfWorkers es count
later_ones e es count all = λ i worker fault is. all (suc i) worker fault is

-- The shares are as many together as the ends, at least.
pub shares_are_enough : (fault : Bool) (history : List DeviceEvent) (ws : List WorkerState) → AreOfWorkers history (length ws) → ends fault history ≤ sum (shares_of fault history 0 ws)
shares_are_enough fault [] ws all = none_shared fault 0 ws
shares_are_enough fault (e ∷ history) ws all =
    let now = first_hit fault e history ws all in
    let later = shares_are_enough fault history ws (later_ones e history (length ws) all) in
    let split = one_more fault e history 0 ws in
    omega (arith, now, later, split)

-- Each engine's counts rose by its share

-- what each worker ended is what it gave back
abbrev pub AreGivenBack : List DeviceEvent → ℕ → List WorkerState → Type 0
AreGivenBack history number ws =
    (n : ℕ) (s : WorkerState) (fault : Bool) → slice_get ws n ≡ Some s → ends_of fault (number + n) history ≡ backs fault (worked s)

next_given : (history : List DeviceEvent) (number : ℕ) (w : WorkerState) (ws : List WorkerState) → AreGivenBack history number (w ∷ ws) → AreGivenBack history (number + 1) ws
next_given history number w ws all =
    λ n s fault is. (let k : (number + 1) + n ≡ number + suc n = omega arith in ap (λ m. ends_of fault m history) k ∙ all (suc n) s fault is)

first_given : (history : List DeviceEvent) (number : ℕ) (w : WorkerState) (ws : List WorkerState) (fault : Bool) → AreGivenBack history number (w ∷ ws) → ends_of fault number history ≡ backs fault (worked w)
first_given history number w ws fault all =
    let k : number ≡ number + 0 = omega arith in ap (λ m. ends_of fault m history) k ∙ all 0 w fault refl

pub runs_rose :
    {E : Type 0} (runs faults : E → ℕ) (device : DeviceId) (history : List DeviceEvent) (number : ℕ) (ws : List WorkerState) (es es' : List E)
    → HaveWorked runs faults device number ws es es' → AreGivenBack history number ws
    → AreShared (shares_of false history number ws) (map (λ (e : EngineCounts). e.runs) (take (length ws) (counts_of runs faults es)))
    (map (λ (e : EngineCounts). e.runs) (take (length ws) (counts_of runs faults es')))
unfolding shares_of
runs_rose runs faults device history number [] es es' have given = tt
runs_rose runs faults device history number (w ∷ ws) [] es' have given = absurd have
runs_rose runs faults device history number (w ∷ ws) (e ∷ es) [] have given = absurd have
runs_rose runs faults device history number (w ∷ ws) (e ∷ es) (e' ∷ es') have given =
    let gained = have.0.gained in
    let count : good_runs gained.jobs ≡ ends_of false number history = sym (first_given history number w ws false given ∙ (ap (backs false) gained.worked ∙ good_backs gained.jobs)) in (
      subst (λ n. RoseBy n (runs e) (runs e')) count gained.ran,
      runs_rose runs faults device history (number + 1) ws es es' have.1 (next_given history number w ws given),
    )

pub faults_rose :
    {E : Type 0} (runs faults : E → ℕ) (device : DeviceId) (history : List DeviceEvent) (number : ℕ) (ws : List WorkerState) (es es' : List E)
    → HaveWorked runs faults device number ws es es' → AreGivenBack history number ws
    → AreShared (shares_of true history number ws) (map (λ (e : EngineCounts). e.faults) (take (length ws) (counts_of runs faults es)))
    (map (λ (e : EngineCounts). e.faults) (take (length ws) (counts_of runs faults es')))
unfolding shares_of
faults_rose runs faults device history number [] es es' have given = tt
faults_rose runs faults device history number (w ∷ ws) [] es' have given = absurd have
faults_rose runs faults device history number (w ∷ ws) (e ∷ es) [] have given = absurd have
faults_rose runs faults device history number (w ∷ ws) (e ∷ es) (e' ∷ es') have given =
    let gained = have.0.gained in
    let count : failed_runs gained.jobs ≡ ends_of true number history = sym (first_given history number w ws true given ∙ (ap (backs true) gained.worked ∙ failed_backs gained.jobs)) in (
      subst (λ n. RoseBy n (faults e) (faults e')) count gained.failed,
      faults_rose runs faults device history (number + 1) ws es es' have.1 (next_given history number w ws given),
    )
