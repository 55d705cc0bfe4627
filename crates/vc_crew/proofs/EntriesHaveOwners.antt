-- Whose each entry of the one history is: a step is held by the one seat that made it, so a worker's ends are those that its own
-- seat remembers.
use Rattle.std.proofs.Common.{ℕ, zero, suc, ◌≡◌, ◌+◌, ◌<◌, ◌==◌, ◌||◌, Bool, true, false, cond, Some, List, [], ◌∷◌, ◌++◌, length, refl, sym, ap, ◌∙◌, subst, arith, eqb}
use Rattle.std.specs.Prelude.{slice_get, map}
use Rattle.std.specs.List.{list_any}
use Rattle.std.proofs.lemmas.List.{append-nil}
use Rattle.std.proofs.lemmas.Bool.{eqb-true, lt-ltb, false≢true}
use mathlib.Core.List.{IsPrefix}
use Rattle.vc_base.specs.Device.{DeviceEvent, call, claim, finish, shut}
use Rattle.vc_model.specs.Standing.{CoreState}
use Rattle.vc_model.specs.Seats.{positions_from, steps_at, is_call_of, is_step_of, is_shut_event, may_add, adds_at, OwnedSeat, IsSeatOf, AreSeatsOf, all_mine, count_position}
use Rattle.vc_shared.specs.Handles.{HandleState}
use Rattle.vc_shared.specs.Workers.{WorkerState}
use Rattle.vc_shared.specs.Closing.{owned_handle, owned_worker, owned_seats, IsClosed}

-- Positions

position_append : (xs ys : List ℕ) (i : ℕ) → count_position (xs ++ ys) i ≡ count_position xs i + count_position ys i
position_append [] ys i = omega arith
position_append (x ∷ xs) ys i = let h = position_append xs ys i in omega (arith, h)

stands : (xs : List ℕ) (i : ℕ) → 0 < count_position xs i → list_any (λ j. j == i) xs ≡ true
stands [] i l = absurd (omega arith)
stands (x ∷ xs) i l = split (x == i) l (λ m. stands xs i m)
  where
    split : (b : Bool) → 0 < cond b 1 0 + count_position xs i → (0 < count_position xs i → list_any (λ j. j == i) xs ≡ true) → (b || list_any (λ j. j == i) xs) ≡ true
    split true m later = refl
    split false m later = later (omega (arith, m))

-- a seat among whose entries the position is
record HeldBy (seats : List OwnedSeat) (i : ℕ) : Type 0 where
  number : ℕ
  seat : OwnedSeat
  there : slice_get seats number ≡ Some seat
  mine : list_any (λ j. j == i) seat.seat.mine ≡ true

held_by : (seats : List OwnedSeat) (i : ℕ) → 0 < count_position (all_mine seats) i → HeldBy seats i
held_by [] i l = absurd (omega arith)
held_by (o ∷ os) i l =
    let both = position_append o.seat.mine (all_mine os) i in
    split (count_position o.seat.mine i) refl (omega (arith, both, l)) (λ m. held_by os i m)
  where
    split : (n : ℕ) → count_position o.seat.mine i ≡ n → 0 < n + count_position (all_mine os) i → (0 < count_position (all_mine os) i → HeldBy os i) → HeldBy (o ∷ os) i
    split (suc n) e m later =
        record { number = 0; seat = o; there = refl; mine = stands o.seat.mine i (omega (arith, e)) }
    split zero e m later =
        let h = later (omega (arith, m)) in
        record { number = suc h.number; seat = h.seat; there = h.there; mine = h.mine }

-- the seat at a place is one of the history
pub seat_at : (history : List DeviceEvent) (seats : List OwnedSeat) (n : ℕ) (o : OwnedSeat) → AreSeatsOf history seats → slice_get seats n ≡ Some o → IsSeatOf history o
seat_at history [] n o all e = absurd (cc)
seat_at history (s ∷ ss) zero o all e =
    let same : s ≡ o = cc in
    subst (IsSeatOf history) same all.0
seat_at history (s ∷ ss) (suc n) o all e = seat_at history ss n o all.1 e

-- Steps of workers

-- who may add a step of a worker is no handle
no_handle : (k worker : ℕ) (e : DeviceEvent) → is_step_of worker e ≡ true → (is_call_of k e || is_shut_event e) ≡ true → ⊥
no_handle k worker (call slot request bytes found) own may = false≢true own
no_handle k worker (claim other) own may = false≢true may
no_handle k worker (finish other fault) own may = false≢true may
no_handle k worker shut own may = false≢true own

same_worker : (worker other : ℕ) (e : DeviceEvent) → is_step_of worker e ≡ true → is_step_of other e ≡ true → other ≡ worker
same_worker worker other (call slot request bytes found) own may = absurd (false≢true own)
same_worker worker other (claim of) own may =
    sym (eqb-true of other may) ∙ eqb-true of worker own
same_worker worker other (finish of fault) own may =
    sym (eqb-true of other may) ∙ eqb-true of worker own
same_worker worker other shut own may = absurd (false≢true own)

worker_at : (ws : List WorkerState) (n : ℕ) (o : OwnedSeat) → slice_get (map owned_worker ws) n ≡ Some o → (s : WorkerState) × (slice_get ws n ≡ Some s) × (owned_worker s ≡ o)
worker_at [] n o e = absurd (cc)
worker_at (w ∷ ws) zero o e = let same : owned_worker w ≡ o = cc in (w, refl, same)
worker_at (w ∷ ws) (suc n) o e = worker_at ws n o e

-- the workers of the list are those with the numbers from 0 on
abbrev pub AreInOrder : List WorkerState → Type 0
AreInOrder ws = (n : ℕ) (s : WorkerState) → slice_get ws n ≡ Some s → s.worker ≡ n

-- a step of a worker is an entry of its seat
pub record StepIsHeld (ws : List WorkerState) (worker i : ℕ) : Type 0 where
  pub seat : WorkerState
  pub there : slice_get ws worker ≡ Some seat
  pub mine : list_any (λ j. j == i) seat.seat.mine ≡ true

-- The seat of a step of a worker is one of the workers' seats.
record IsOfWorkers (ws : List WorkerState) (o : OwnedSeat) : Type 0 where
  place : ℕ
  seat : WorkerState
  there : slice_get ws place ≡ Some seat
  same : owned_worker seat ≡ o

worker_among : (hs : List HandleState) (ws : List WorkerState) (n worker : ℕ) (o : OwnedSeat) (e : DeviceEvent) → is_step_of worker e ≡ true → may_add o.owner e ≡ true → slice_get (owned_seats hs ws) n ≡ Some o → IsOfWorkers ws o
worker_among [] ws n worker o e own may at =
    let w = worker_at ws n o at in
    record { place = n; seat = w.0; there = w.1; same = w.2 }
worker_among (h ∷ hs) ws zero worker o e own may at =
    let same : owned_handle h ≡ o = cc in
    absurd (no_handle h.slot worker e own (ap (λ (s : OwnedSeat). may_add s.owner e) same ∙ may))
worker_among (h ∷ hs) ws (suc n) worker o e own may at = worker_among hs ws n worker o e own may at

step_held :
    (hs : List HandleState) (ws : List WorkerState) (history : List DeviceEvent) (worker i : ℕ) (e : DeviceEvent) → AreInOrder ws
    → slice_get history i ≡ Some e → is_step_of worker e ≡ true → (held : HeldBy (owned_seats hs ws) i) → IsSeatOf history held.seat
    → StepIsHeld ws worker i
step_held hs ws history worker i e order at own held is =
    let may : may_add held.seat.owner e ≡ true = ap (adds_at held.seat.owner) (sym at) ∙ is.own i held.mine in
    let w = worker_among hs ws held.number worker held.seat e own may held.there in
    let number : w.seat.worker ≡ worker = same_worker worker w.seat.worker e own (ap (λ (o : OwnedSeat). may_add o.owner e) w.same ∙ may) in
    let place : w.place ≡ worker = sym (order w.place w.seat w.there) ∙ number in
    record { seat = w.seat; there = subst (λ k. slice_get ws k ≡ Some w.seat) place w.there; mine = ap (λ (o : OwnedSeat). list_any (λ j. j == i) o.seat.mine) w.same ∙ held.mine }

within : (es : List DeviceEvent) (i : ℕ) (e : DeviceEvent) → slice_get es i ≡ Some e → i < length es
within [] i e at = absurd (cc)
within (x ∷ xs) zero e at = omega arith
within (x ∷ xs) (suc i) e at = let h = within xs i e at in omega (arith, h)

-- Each step of a worker in the one history is an entry of the seat of that worker.
pub each_step_held :
    (core : CoreState) (hs : List HandleState) (ws : List WorkerState) (closed : IsClosed core hs ws) → AreInOrder ws
    → (worker i : ℕ) (e : DeviceEvent) → slice_get closed.history i ≡ Some e → is_step_of worker e ≡ true → StepIsHeld ws worker i
each_step_held core hs ws closed order worker i e at own =
    let count : count_position (all_mine (owned_seats hs ws)) i ≡ 1 = closed.one.once i ∙ ap (λ b. cond b 1 0) (lt-ltb i (length closed.history) (within closed.history i e at)) in
    let held = held_by (owned_seats hs ws) i (omega (arith, count)) in
    step_held hs ws closed.history worker i e order at own held (seat_at closed.history (owned_seats hs ws) held.number held.seat closed.one.owned held.there)

-- What a worker's seat has seen has all steps of the worker

positions-append : (own : DeviceEvent → Bool) (at : ℕ) (es fs : List DeviceEvent) → positions_from own at (es ++ fs) ≡ positions_from own at es ++ positions_from own (at + length es) fs
positions-append own at [] fs = let n : at ≡ at + 0 = omega arith in ap (λ k. positions_from own k fs) n
positions-append own at (e ∷ es) fs =
    split (own e) (positions-append own (at + 1) es fs ∙ (let n : (at + 1) + length es ≡ at + length (e ∷ es) = omega arith in ap (λ k. positions_from own (at + 1) es ++ positions_from own k fs) n))
  where
    split :
        (b : Bool) → positions_from own (at + 1) (es ++ fs) ≡ positions_from own (at + 1) es ++ positions_from own (at + length (e ∷ es)) fs
        → cond b (at ∷ positions_from own (at + 1) (es ++ fs)) (positions_from own (at + 1) (es ++ fs))
        ≡ cond b (at ∷ positions_from own (at + 1) es) (positions_from own (at + 1) es) ++ positions_from own (at + length (e ∷ es)) fs
    split true h = ap (λ l. at ∷ l) h
    split false h = h

none_pass : (own : DeviceEvent → Bool) (at : ℕ) (es : List DeviceEvent) → ((j : ℕ) (e : DeviceEvent) → slice_get es j ≡ Some e → own e ≡ true → ⊥) → positions_from own at es ≡ []
none_pass own at [] none = refl
none_pass own at (e ∷ es) none =
    split (own e) refl (none_pass own (at + 1) es (λ j x is. none (suc j) x is))
  where
    split : (b : Bool) → own e ≡ b → positions_from own (at + 1) es ≡ [] → cond b (at ∷ positions_from own (at + 1) es) (positions_from own (at + 1) es) ≡ []
    split true is rest = absurd (none 0 e refl is)
    split false is rest = rest

-- a position that is there lies below the end
below_end : (own : DeviceEvent → Bool) (at i : ℕ) (es : List DeviceEvent) → list_any (λ j. j == i) (positions_from own at es) ≡ true → i < at + length es
below_end own at i [] e = absurd (false≢true e)
below_end own at i (x ∷ xs) e =
    split (own x) e (λ f. let h = below_end own (at + 1) i xs f in omega (arith, h))
  where
    first : (b : Bool) → eqb at i ≡ b → (b || list_any (λ j. j == i) (positions_from own (at + 1) xs)) ≡ true → (list_any (λ j. j == i) (positions_from own (at + 1) xs) ≡ true → i < at + length (x ∷ xs)) → i < at + length (x ∷ xs)
    first true is f later = let same = eqb-true at i is in omega (arith, same)
    first false is f later = later f

    split :
        (b : Bool) → list_any (λ j. j == i) (cond b (at ∷ positions_from own (at + 1) xs) (positions_from own (at + 1) xs)) ≡ true
        → (list_any (λ j. j == i) (positions_from own (at + 1) xs) ≡ true → i < at + length (x ∷ xs)) → i < at + length (x ∷ xs)
    split true f later = first (eqb at i) refl f later
    split false f later = later f

get_behind : (xs ys : List DeviceEvent) (j : ℕ) → slice_get (xs ++ ys) (length xs + j) ≡ slice_get ys j
get_behind [] ys j = let n : 0 + j ≡ j = omega arith in ap (slice_get ys) n
get_behind (x ∷ xs) ys j =
    let n : length (x ∷ xs) + j ≡ suc (length xs + j) = omega arith in
    ap (slice_get (x ∷ (xs ++ ys))) n ∙ get_behind xs ys j

-- a worker has no step in the one history that its seat hasn't seen
pub all_steps_seen :
    (core : CoreState) (hs : List HandleState) (ws : List WorkerState) (closed : IsClosed core hs ws) → AreInOrder ws
    → (worker : ℕ) (s : WorkerState) → slice_get ws worker ≡ Some s → steps_at worker s.seat.seen ≡ s.seat.mine
    → (p : IsPrefix s.seat.seen closed.history) → steps_at worker closed.history ≡ steps_at worker s.seat.seen
all_steps_seen core hs ws closed order worker s at own p =
    let own_of = is_step_of worker in
    let none : positions_from own_of (0 + length s.seat.seen) p.0 ≡ [] = none_pass own_of (0 + length s.seat.seen) p.0 later in
    ap (steps_at worker) (sym p.1) ∙ (positions-append own_of 0 s.seat.seen p.0 ∙ (ap (λ l. steps_at worker s.seat.seen ++ l) none ∙ append-nil (steps_at worker s.seat.seen)))
  where
    later : (j : ℕ) (e : DeviceEvent) → slice_get p.0 j ≡ Some e → is_step_of worker e ≡ true → ⊥
    later j e there is =
        let i = length s.seat.seen + j in
        let found : slice_get closed.history i ≡ Some e = ap (λ l. slice_get l i) (sym p.1) ∙ (get_behind s.seat.seen p.0 j ∙ there) in
        let held = each_step_held core hs ws closed order worker i e found is in
        let same : held.seat ≡ s = cc (held.there, at) in
        let mine : list_any (λ k. k == i) (steps_at worker s.seat.seen) ≡ true = ap (list_any (λ k. k == i)) own ∙ (ap (λ (w : WorkerState). list_any (λ k. k == i) w.seat.mine) (sym same) ∙ held.mine) in
        let low = below_end (is_step_of worker) 0 i s.seat.seen mine in
        absurd (omega (arith, low))

-- the seat of a worker among all seats
pub worker_behind : (hs : List HandleState) (ws : List WorkerState) (n : ℕ) (s : WorkerState) → slice_get ws n ≡ Some s → slice_get (owned_seats hs ws) (length hs + n) ≡ Some (owned_worker s)
worker_behind [] [] n s at = absurd (cc)
worker_behind [] (w ∷ ws) zero s at = let same : w ≡ s = cc in ap (λ x. Some (owned_worker x)) same
worker_behind [] (w ∷ ws) (suc n) s at =
    let k : 0 + suc n ≡ suc (0 + n) = omega arith in
    ap (slice_get (owned_seats [] (w ∷ ws))) k ∙ worker_behind [] ws n s at
worker_behind (h ∷ hs) ws n s at =
    let k : length (h ∷ hs) + n ≡ suc (length hs + n) = omega arith in
    ap (slice_get (owned_seats (h ∷ hs) ws)) k ∙ worker_behind hs ws n s at
