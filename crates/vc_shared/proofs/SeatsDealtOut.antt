-- How the seats at the lock are dealt out: the first ones to the slots, in order, and those that come after to the workers.
-- They come in the order of their numbers, so the k-th slot gets seat k, and the w-th worker the one w behind the slots'.
use Rattle.std.proofs.Common.{ℕ, zero, suc, ◌≡◌, ◌<◌, ◌≤◌, ◌+◌, ltb, Bool, true, false, Some, None, List, [], ◌∷◌, ◌++◌, length, slice_get, refl, sym, ap, ◌∙◌, subst, arith, length-append}
use Rattle.std.proofs.lemmas.Bool.{ltb-true, ltb-false}
use Rattle.std.proofs.lemmas.List.{length-replicate}
use Rattle.atomic_table.specs.Seated.{TableId}
use Rattle.vc_model.specs.Coder.{the_coder}
use Rattle.vc_model.specs.Standing.{CoreState}
use Rattle.vc_model.specs.Core.{new_core}
use Rattle.vc_model.proofs.CoresStandForDevices.{new_core_stands}
use Rattle.vc_turn.specs.Place.{Place, fresh_place}
use Rattle.vc_shared.specs.declared.held.Sizes.{Sizes}
use Rattle.vc_shared.specs.Handles.{HandleState, device_at, new_handle}
use Rattle.vc_shared.specs.Workers.{WorkerState, new_worker}
use Rattle.vc_shared.specs.Histories.{StandsForLog}
use Rattle.vc_shared.specs.Making.{AreNewHandles, AreNewWorkers}

-- The first seats are dealt out, and those that are left come next.
pub record Dealt (lock : TableId) (sizes : Sizes) (left : List Place) (handles : List HandleState) (workers : List WorkerState) : Type 0 where
  pub some_handles : length handles ≤ sizes.slots
  pub some_workers : length workers ≤ sizes.workers
  pub in_order : length handles < sizes.slots → length workers ≡ 0
  pub in_all : length handles + length workers + length left ≡ sizes.slots + sizes.workers
  pub next : (i : ℕ) → i < length left → slice_get left i ≡ Some (fresh_place lock (length handles + length workers + i) (sizes.slots + sizes.workers))
  pub handles_are : (k : ℕ) → k < length handles → slice_get handles k ≡ Some (new_handle (device_at lock sizes.slots sizes.workers) k)
  pub workers_are : (k : ℕ) → k < length workers → slice_get workers k ≡ Some (new_worker (device_at lock sizes.slots sizes.workers) k)

get_front : {A : Type 0} (xs : List A) (x : A) (k : ℕ) → k < length xs → slice_get (xs ++ x ∷ []) k ≡ slice_get xs k
get_front [] x k l = absurd (omega arith)
get_front (y ∷ xs) x zero l = refl
get_front (y ∷ xs) x (suc k) l = get_front xs x k (omega arith)

get_end : {A : Type 0} (xs : List A) (x : A) → slice_get (xs ++ x ∷ []) (length xs) ≡ Some x
get_end [] x = refl
get_end (y ∷ xs) x = get_end xs x

-- one more at the end of a list whose elements are known
one_more : {A : Type 0} (f : ℕ → A) (xs : List A) (x : A) → x ≡ f (length xs) → ((k : ℕ) → k < length xs → slice_get xs k ≡ Some (f k)) → (k : ℕ) → k < length (xs ++ x ∷ []) → slice_get (xs ++ x ∷ []) k ≡ Some (f k)
one_more f xs x is each k l = split (ltb k (length xs)) refl
  where
    split : (b : Bool) → ltb k (length xs) ≡ b → slice_get (xs ++ x ∷ []) k ≡ Some (f k)
    split true e = let m = ltb-true k (length xs) e in get_front xs x k m ∙ each k m
    split false e =
        let m = ltb-false k (length xs) e in
        let same : k ≡ length xs = omega (arith, length-append xs (x ∷ []), l) in
        ap (slice_get (xs ++ x ∷ [])) same ∙ (get_end xs x ∙ (ap Some is ∙ ap (λ i. Some (f i)) (sym same)))

-- the next seat
pub next_is : (lock : TableId) (sizes : Sizes) (all left : List Place) (p : Place) (handles : List HandleState) (workers : List WorkerState) → Dealt lock sizes all handles workers → all ≡ p ∷ left → p ≡ fresh_place lock (length handles + length workers) (sizes.slots + sizes.workers)
next_is lock sizes all left p handles workers d e =
    let one : Some p ≡ Some (fresh_place lock (length handles + length workers + 0) (sizes.slots + sizes.workers)) = ap (λ l. slice_get l 0) (sym e) ∙ d.next 0 (let l = ap length e in omega arith) in
    let z : p ≡ fresh_place lock (length handles + length workers + 0) (sizes.slots + sizes.workers) = cc in
    z ∙ (let n : length handles + length workers + 0 ≡ length handles + length workers = omega arith in ap (λ i. fresh_place lock i (sizes.slots + sizes.workers)) n)

rest_is : (lock : TableId) (count n m : ℕ) (all left : List Place) (p : Place) → all ≡ p ∷ left → m ≡ n + 1 → ((i : ℕ) → i < length all → slice_get all i ≡ Some (fresh_place lock (n + i) count)) → (i : ℕ) → i < length left → slice_get left i ≡ Some (fresh_place lock (m + i) count)
rest_is lock count n m all left p e h next i l =
    ap (λ x. slice_get x (suc i)) (sym e) ∙ (next (suc i) (let z = ap length e in omega arith) ∙ (let q : n + suc i ≡ m + i = omega arith in ap (λ x. Some (fresh_place lock x count)) q))

pub slot_dealt : (lock : TableId) (sizes : Sizes) (all left : List Place) (p : Place) (handles : List HandleState) (workers : List WorkerState) (h : HandleState)
    → Dealt lock sizes all handles workers → all ≡ p ∷ left → length handles < sizes.slots → h ≡ new_handle (device_at lock sizes.slots sizes.workers) (length handles)
    → Dealt lock sizes left (handles ++ h ∷ []) workers
slot_dealt lock sizes all left p handles workers h d e l is =
    let n = length-append handles (h ∷ []) in
    let m = ap length e in
    let none = d.in_order l in
    record {
      some_handles = omega (arith, n, l);
      some_workers = d.some_workers;
      in_order = λ b. none;
      in_all = omega (arith, n, m, d.in_all);
      next = rest_is lock _ (length handles + length workers) (length (handles ++ h ∷ []) + length workers) all left p e (omega (arith, n)) d.next;
      handles_are = one_more (new_handle (device_at lock sizes.slots sizes.workers)) handles h is d.handles_are;
      workers_are = d.workers_are;
    }

pub worker_dealt : (lock : TableId) (sizes : Sizes) (all left : List Place) (p : Place) (handles : List HandleState) (workers : List WorkerState) (w : WorkerState)
    → Dealt lock sizes all handles workers → all ≡ p ∷ left → sizes.slots ≤ length handles → w ≡ new_worker (device_at lock sizes.slots sizes.workers) (length workers)
    → Dealt lock sizes left handles (workers ++ w ∷ [])
worker_dealt lock sizes all left p handles workers w d e l is =
    let n = length-append workers (w ∷ []) in
    let m = ap length e in
    record {
      some_handles = d.some_handles;
      some_workers = omega (arith, n, m, l, d.in_all, d.some_handles);
      in_order = λ b. absurd (omega (arith, b, l));
      in_all = omega (arith, n, m, d.in_all);
      next = rest_is lock _ (length handles + length workers) (length handles + length (workers ++ w ∷ [])) all left p e (omega (arith, n)) d.next;
      handles_are = d.handles_are;
      workers_are = one_more (new_worker (device_at lock sizes.slots sizes.workers)) workers w is d.workers_are;
    }

pub none_dealt : (lock : TableId) (sizes : Sizes) (all : List Place) → length all ≡ sizes.slots + sizes.workers → ((k : ℕ) → k < length all → slice_get all k ≡ Some (fresh_place lock k (sizes.slots + sizes.workers))) → Dealt lock sizes all [] []
none_dealt lock sizes all n each =
    record {
      some_handles = omega arith;
      some_workers = omega arith;
      in_order = λ b. refl;
      in_all = omega (arith, n);
      next = λ i l. each i l ∙ (let q : i ≡ 0 + 0 + i = omega arith in ap (λ x. Some (fresh_place lock x (sizes.slots + sizes.workers))) q);
      handles_are = λ k l. absurd (omega arith);
      workers_are = λ k l. absurd (omega arith);
    }

pub all_dealt : (lock : TableId) (sizes : Sizes) (left : List Place) (handles : List HandleState) (workers : List WorkerState) → Dealt lock sizes left handles workers
    → length left ≡ 0
    → AreNewHandles (device_at lock sizes.slots sizes.workers) sizes.slots handles × AreNewWorkers (device_at lock sizes.slots sizes.workers) sizes.workers workers
all_dealt lock sizes left handles workers d e =
    let h : length handles ≡ sizes.slots = omega (arith, d.in_all, d.some_handles, d.some_workers) in
    let w : length workers ≡ sizes.workers = omega (arith, d.in_all, d.some_handles, d.some_workers) in (
      record { all = h; each = λ k l. d.handles_are k (omega (arith, l, h)) },
      record { all = w; each = λ k l. d.workers_are k (omega (arith, l, w)) },
    )

-- the core as it is made stands for the empty history
pub first_stands : (slots workers : ℕ) (core : CoreState) → core ≡ new_core slots workers → workers ≤ 64 → StandsForLog slots workers core []
first_stands slots workers core is few =
    subst (λ c. StandsForLog slots workers c []) (sym is) (record { stands = new_core_stands the_coder slots workers few; entries = record { steps = tt; own = tt }; slot_count = length-replicate slots None; worker_count = length-replicate workers None })
