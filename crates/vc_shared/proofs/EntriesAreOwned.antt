-- The entries of a seat in a log are those that its owner made: the calls of its slot, or the claims and finishes of its worker.
-- No other seat may add such an event, so they stand where the seat's entries stand.
use Rattle.std.proofs.Common.{ℕ, suc, ◌≡◌, ◌+◌, ◌-◌, ◌==◌, eqb, nat_lt, Bool, true, false, cond, ◌&&◌, ◌||◌, Some, List, [], ◌∷◌, ◌++◌, length, refl, sym, ap, ◌∙◌, subst, arith, append_assoc, length-append}
use Rattle.std.specs.Prelude.{slice_get}
use Rattle.std.specs.List.{filter}
use Rattle.std.proofs.lemmas.List.{map-append}
use Rattle.std.proofs.lemmas.Bool.{eqb-true, eqb-false, ltb-true, ltb-false, false≢true}
use Rattle.std.proofs.lemmas.Bool.Decides.{nat_tests}
use mathlib.Core.List.{IsPrefix}
use Rattle.vc_base.specs.Device.{DeviceEvent, call, claim, finish, shut}
use Rattle.vc_model.specs.Coder.{the_coder}
use Rattle.vc_model.specs.Devices.{device_step}
use Rattle.vc_model.specs.Standing.{IsHistory}
use Rattle.vc_model.specs.Seats.{handle_of, worker_of, may_add, is_call_of, is_step_of, is_call_event, positions_from, calls_at, steps_at, calls_among}
use Rattle.vc_model.proofs.HistoriesGrow.{histories_grow}
use Rattle.vc_turn.specs.declared.rule.Noted.{Noted}
use Rattle.vc_turn.specs.History.{places_from, places}
use Rattle.vc_shared.specs.Histories.{after, events_of, owner_of, AreOwn, IsLog}

-- Whose an entry is

or_false : (b : Bool) → (b || false) ≡ true → b ≡ true
or_false true e = refl
or_false false e = absurd (false≢true e)

and_false : (b : Bool) → false ≡ (b && false)
and_false true = refl
and_false false = refl

and_true : (b : Bool) → b ≡ (b && true)
and_true true = refl
and_true false = refl

differs : (i j : ℕ) → (i ≡ j → ⊥) → (i == j) ≡ false
differs i j h = split (eqb i j) refl
  where
    split : (b : Bool) → eqb i j ≡ b → b ≡ false
    split true e = absurd (h (eqb-true i j e))
    split false e = refl

alike : (i j : ℕ) → i ≡ j → (i == j) ≡ true
alike i j e = grind (arith, nat_tests)

own_call : (slots number j k : ℕ) (b : Bool) (request : Rattle.vc_base.specs.declared.Call.Call) (bytes : List ℕ) (found : Bool) → may_add (cond b (handle_of number) (worker_of (number - slots))) (call j request bytes found) ≡ true → (j == k) ≡ ((number == k) && true)
own_call slots number j k true request bytes found h = ap (λ i. i == k) (eqb-true j number (or_false (eqb j number) h)) ∙ and_true (number == k)
own_call slots number j k false request bytes found h = absurd (false≢true h)

-- an entry is a call of the slot where it is one of its seat and a call
pub call_is_own : (slots number k : ℕ) (e : DeviceEvent) → may_add (owner_of slots number) e ≡ true → is_call_of k e ≡ ((number == k) && is_call_event (Some e))
call_is_own slots number k (call j request bytes found) h = own_call slots number j k (nat_lt number slots) request bytes found h
call_is_own slots number k (claim worker) h = and_false (number == k)
call_is_own slots number k (finish worker fault) h = and_false (number == k)
call_is_own slots number k shut h = and_false (number == k)

handle_below : (slots number worker : ℕ) → nat_lt number slots ≡ true → false ≡ (number == slots + worker)
handle_below slots number worker e =
    sym (differs number (slots + worker) (λ z. let l = ltb-true number slots e in omega arith))

same_worker : (slots number v worker : ℕ) → nat_lt number slots ≡ false → (v == (number - slots)) ≡ true → (v == worker) ≡ (number == slots + worker)
same_worker slots number v worker e h =
    let l = ltb-false number slots e in
    let z = eqb-true v (number - slots) h in
    let n : number ≡ slots + v = omega arith in
    split (eqb v worker) refl n
  where
    split : (b : Bool) → eqb v worker ≡ b → number ≡ slots + v → b ≡ (number == slots + worker)
    split true p n = let w = eqb-true v worker p in sym (alike number (slots + worker) (omega arith))
    split false p n = sym (differs number (slots + worker) (λ y. eqb-false v worker p (omega arith)))

own_step : (slots number v worker : ℕ) (b : Bool) (e : DeviceEvent) → nat_lt number slots ≡ b → (is_step_of worker e ≡ (v == worker))
    → ((w : ℕ) → may_add (handle_of w) e ≡ false) → ((w : ℕ) → may_add (worker_of w) e ≡ (v == w))
    → may_add (cond b (handle_of number) (worker_of (number - slots))) e ≡ true → is_step_of worker e ≡ (number == slots + worker)
own_step slots number v worker true e l is other own h = absurd (false≢true (sym (other number) ∙ h))
own_step slots number v worker false e l is other own h = is ∙ same_worker slots number v worker l (sym (own (number - slots)) ∙ h)

own_call_not : (slots number j worker : ℕ) (b : Bool) (request : Rattle.vc_base.specs.declared.Call.Call) (bytes : List ℕ) (found : Bool) → nat_lt number slots ≡ b
    → may_add (cond b (handle_of number) (worker_of (number - slots))) (call j request bytes found) ≡ true → false ≡ (number == slots + worker)
own_call_not slots number j worker true request bytes found l h = handle_below slots number worker l
own_call_not slots number j worker false request bytes found l h = absurd (false≢true h)

own_shut_not : (slots number worker : ℕ) (b : Bool) → nat_lt number slots ≡ b → may_add (cond b (handle_of number) (worker_of (number - slots))) shut ≡ true → false ≡ (number == slots + worker)
own_shut_not slots number worker true l h = handle_below slots number worker l
own_shut_not slots number worker false l h = absurd (false≢true h)

-- an entry is a step of the worker where it is one of its seat
pub step_is_own : (slots number worker : ℕ) (e : DeviceEvent) → may_add (owner_of slots number) e ≡ true → is_step_of worker e ≡ (number == slots + worker)
step_is_own slots number worker (call j request bytes found) h = own_call_not slots number j worker (nat_lt number slots) request bytes found refl h
step_is_own slots number worker (claim v) h = own_step slots number v worker (nat_lt number slots) (claim v) refl refl (λ w. refl) (λ w. refl) h
step_is_own slots number worker (finish v fault) h = own_step slots number v worker (nat_lt number slots) (finish v fault) refl refl (λ w. refl) (λ w. refl) h
step_is_own slots number worker shut h = own_shut_not slots number worker (nat_lt number slots) refl h

-- Positions

at_end : {A : Type 0} (xs : List A) (x : A) (ys : List A) → slice_get (xs ++ x ∷ ys) (length xs) ≡ Some x
at_end [] x ys = refl
at_end (y ∷ xs) x ys = at_end xs x ys

one_more : {A : Type 0} (xs : List A) (x : A) (ys : List A) → xs ++ x ∷ ys ≡ (xs ++ x ∷ []) ++ ys
one_more xs x ys = sym (append_assoc xs (x ∷ []) ys)

kept : (history : List DeviceEvent) (i j : ℕ) (e : DeviceEvent) (seat : Bool) (positions own : List ℕ) → i ≡ j → slice_get history j ≡ Some e → positions ≡ filter (λ p. is_call_event (slice_get history p)) own
    → cond (seat && is_call_event (Some e)) (i ∷ positions) positions ≡ filter (λ p. is_call_event (slice_get history p)) (cond seat (j ∷ own) own)
kept history i j e false positions own same at h = h
kept history i j e true positions own same at h =
    let f : ℕ → Bool = λ p. is_call_event (slice_get history p) in
    let is : is_call_event (Some e) ≡ f j = ap is_call_event (sym at) in
    ap (λ b. cond b (i ∷ positions) positions) is ∙ ((λ t. cond (f j) (same t ∷ h t) (h t)))

calls_from : (history pre : List DeviceEvent) (es : List Noted) (slots k i j : ℕ) → history ≡ pre ++ events_of es → i ≡ length pre → j ≡ length pre → AreOwn slots es
    → positions_from (is_call_of k) i (events_of es) ≡ filter (λ p. is_call_event (slice_get history p)) (places_from j k es)
calls_from history pre [] slots k i j h a b own = refl
calls_from history pre (x ∷ es) slots k i j h a b own =
    let next = pre ++ x.event ∷ [] in
    let n : length next ≡ length pre + 1 = length-append pre (x.event ∷ []) in
    let rest = calls_from history next es slots k (i + 1) (suc j) (h ∙ one_more pre x.event (events_of es)) (omega arith) (omega arith) own.1 in
    let at : slice_get history j ≡ Some x.event = ap (λ l. slice_get l j) h ∙ (ap (slice_get (pre ++ x.event ∷ events_of es)) b ∙ at_end pre x.event (events_of es)) in
    ap (λ t. cond t (i ∷ positions_from (is_call_of k) (i + 1) (events_of es)) (positions_from (is_call_of k) (i + 1) (events_of es))) (call_is_own slots x.seat k x.event own.0)
    ∙ kept history i j x.event (x.seat == k) (positions_from (is_call_of k) (i + 1) (events_of es)) (places_from (suc j) k es) (a ∙ sym b) at rest

-- the calls of a slot are those among the entries of its seat
pub own_calls : (slots k : ℕ) (log : List Noted) → AreOwn slots log → calls_at k (events_of log) ≡ calls_among (events_of log) (places k log)
own_calls slots k log own = calls_from (events_of log) [] log slots k 0 0 refl refl refl own

steps_from : (es : List Noted) (slots worker i j : ℕ) → i ≡ j → AreOwn slots es → positions_from (is_step_of worker) i (events_of es) ≡ places_from j (slots + worker) es
steps_from [] slots worker i j a own = refl
steps_from (x ∷ es) slots worker i j a own =
    let rest = steps_from es slots worker (i + 1) (suc j) (omega arith) own.1 in
    ap (λ t. cond t (i ∷ positions_from (is_step_of worker) (i + 1) (events_of es)) (positions_from (is_step_of worker) (i + 1) (events_of es))) (step_is_own slots x.seat worker x.event own.0)
    ∙ (λ t. cond (x.seat == (slots + worker)) (a t ∷ rest t) (rest t))

-- the claims and finishes of a worker are the entries of its seat
pub own_steps : (slots worker : ℕ) (log : List Noted) → AreOwn slots log → steps_at worker (events_of log) ≡ places (slots + worker) log
own_steps slots worker log own = steps_from log slots worker 0 0 refl own

-- Longer logs

pub events-append : (xs ys : List Noted) → events_of (xs ++ ys) ≡ events_of xs ++ events_of ys
events-append xs ys = map-append (λ (e : Noted). e.event) xs ys

own-append : (slots : ℕ) (xs ys : List Noted) → AreOwn slots xs → AreOwn slots ys → AreOwn slots (xs ++ ys)
own-append slots [] ys o p = p
own-append slots (x ∷ xs) ys o p = (o.0, own-append slots xs ys o.1 p)

pub own_rest : (slots : ℕ) (xs ys : List Noted) → AreOwn slots (xs ++ ys) → AreOwn slots ys
own_rest slots [] ys o = o
own_rest slots (x ∷ xs) ys o = own_rest slots xs ys o.1

abbrev pub entry : ℕ → DeviceEvent → Noted
entry number e = record { seat = number; event = e }

pub longer_log : (slots number : ℕ) (log : List Noted) (e : DeviceEvent) → IsLog slots log → may_add (owner_of slots number) e ≡ true → (device_step the_coder (after slots (events_of log)) e).device.steps ≡ (after slots (events_of log)).steps + 1 → IsLog slots (log ++ entry number e ∷ [])
longer_log slots number log e l may step =
    record {
      steps = subst (IsHistory the_coder slots) (sym (events-append log (entry number e ∷ []))) (histories_grow the_coder slots (events_of log) e l.steps step);
      own = own-append slots log (entry number e ∷ []) l.own (may, tt);
    }

step_if : (b : Bool) (at : ℕ) (r t : List ℕ) → cond b (at ∷ (r ++ t)) (r ++ t) ≡ cond b (at ∷ r) r ++ t
step_if true at r t = refl
step_if false at r t = refl

pub places-append : (at number : ℕ) (xs ys : List Noted) → places_from at number (xs ++ ys) ≡ places_from at number xs ++ places_from (length xs + at) number ys
places-append at number [] ys = let e : at ≡ 0 + at = omega arith in ap (λ k. places_from k number ys) e
places-append at number (x ∷ xs) ys =
    ap (λ r. cond (x.seat == number) (at ∷ r) r) (places-append (suc at) number xs ys)
    ∙ (step_if (x.seat == number) at (places_from (suc at) number xs) (places_from (length xs + suc at) number ys) ∙ let e : length xs + suc at ≡ suc (length xs) + at = omega arith in ap (λ k. places_from at number (x ∷ xs) ++ places_from k number ys) e)

no_more : (l m : List ℕ) → l ++ m ≡ l → m ≡ []
no_more l [] e = refl
no_more l (x ∷ m) e = absurd (omega (arith, length-append l (x ∷ m), ap length e))

-- where a seat has no more entries in a longer log, none stands in what is added
pub none_added : (number : ℕ) (xs ys : List Noted) → places number (xs ++ ys) ≡ places number xs → places_from (length xs + 0) number ys ≡ []
none_added number xs ys e =
    no_more (places number xs) (places_from (length xs + 0) number ys) (sym (places-append 0 number xs ys) ∙ e)

-- Beginnings

pub prefix_self : {A : Type 0} (xs : List A) → IsPrefix xs xs
prefix_self xs = ([], append_nil xs)
  where
    append_nil : {A : Type 0} (l : List A) → l ++ [] ≡ l
    append_nil [] = refl
    append_nil (x ∷ l) = ap (λ m. x ∷ m) (append_nil l)

pub prefix_events : (xs ys : List Noted) → IsPrefix xs ys → IsPrefix (events_of xs) (events_of ys)
prefix_events xs ys p = (events_of p.0, sym (events-append xs p.0) ∙ ap events_of p.1)
