-- How the seats of a device come together in the seat of slot 0, and what is known then. Each that is joined leaves what it has
-- seen and the places of its entries; once all are there, the lock tells that they are all of the one history.
use Rattle.std.proofs.Common.{ℕ, zero, suc, ◌≡◌, ◌<◌, ◌+◌, ◌-◌, ltb, nat_lt, Bool, true, false, cond, Some, List, [], ◌∷◌, ◌++◌, map, length, slice_get, refl, sym, ap, ◌∙◌, subst, arith, append_assoc, append-nil, length-append}
use Rattle.std.proofs.lemmas.List.{length-map, map-append}
use Rattle.std.proofs.lemmas.Option.{slice_get-get_or}
use Rattle.std.proofs.lemmas.Bool.{ltb-true, ltb-false, lt-ltb, le-ltb}
use Rattle.std.specs.Prelude.{get_or}
use mathlib.Core.List.{IsPrefix}
use Rattle.atomic_table.specs.Seated.{TableId}
use Rattle.vc_base.specs.Device.{DeviceEvent}
use Rattle.vc_model.specs.Coder.{the_coder}
use Rattle.vc_model.specs.Standing.{CoreState, Stands}
use Rattle.vc_model.specs.Seats.{handle_of, worker_of, Seat, OwnedSeat, IsSeatOf, AreSeatsOf}
use Rattle.vc_model.proofs.CoresStandForDevices.{steps_are_history}
use Rattle.vc_turn.specs.declared.rule.Noted.{Noted}
use Rattle.vc_turn.specs.declared.rule.Kept.{Kept}
use Rattle.vc_turn.specs.History.{places}
use Rattle.vc_turn.specs.Place.{Place, kept_place, KeepsAll, IsWholeOf}
use Rattle.vc_turn.specs.Rule.{At}
use Rattle.vc_shared.specs.Histories.{events_of, owner_of, IsLog, StandsForLog}
use Rattle.vc_shared.specs.Handles.{DeviceId, HandleState, seat_of}
use Rattle.vc_shared.specs.Workers.{WorkerState}
use Rattle.vc_shared.specs.Closing.{AreHandlesOf, AreWorkersOf, owned_handle, owned_worker, owned_seats, IsClosed}
use Rattle.vc_shared.specs.Joining.{IsSeatAt, IsKeptAt, HasJoined}
use Rattle.vc_shared.proofs.EntriesAreOwned.{prefix_events}
use Rattle.vc_shared.proofs.CallsByHandle.{same_steps}
use Rattle.vc_shared.proofs.EntriesHaveOneSeat.{is_seat, are_below, each_once}

-- Joining one more

at_front : {A : Type 0} (xs : List A) (i : ℕ) (x y : A) → At xs i x → At (xs ++ y ∷ []) i x
at_front [] i x y e = absurd (cc)
at_front (z ∷ xs) zero x y e = e
at_front (z ∷ xs) (suc i) x y e = at_front xs i x y e

at_end : {A : Type 0} (xs : List A) (y : A) → At (xs ++ y ∷ []) (length xs) y
at_end [] y = refl
at_end (z ∷ xs) y = at_end xs y

get_front : {A : Type 0} (xs ys : List A) (k : ℕ) → k < length xs → slice_get (xs ++ ys) k ≡ slice_get xs k
get_front [] ys k l = absurd (omega arith)
get_front (x ∷ xs) ys zero l = refl
get_front (x ∷ xs) ys (suc k) l = get_front xs ys k (omega arith)

get_end : {A : Type 0} (xs : List A) (y : A) (ys : List A) → slice_get (xs ++ y ∷ ys) (length xs) ≡ Some y
get_end [] y ys = refl
get_end (x ∷ xs) y ys = get_end xs y ys

get_inside : {A : Type 0} (xs : List A) (k : ℕ) (x : A) → slice_get xs k ≡ Some x → k < length xs
get_inside [] k x e = absurd (cc)
get_inside (y ∷ xs) zero x e = omega arith
get_inside (y ∷ xs) (suc k) x e = let h = get_inside xs k x e in omega arith

abbrev with_kept : Place → Place → Place
with_kept p q = record p { kept = p.kept ++ kept_place q ∷ [] }

kept_before : (slots : ℕ) (kept : List Kept) (k : Kept) (place : ℕ) (knew : Seat) → IsKeptAt slots kept place knew → IsKeptAt slots (kept ++ k ∷ []) place knew
kept_before slots kept k place knew h =
    record { lists = h.lists; at = at_front kept place h.lists k h.at; number = h.number; known = h.known; entries = h.entries; own = h.own }

kept_now : (device : DeviceId) (kept : List Kept) (q : Place) (s knew : Seat) (place : ℕ) → place ≡ length kept → IsSeatAt device (suc place) s q → s ≡ knew → IsKeptAt device.slots (kept ++ kept_place q ∷ []) place knew
kept_now device kept q s knew place e at is =
    record {
      lists = kept_place q;
      at = subst (λ i. At (kept ++ kept_place q ∷ []) i (kept_place q)) (sym e) (at_end kept (kept_place q));
      number = at.rest.numbered;
      known = at.known ∙ is;
      entries = at.rest.entries;
      own = ap (λ i. places i q.seen) (sym at.rest.numbered) ∙ at.rest.places;
    }

-- one seat more is joined
joins_one : (device : DeviceId) (p q : Place) (seats : List Seat) (s : Seat) → HasJoined device p seats → IsSeatAt device (length seats) s q → HasJoined device (with_kept p q) (seats ++ s ∷ [])
joins_one device p q seats s j at =
    record {
      lock = j.lock;
      number = j.number;
      idle = j.idle;
      made = j.made;
      entries = j.entries;
      own = j.own;
      known = get_front seats (s ∷ []) 0 (let n = j.all in omega arith) ∙ j.known;
      all = omega (arith, j.all, length-append p.kept (kept_place q ∷ []), length-append seats (s ∷ []));
      kept = λ place knew e. split place knew e (ltb (suc place) (length seats)) refl;
    }
  where
    split : (place : ℕ) (knew : Seat) → slice_get (seats ++ s ∷ []) (suc place) ≡ Some knew → (b : Bool) → ltb (suc place) (length seats) ≡ b → IsKeptAt device.slots (p.kept ++ kept_place q ∷ []) place knew
    split place knew e true l =
        kept_before device.slots p.kept (kept_place q) place knew (j.kept place knew (sym (get_front seats (s ∷ []) (suc place) (ltb-true (suc place) (length seats) l)) ∙ e))
    split place knew e false l =
        let m = ltb-false (suc place) (length seats) l in
        let i = get_inside (seats ++ s ∷ []) (suc place) knew e in
        let here : suc place ≡ length seats = omega (arith, length-append seats (s ∷ [])) in
        let one : Some s ≡ Some knew = sym (get_end seats s []) ∙ (ap (slice_get (seats ++ s ∷ [])) (sym here) ∙ e) in
        kept_now device p.kept q s knew place (omega (arith, here, j.all)) (subst (λ n. IsSeatAt device n s q) (sym here) at) cc

-- the first seat is joined with none
joins_first : (device : DeviceId) (p : Place) (s : Seat) → IsSeatAt device 0 s p → HasJoined device p (s ∷ [])
joins_first device p s at =
    record {
      lock = at.lock;
      number = at.rest.numbered;
      idle = at.rest.idle;
      made = at.rest.made;
      entries = at.rest.entries;
      own = ap (λ i. places i p.seen) (sym at.rest.numbered) ∙ at.rest.places;
      known = ap Some (sym at.known);
      all = ap (λ l. length l + 1) at.rest.alone;
      kept = λ place knew e. absurd (none place knew e);
    }
  where
    none : (place : ℕ) (knew : Seat) → slice_get (s ∷ []) (suc place) ≡ Some knew → ⊥
    none place knew e = cc

-- The seats of the slots

abbrev pub seats_of : List HandleState → List Seat
seats_of handles = map (λ h. h.seat) handles

-- The seats that are gone were joined, and those that are left come next.
pub record AreJoining (lock : TableId) (p : Place) (all left : List HandleState) : Type 0 where
  pub held : p.turn ≡ lock
  pub number : p.number ≡ 0
  pub idle : p.serving ≡ false
  pub gone : List HandleState
  pub all_are : all ≡ gone ++ left
  pub joined : (device : DeviceId) → AreHandlesOf device all → HasJoined device p (seats_of gone)

abbrev pub AreOnes : TableId → List HandleState → Type 0
AreOnes lock all =
    (k : ℕ) (h : HandleState) → slice_get all k ≡ Some h → (h.device.lock ≡ lock) × (h.slot ≡ k)

at_device : (device : DeviceId) (h : HandleState) (k number : ℕ) (q : Place) → (h.device ≡ device) × (h.slot ≡ k) → k ≡ number → IsSeatAt h.device h.slot h.seat q → IsSeatAt device number h.seat q
at_device device h k number q e n at = subst (λ (x : DeviceId × ℕ). IsSeatAt x.0 x.1 h.seat q) (λ i. (e.0 i, (e.1 ∙ n) i)) at

pub first_joining : (lock : TableId) (all left : List HandleState) (h : HandleState) (p : Place) → AreOnes lock all → all ≡ h ∷ left → IsSeatAt h.device h.slot h.seat p → AreJoining lock p all left
first_joining lock all left h p ones e at =
    let here : slice_get all 0 ≡ Some h = ap (λ l. slice_get l 0) e in
    let one = ones 0 h here in
    record {
      held = at.lock ∙ one.0;
      number = at.rest.numbered ∙ one.1;
      idle = at.rest.idle;
      gone = h ∷ [];
      all_are = e;
      joined = λ device are. joins_first device p h.seat (at_device device h 0 0 p (are.each 0 h here) refl at);
    }

pub next_joining : (lock : TableId) (all now left : List HandleState) (h : HandleState) (p q : Place) → AreJoining lock p all now → now ≡ h ∷ left → IsSeatAt h.device h.slot h.seat q → AreJoining lock (with_kept p q) all left
next_joining lock all now left h p q j e at =
    let whole : all ≡ j.gone ++ h ∷ left = j.all_are ∙ ap (λ l. j.gone ++ l) e in
    let here : slice_get all (length j.gone) ≡ Some h = ap (λ l. slice_get l (length j.gone)) whole ∙ get_end j.gone h left in
    record {
      held = j.held;
      number = j.number;
      idle = j.idle;
      gone = j.gone ++ h ∷ [];
      all_are = whole ∙ sym (append_assoc j.gone (h ∷ []) left);
      joined = λ device are. subst (HasJoined device (with_kept p q)) (sym (map-append (λ (x : HandleState). x.seat) j.gone (h ∷ [])))
          (joins_one device p q (seats_of j.gone) h.seat (j.joined device are) (at_device device h (length j.gone) (length (seats_of j.gone)) q (are.each (length j.gone) h here) (sym (length-map j.gone (λ (x : HandleState). x.seat))) at));
    }

-- the next seat is one at the lock
pub next_lock : (lock : TableId) (all now left : List HandleState) (h : HandleState) (p : Place) → AreOnes lock all → AreJoining lock p all now → now ≡ h ∷ left → h.device.lock ≡ lock
next_lock lock all now left h p ones j e =
    (ones (length j.gone) h (ap (λ l. slice_get l (length j.gone)) (j.all_are ∙ ap (λ l. j.gone ++ l) e) ∙ get_end j.gone h left)).0

pub all_joined : (lock : TableId) (all left : List HandleState) (p : Place) → AreJoining lock p all left → length left ≡ 0 → (device : DeviceId) → AreHandlesOf device all → HasJoined device p (seats_of all)
all_joined lock all left p j none device are =
    subst (λ l. HasJoined device p (seats_of l)) (sym (j.all_are ∙ end left none)) (j.joined device are)
  where
    end : (l : List HandleState) → length l ≡ 0 → j.gone ++ l ≡ j.gone
    end [] e = append-nil j.gone
    end (x ∷ l) e = absurd (omega (arith, e))

-- The seats of the workers

abbrev pub seats_of_workers : List WorkerState → List Seat
seats_of_workers workers = map (λ w. w.seat) workers

pub record AreJoiningToo (lock : TableId) (first p : Place) (all left : List WorkerState) : Type 0 where
  pub held : p.turn ≡ lock
  pub number : p.number ≡ 0
  pub idle : p.serving ≡ false
  pub gone : List WorkerState
  pub all_are : all ≡ gone ++ left
  pub joined : (device : DeviceId) (seats : List Seat) → HasJoined device first seats → length seats ≡ device.slots → AreWorkersOf device all → HasJoined device p (seats ++ seats_of_workers gone)

pub none_joining : (lock : TableId) (first : Place) (all : List WorkerState) → first.turn ≡ lock → first.number ≡ 0 → first.serving ≡ false → AreJoiningToo lock first first all all
none_joining lock first all a b c =
    record {
      held = a;
      number = b;
      idle = c;
      gone = [];
      all_are = refl;
      joined = λ device seats j n are. subst (HasJoined device first) (sym (append-nil seats)) j;
    }

worker_at_device : (device : DeviceId) (w : WorkerState) (k number : ℕ) (q : Place) → (w.device ≡ device) × (w.worker ≡ k) → device.slots + k ≡ number → IsSeatAt w.device (w.device.slots + w.worker) w.seat q → IsSeatAt device number w.seat q
worker_at_device device w k number q e n at =
    subst (λ i. IsSeatAt device i w.seat q) n (subst (λ (x : DeviceId × ℕ). IsSeatAt x.0 (x.0.slots + x.1) w.seat q) (λ i. (e.0 i, e.1 i)) at)

pub next_joining_too : (lock : TableId) (first : Place) (all now left : List WorkerState) (w : WorkerState) (p q : Place) → AreJoiningToo lock first p all now → now ≡ w ∷ left → IsSeatAt w.device (w.device.slots + w.worker) w.seat q → AreJoiningToo lock first (with_kept p q) all left
next_joining_too lock first all now left w p q j e at =
    let whole : all ≡ j.gone ++ w ∷ left = j.all_are ∙ ap (λ l. j.gone ++ l) e in
    let here : slice_get all (length j.gone) ≡ Some w = ap (λ l. slice_get l (length j.gone)) whole ∙ get_end j.gone w left in
    record {
      held = j.held;
      number = j.number;
      idle = j.idle;
      gone = j.gone ++ w ∷ [];
      all_are = whole ∙ sym (append_assoc j.gone (w ∷ []) left);
      joined = λ device seats joined n are. subst (HasJoined device (with_kept p q)) (append_assoc seats (seats_of_workers j.gone) (w.seat ∷ []) ∙ ap (λ l. seats ++ l)
          (sym (map-append (λ (x : WorkerState). x.seat) j.gone (w ∷ [])))) (joins_one device p q (seats ++ seats_of_workers j.gone) w.seat (j.joined device seats joined n are)
          (worker_at_device device w (length j.gone) (length (seats ++ seats_of_workers j.gone)) q (are.each (length j.gone) w here) (let a = length-append seats (seats_of_workers j.gone) in let b = length-map j.gone (λ (x : WorkerState). x.seat) in omega arith) at));
    }

pub next_lock_too : (lock : TableId) (first p : Place) (all now left : List WorkerState) (w : WorkerState) → ((k : ℕ) (x : WorkerState) → slice_get all k ≡ Some x → x.device.lock ≡ lock) → AreJoiningToo lock first p all now → now ≡ w ∷ left → w.device.lock ≡ lock
next_lock_too lock first p all now left w ones j e =
    ones (length j.gone) w (ap (λ l. slice_get l (length j.gone)) (j.all_are ∙ ap (λ l. j.gone ++ l) e) ∙ get_end j.gone w left)

pub all_joined_too : (lock : TableId) (first : Place) (all left : List WorkerState) (p : Place) → AreJoiningToo lock first p all left → length left ≡ 0
    → (device : DeviceId) (seats : List Seat) → HasJoined device first seats → length seats ≡ device.slots → AreWorkersOf device all
    → HasJoined device p (seats ++ seats_of_workers all)
all_joined_too lock first all left p j none device seats joined n are =
    subst (λ l. HasJoined device p (seats ++ seats_of_workers l)) (sym (j.all_are ∙ end left none)) (j.joined device seats joined n are)
  where
    end : (l : List WorkerState) → length l ≡ 0 → j.gone ++ l ≡ j.gone
    end [] e = append-nil j.gone
    end (x ∷ l) e = absurd (omega (arith, e))

-- Closing

no_seat : Seat
no_seat = record { seen = []; mine = [] }

-- all other seats are kept
pub keeps_all : (device : DeviceId) (p : Place) (seats : List Seat) → HasJoined device p seats → length seats ≡ device.slots + device.workers → KeepsAll p
keeps_all device p seats j n number past few = split number past few
  where
    split : (number : ℕ) → 0 < number → number < p.made → (at : ℕ) × (k : Kept) × At p.kept at k × (k.number ≡ number)
    split zero past few = absurd (omega arith)
    split (suc place) past few =
        let l : suc place < length seats = omega (arith, few, j.made, n) in
        let k = j.kept place (get_or seats (suc place) no_seat) (slice_get-get_or seats (suc place) no_seat l) in
        (place, k.lists, k.at, k.number)

-- What is known of a seat: the history begins with what it has seen, and its entries there are those that it noted.
record Knows (slots number : ℕ) (history : List Noted) (s : Seat) : Type 0 where
  pub seen : List Noted
  pub saw : s.seen ≡ events_of seen
  pub begins : IsPrefix seen history
  pub entries : IsLog slots seen
  pub noted : s.mine ≡ places number seen
  pub mine : s.mine ≡ places number history

knows : (device : DeviceId) (p : Place) (seats : List Seat) (history : List Noted) → HasJoined device p seats → IsWholeOf history p → (number : ℕ) (s : Seat) → slice_get seats number ≡ Some s → Knows device.slots number history s
knows device p seats history j w zero s e =
    let one : Some (seat_of p) ≡ Some s = sym j.known ∙ e in
    let is : seat_of p ≡ s = cc in
    subst (Knows device.slots 0 history) is (record { seen = p.seen; saw = refl; begins = w.seen; entries = j.entries; noted = sym j.own; mine = sym w.mine })
knows device p seats history j w (suc place) s e =
    let k = j.kept place s e in
    subst (Knows device.slots (suc place) history) k.known (record { seen = k.lists.seen; saw = refl; begins = w.kept_seen place k.lists k.at; entries = k.entries; noted = sym k.own; mine = sym (ap (λ i. places i history) (sym k.number) ∙ w.kept_mine place k.lists k.at) })

-- whose the seats are
owners_of_workers : (ws : List WorkerState) (slots m : ℕ) → ((k : ℕ) (w : WorkerState) → slice_get ws k ≡ Some w → w.worker ≡ m + k) → (j : ℕ) (o : OwnedSeat) → slice_get (map owned_worker ws) j ≡ Some o → o.owner ≡ owner_of slots (slots + (m + j))
owners_of_workers [] slots m each j o e = absurd (cc)
owners_of_workers (w ∷ ws) slots m each zero o e =
    let is : owned_worker w ≡ o = cc in
    let n : w.worker ≡ m + 0 = each 0 w refl in
    let past : nat_lt (slots + (m + 0)) slots ≡ false = le-ltb (slots + (m + 0)) slots (omega arith) in
    let minus : (slots + (m + 0)) - slots ≡ m + 0 = omega arith in
    sym (ap (λ x. x.owner) is) ∙ (ap worker_of (n ∙ sym minus) ∙ sym (ap (λ b. cond b (handle_of (slots + (m + 0))) (worker_of ((slots + (m + 0)) - slots))) past))
owners_of_workers (w ∷ ws) slots m each (suc j) o e =
    owners_of_workers ws slots (m + 1) (λ k x f. each (suc k) x f ∙ omega arith) j o e ∙ (let n : slots + ((m + 1) + j) ≡ slots + (m + suc j) = omega arith in ap (owner_of slots) n)

owners : (hs : List HandleState) (ws : List WorkerState) (slots m : ℕ) → m + length hs ≡ slots → ((k : ℕ) (h : HandleState) → slice_get hs k ≡ Some h → h.slot ≡ m + k)
    → ((k : ℕ) (w : WorkerState) → slice_get ws k ≡ Some w → w.worker ≡ k) → (j : ℕ) (o : OwnedSeat) → slice_get (map owned_handle hs ++ map owned_worker ws) j ≡ Some o
    → o.owner ≡ owner_of slots (m + j)
owners [] ws slots m n each works j o e =
    owners_of_workers ws slots 0 (λ k w f. works k w f ∙ omega arith) j o e ∙ (let q : slots + (0 + j) ≡ m + j = omega (arith, n) in ap (owner_of slots) q)
owners (h ∷ hs) ws slots m n each works zero o e =
    let is : owned_handle h ≡ o = cc in
    let k : h.slot ≡ m + 0 = each 0 h refl in
    let within : nat_lt (m + 0) slots ≡ true = lt-ltb (m + 0) slots (omega (arith, n)) in
    sym (ap (λ x. x.owner) is) ∙ (ap handle_of k ∙ sym (ap (λ b. cond b (handle_of (m + 0)) (worker_of ((m + 0) - slots))) within))
owners (h ∷ hs) ws slots m n each works (suc j) o e =
    owners hs ws slots (m + 1) (omega (arith, n)) (λ k x f. each (suc k) x f ∙ omega arith) works j o e ∙ (let q : (m + 1) + j ≡ m + suc j = omega arith in ap (owner_of slots) q)

-- the seats alone
seats_alone : (hs : List HandleState) (ws : List WorkerState) (j : ℕ) (o : OwnedSeat) → slice_get (owned_seats hs ws) j ≡ Some o → slice_get (seats_of hs ++ seats_of_workers ws) j ≡ Some o.seat
seats_alone [] [] j o e = absurd (cc)
seats_alone [] (w ∷ ws) zero o e = let is : owned_worker w ≡ o = cc in ap (λ x. Some x.seat) is
seats_alone [] (w ∷ ws) (suc j) o e = seats_alone [] ws j o e
seats_alone (h ∷ hs) ws zero o e = let is : owned_handle h ≡ o = cc in ap (λ x. Some x.seat) is
seats_alone (h ∷ hs) ws (suc j) o e = seats_alone hs ws j o e

all_seats : (history : List DeviceEvent) (owned : List OwnedSeat) → ((j : ℕ) (o : OwnedSeat) → slice_get owned j ≡ Some o → IsSeatOf history o) → AreSeatsOf history owned
all_seats history [] each = tt
all_seats history (o ∷ os) each = (each 0 o refl, all_seats history os (λ j x e. each (suc j) x e))

owned_length : (hs : List HandleState) (ws : List WorkerState) → length (owned_seats hs ws) ≡ length hs + length ws
owned_length hs ws =
    length-append (map owned_handle hs) (map owned_worker ws) ∙ (λ i. length-map hs owned_handle i + length-map ws owned_worker i)

-- the core that is given back stands for the one history
pub is_closed : (device : DeviceId) (p : Place) (slots workers : ℕ) (core : CoreState) (hs : List HandleState) (ws : List WorkerState) (history : List Noted)
    → AreHandlesOf device hs → AreWorkersOf device ws → HasJoined device p (seats_of hs ++ seats_of_workers ws) → IsWholeOf history p
    → StandsForLog slots workers core history → IsClosed core hs ws
is_closed device p slots workers core hs ws history hands works j whole stands =
    let owned = owned_seats hs ws in
    let n = owned_length hs ws in
    let made : p.made ≡ length owned = j.made ∙ ((λ i. sym hands.all i + sym works.all i) ∙ sym n) in
    let known : (k : ℕ) (o : OwnedSeat) → slice_get owned k ≡ Some o → Knows device.slots k history o.seat = λ k o e. knows device p (seats_of hs ++ seats_of_workers ws) history j whole k o.seat (seats_alone hs ws k o e) in
    let whose : (k : ℕ) (o : OwnedSeat) → slice_get owned k ≡ Some o → o.owner ≡ owner_of device.slots k = λ k o e. owners hs ws device.slots 0 (omega (arith, hands.all))
    (λ i h f. (hands.each i h f).1 ∙ omega arith) (λ i w f. (works.each i w f).1) k o e ∙ (let q : 0 + k ≡ k = omega arith in ap (owner_of device.slots) q) in
    record {
      history = events_of history;
      one = record {
        stands = subst (λ (x : ℕ × ℕ). Stands the_coder x.0 x.1 core (events_of history)) (λ i. (sym stands.slot_count i, sym stands.worker_count i)) stands.stands;
        is_history = subst (λ x. Rattle.vc_model.specs.Standing.IsHistory the_coder x (events_of history)) (sym stands.slot_count) stands.entries.steps;
        count = same_steps slots workers core (events_of history) stands.stands ∙ steps_are_history the_coder slots (events_of history) stands.entries.steps;
        owned = all_seats (events_of history) owned (λ k o e. let w = known k o e in is_seat device.slots k w.seen (events_of history) o w.entries.own (prefix_events w.seen history w.begins) (whose k o e) w.saw w.noted);
        once = λ i. each_once owned history i (record { each = λ k o e. (known k o e).mine ∙ (let q : k ≡ 0 + k = omega arith in ap (λ x. places x history) q) }) (are_below history (length owned) 0 (λ number l. whole.others number (omega (arith, made, l))));
      };
    }
