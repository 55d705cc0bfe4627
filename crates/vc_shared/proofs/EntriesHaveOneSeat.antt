-- Each entry of the history is one entry of one seat. It carries the number of the seat that noted it, so it stands among the
-- positions of that seat, once, and among those of no other.
use Rattle.std.proofs.Common.{ℕ, zero, suc, ◌≡◌, ◌<◌, ◌≤◌, ◌+◌, ◌==◌, eqb, ltb, nat_lt, Bool, true, false, cond, ◌||◌, Some, List, [], ◌∷◌, ◌++◌, length, refl, sym, ap, ◌∙◌, subst, arith, append_assoc, length-append}
use Rattle.std.specs.Prelude.{slice_get}
use Rattle.std.specs.List.{list_any}
use Rattle.std.proofs.lemmas.List.{length-map}
use Rattle.std.proofs.lemmas.Bool.{eqb-true, eqb-false, ltb-true, ltb-false, lt-ltb, le-ltb, false≢true}
use Rattle.std.proofs.lemmas.Bool.Decides.{nat_tests}
use mathlib.Core.List.{IsPrefix}
use Rattle.vc_base.specs.Device.{DeviceEvent}
use Rattle.vc_model.specs.Seats.{may_add, adds_at, Ascends, count_position, OwnedSeat, IsSeatOf, all_mine}
use Rattle.vc_turn.specs.declared.rule.Noted.{Noted}
use Rattle.vc_turn.specs.History.{places_from, places}
use Rattle.vc_shared.specs.Histories.{events_of, owner_of, AreOwn}

-- Positions of one seat

-- each position of a seat has an entry that its owner may add
in_places : (history : List DeviceEvent) (pre : List DeviceEvent) (es : List Noted) (slots number i at : ℕ) → history ≡ pre ++ events_of es → at ≡ length pre → AreOwn slots es → list_any (λ j. j == i) (places_from at number es) ≡ true → adds_at (owner_of slots number) (slice_get history i) ≡ true
in_places history pre [] slots number i at h a own e = absurd (false≢true e)
in_places history pre (x ∷ es) slots number i at h a own e =
    split (eqb x.seat number) refl e (in_places history (pre ++ x.event ∷ []) es slots number i (suc at) (h ∙ sym (append_assoc pre (x.event ∷ []) (events_of es))) (omega (arith, a, length-append pre (x.event ∷ []))) own.1)
  where
    at_end : (xs : List DeviceEvent) (y : DeviceEvent) (ys : List DeviceEvent) → slice_get (xs ++ y ∷ ys) (length xs) ≡ Some y
    at_end [] y ys = refl
    at_end (z ∷ xs) y ys = at_end xs y ys

    here : eqb x.seat number ≡ true → eqb at i ≡ true → adds_at (owner_of slots number) (slice_get history i) ≡ true
    here mine is =
        let p : slice_get history at ≡ Some x.event = ap (λ l. slice_get l at) h ∙ (ap (slice_get (pre ++ x.event ∷ events_of es)) a ∙ at_end pre x.event (events_of es)) in
        ap (λ k. adds_at (owner_of slots number) (slice_get history k)) (sym (eqb-true at i is)) ∙ (ap (adds_at (owner_of slots number)) p ∙ (ap (λ k. may_add (owner_of slots k) x.event) (sym (eqb-true x.seat number mine)) ∙ own.0))

    first : (b : Bool) → eqb at i ≡ b → eqb x.seat number ≡ true → (b || list_any (λ j. j == i) (places_from (suc at) number es)) ≡ true
        → (list_any (λ j. j == i) (places_from (suc at) number es) ≡ true → adds_at (owner_of slots number) (slice_get history i) ≡ true)
        → adds_at (owner_of slots number) (slice_get history i) ≡ true
    first true is mine q later = here mine is
    first false is mine q later = later q

    split : (b : Bool) → eqb x.seat number ≡ b → list_any (λ j. j == i) (cond b (at ∷ places_from (suc at) number es) (places_from (suc at) number es)) ≡ true
        → (list_any (λ j. j == i) (places_from (suc at) number es) ≡ true → adds_at (owner_of slots number) (slice_get history i) ≡ true)
        → adds_at (owner_of slots number) (slice_get history i) ≡ true
    split true mine q later = first (eqb at i) refl mine q later
    split false mine q later = later q

ascends_if : (b : Bool) (least at : ℕ) (ps : List ℕ) → least ≤ at → Ascends (at + 1) ps → Ascends least ps → Ascends least (cond b (at ∷ ps) ps)
ascends_if true least at ps l after same = (le-ltb at least l, after)
ascends_if false least at ps l after same = same

ascends : (es : List Noted) (number least at : ℕ) → least ≤ at → Ascends least (places_from at number es)
ascends [] number least at l = tt
ascends (x ∷ es) number least at l =
    ascends_if (x.seat == number) least at (places_from (suc at) number es) l (ascends es number (at + 1) (suc at) (omega arith)) (ascends es number least (suc at) (omega arith))

-- the positions of a seat in what it has seen, where that is a beginning of the history
pub is_seat : (slots number : ℕ) (seen : List Noted) (history : List DeviceEvent) (owned : OwnedSeat) → AreOwn slots seen → IsPrefix (events_of seen) history → owned.owner ≡ owner_of slots number → owned.seat.seen ≡ events_of seen → owned.seat.mine ≡ places number seen → IsSeatOf history owned
is_seat slots number seen history owned own p who saw mine =
    record {
      seen = subst (λ l. IsPrefix l history) (sym saw) p;
      own = λ i e. ap (λ o. adds_at o (slice_get history i)) who ∙ longer i (in_places (events_of seen) [] seen slots number i 0 refl refl own (ap (list_any (λ j. j == i)) (sym mine) ∙ e));
      ascends = subst (Ascends 0) (sym mine) (ascends seen number 0 0 (omega arith));
    }
  where
    grows : (xs ys : List DeviceEvent) (i : ℕ) → adds_at (owner_of slots number) (slice_get xs i) ≡ true → adds_at (owner_of slots number) (slice_get (xs ++ ys) i) ≡ true
    grows [] ys i e = absurd (false≢true e)
    grows (x ∷ xs) ys zero e = e
    grows (x ∷ xs) ys (suc i) e = grows xs ys i e

    longer : (i : ℕ) → adds_at (owner_of slots number) (slice_get (events_of seen) i) ≡ true → adds_at (owner_of slots number) (slice_get history i) ≡ true
    longer i e = ap (λ l. adds_at (owner_of slots number) (slice_get l i)) (sym p.1) ∙ grows (events_of seen) p.0 i e

-- Positions of all seats

-- how often the position stands among those of so many seats, from the one with this number on
counts_from : ℕ → ℕ → List Noted → ℕ → ℕ → ℕ
counts_from number zero log at i = 0
counts_from number (suc count) log at i =
    count_position (places_from at number log) i + counts_from (suc number) count log at i

one_if : Bool → ℕ
one_if b = cond b 1 0

none_counted : (number count at i : ℕ) → counts_from number count [] at i ≡ 0
unfolding counts_from
none_counted number zero at i = refl
none_counted number (suc count) at i = let h = none_counted (suc number) count at i in omega (arith, h)

count_split : (b : Bool) (at i : ℕ) (ps : List ℕ) → count_position (cond b (at ∷ ps) ps) i ≡ cond b (one_if (at == i)) 0 + count_position ps i
unfolding one_if
count_split true at i ps = refl
count_split false at i ps = sym (zero_plus (count_position ps i))
  where
    zero_plus : (m : ℕ) → 0 + m ≡ m
    zero_plus m = omega arith

-- the seat of the first entry is one of so many
among : ℕ → ℕ → ℕ → ℕ → ℕ
among seat number zero one = 0
among seat number (suc count) one = cond (seat == number) one 0 + among seat (suc number) count one

entry_counted : (x : Noted) (es : List Noted) (number count at i : ℕ) → counts_from number count (x ∷ es) at i ≡ among x.seat number count (one_if (at == i)) + counts_from number count es (suc at) i
unfolding counts_from among
entry_counted x es number zero at i = refl
entry_counted x es number (suc count) at i =
    let h = entry_counted x es (suc number) count at i in
    let f = count_split (x.seat == number) at i (places_from (suc at) number es) in
    omega (arith, h, f)

among_none : (seat number count one : ℕ) → seat < number → among seat number count one ≡ 0
unfolding among
among_none seat number zero one l = refl
among_none seat number (suc count) one l =
    let h = among_none seat (suc number) count one (omega arith) in
    let e : (seat == number) ≡ false = grind (arith, nat_tests) in
    let f : cond (seat == number) one 0 ≡ 0 = ap (λ b. cond b one 0) e in
    omega (arith, h, f)

among_one : (seat number count one : ℕ) → number ≤ seat → seat < number + count → among seat number count one ≡ one
unfolding among
among_one seat number zero one l m = absurd (omega arith)
among_one seat number (suc count) one l m =
    split (eqb seat number) refl (λ n. among_one seat (suc number) count one n (omega arith))
  where
    split : (b : Bool) → eqb seat number ≡ b → (suc number ≤ seat → among seat (suc number) count one ≡ one) → cond b one 0 + among seat (suc number) count one ≡ one
    split true e later =
        let z = eqb-true seat number e in
        let h = among_none seat (suc number) count one (omega arith) in
        omega (arith, h)
    split false e later =
        let z = eqb-false seat number e in
        let h = later (omega arith) in
        omega (arith, h)

-- the seat of each entry is one of so many
abbrev pub AreBelow : ℕ → List Noted → Type 0
AreBelow count [] = Unit {0}
AreBelow count (x ∷ es) = (x.seat < count) × AreBelow count es

in_range : (es : List Noted) (at i : ℕ) → ℕ
in_range [] at i = 0
in_range (x ∷ es) at i = one_if (at == i) + in_range es (suc at) i

counted : (es : List Noted) (count at i : ℕ) → AreBelow count es → counts_from 0 count es at i ≡ in_range es at i
unfolding in_range
counted [] count at i below = none_counted 0 count at i
counted (x ∷ es) count at i below =
    let h = counted es count (suc at) i below.1 in
    let e = entry_counted x es 0 count at i in
    let o = among_one x.seat 0 count (one_if (at == i)) (omega arith) (omega (arith, below.0)) in
    omega (arith, h, e, o)

range_past : (es : List Noted) (at i : ℕ) → i < at → in_range es at i ≡ 0
unfolding in_range one_if
range_past [] at i l = refl
range_past (x ∷ es) at i l =
    let h = range_past es (suc at) i (omega arith) in
    let e : (at == i) ≡ false = grind (arith, nat_tests) in
    let f : one_if (at == i) ≡ 0 = ap one_if e in
    omega (arith, h, f)

range_is : (es : List Noted) (at i : ℕ) → at ≤ i → in_range es at i ≡ one_if (ltb i (at + length es))
unfolding in_range one_if
range_is [] at i l = sym (ap one_if (le-ltb i (at + 0) (omega arith)))
range_is (x ∷ es) at i l = split (eqb at i) refl (range_is es (suc at) i)
  where
    split : (b : Bool) → eqb at i ≡ b → (suc at ≤ i → in_range es (suc at) i ≡ one_if (ltb i (suc at + length es))) → one_if b + in_range es (suc at) i ≡ one_if (ltb i (at + length (x ∷ es)))
    split true e later =
        let z = eqb-true at i e in
        let h = range_past es (suc at) i (omega arith) in
        let t : ltb i (at + length (x ∷ es)) ≡ true = lt-ltb i (at + length (x ∷ es)) (omega arith) in
        let f : one_if (ltb i (at + length (x ∷ es))) ≡ 1 = ap one_if t in
        let g : one_if true ≡ 1 = refl in
        omega (arith, h, f, g)
    split false e later =
        let z = eqb-false at i e in
        let h = later (omega arith) in
        let n : suc at + length es ≡ at + length (x ∷ es) = omega arith in
        let g : one_if (ltb i (suc at + length es)) ≡ one_if (ltb i (at + length (x ∷ es))) = ap (λ k. one_if (ltb i k)) n in
        let f : one_if false ≡ 0 = refl in
        omega (arith, h, g, f)

-- The positions of the seats are those of the seats with the numbers from this one on.
pub record AreNumbered (number : ℕ) (log : List Noted) (owned : List OwnedSeat) : Type 0 where
  pub each : (j : ℕ) (o : OwnedSeat) → slice_get owned j ≡ Some o → o.seat.mine ≡ places (number + j) log

position_append : (xs ys : List ℕ) (i : ℕ) → count_position (xs ++ ys) i ≡ count_position xs i + count_position ys i
position_append [] ys i = omega arith
position_append (x ∷ xs) ys i = let h = position_append xs ys i in omega (arith, h)

all_counted : (owned : List OwnedSeat) (number : ℕ) (log : List Noted) (i : ℕ) → AreNumbered number log owned → count_position (all_mine owned) i ≡ counts_from number (length owned) log 0 i
unfolding counts_from
all_counted [] number log i h = refl
all_counted (o ∷ os) number log i h =
    let first : o.seat.mine ≡ places number log = h.each 0 o refl ∙ (let z : number + 0 ≡ number = omega arith in ap (λ k. places k log) z) in
    let rest : AreNumbered (suc number) log os = record { each = λ j x e. h.each (suc j) x e ∙ (let z : number + suc j ≡ suc number + j = omega arith in ap (λ k. places k log) z) } in
    let later = all_counted os (suc number) log i rest in
    let split = position_append o.seat.mine (all_mine os) i in
    let now = ap (λ l. count_position l i) first in
    omega (arith, later, split, now)

-- each entry is one entry of one seat
pub each_once : (owned : List OwnedSeat) (log : List Noted) (i : ℕ) → AreNumbered 0 log owned → AreBelow (length owned) log → count_position (all_mine owned) i ≡ cond (nat_lt i (length (events_of log))) 1 0
unfolding one_if
each_once owned log i h below =
    let n : 0 + length log ≡ length (events_of log) = let z = length-map log (λ (e : Noted). e.event) in omega (arith, z) in
    all_counted owned 0 log i h ∙ (counted log (length owned) 0 i below ∙ (range_is log 0 i (omega arith) ∙ ap (λ k. one_if (ltb i k)) n))

-- where the seats with higher numbers have no entries, all entries are of the others
pub are_below : (log : List Noted) (count at : ℕ) → ((number : ℕ) → count ≤ number → places_from at number log ≡ []) → AreBelow count log
are_below [] count at none = tt
are_below (x ∷ es) count at none =
    (first (ltb x.seat count) refl, are_below es count (suc at) (λ number l. later number (x.seat == number) (none number l)))
  where
    same : (k : ℕ) → (k == k) ≡ true
    same k = grind (arith, nat_tests)

    first : (b : Bool) → ltb x.seat count ≡ b → x.seat < count
    first true e = ltb-true x.seat count e
    first false e =
        let z : cond (x.seat == x.seat) (at ∷ places_from (suc at) x.seat es) (places_from (suc at) x.seat es) ≡ [] = none x.seat (ltb-false x.seat count e) in
        absurd (cons_not (sym (ap (λ b. cond b (at ∷ places_from (suc at) x.seat es) (places_from (suc at) x.seat es)) (same x.seat)) ∙ z))
      where
        cons_not : at ∷ places_from (suc at) x.seat es ≡ [] → ⊥
        cons_not p = absurd (cc)

    later : (number : ℕ) (b : Bool) → cond b (at ∷ places_from (suc at) number es) (places_from (suc at) number es) ≡ [] → places_from (suc at) number es ≡ []
    later number true p = absurd (cc)
    later number false p = p
