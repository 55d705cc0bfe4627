-- A ring of slots: what a write to one link leaves as it is, and what linking and unlinking a slot does.
use Rattle.std.proofs.Common.{ℕ, zero, suc, ◌+◌, ◌≡◌, ◌≢◌, ◌<◌, ◌≤◌, Bool, eqb, true, false, Some, None, List, [], ◌∷◌, ◌++◌, length, get_or, set, replicate}
use Rattle.std.proofs.Common.{take, drop, length-take, length-drop, get_or-take, get_or-drop, take-append-drop, refl, sym, ap, ◌∙◌, subst, ⊎_elim, arith}
use Rattle.std.proofs.Common.{get_or-set_same, get_or-set_other, length-set}
use Rattle.std.specs.Prelude.{All, Contains, ◌||◌}
use Rattle.std.specs.List.{list_any}
use Rattle.std.proofs.lemmas.Bool.{lt-ltb, le-ltb, ne_eqb, eqb-true, cases_eq, eq-eqb, false≢true, or_cases}
use Rattle.std.proofs.lemmas.List.{get_or_default, drop_more, length-replicate, get_or-replicate}
use Rattle.std.proofs.lemmas.Map.Keys.{IsDistinct-from_apart}
use Rattle.std.proofs.lemmas.Map.Steps.{length-le_from_distinct_below}
use Rattle.vc_jobs.specs.Jobs.{waits, without, front_of, rest_of, EachOnce, AreSlots}
use Rattle.vc_jobs.specs.Rings.{walk, ring, Path, IsRing}

-- the number is not in the list
pub Misses : ℕ → List ℕ → Type 0
Misses i [] = Unit {0}
Misses i (x ∷ xs) = (x ≢ i) × Misses i xs

misses_from : (i : ℕ) (xs : List ℕ) → ((k : ℕ) → k < length xs → get_or xs k 0 ≡ i → ⊥) → Misses i xs
unfolding Misses
misses_from i [] h = tt
misses_from i (x ∷ xs) h = (h 0 (omega arith), misses_from i xs (λ k l. h (suc k) (omega arith)))

-- the test of a member, in both directions
misses_none : (i : ℕ) (xs : List ℕ) → Misses i xs → waits xs i ≡ false
unfolding Misses
misses_none i [] m = refl
misses_none i (x ∷ xs) m = rw (ne_eqb x i m.0) (misses_none i xs m.1)

none_misses : (i : ℕ) (xs : List ℕ) → waits xs i ≡ false → Misses i xs
unfolding Misses
none_misses i [] w = tt
none_misses i (x ∷ xs) w =
    ⊎_elim (λ (e : x ≡ i). absurd (false≢true (sym w ∙ ap (λ b. b || waits xs i) (eq-eqb x i e)))) (λ (n : x ≢ i). (n, none_misses i xs (sym (ap (λ b. b || waits xs i) (ne_eqb x i n)) ∙ w))) (cases_eq x i)

found_at : (i : ℕ) (xs : List ℕ) → waits xs i ≡ true → (k : ℕ) × (k < length xs) × (get_or xs k 0 ≡ i)
found_at i [] w = absurd (false≢true w)
found_at i (x ∷ xs) w =
    ⊎_elim (λ (e : x ≡ i). (0, omega arith, e)) (λ (n : x ≢ i). let more = found_at i xs (sym (ap (λ b. b || waits xs i) (ne_eqb x i n)) ∙ w) in (suc more.0, omega (arith, more.1), more.2)) (cases_eq x i)

pub without_none : (xs : List ℕ) (i : ℕ) → Misses i xs → without xs i ≡ xs
unfolding Misses
without_none [] i m = refl
without_none (x ∷ xs) i m = rw (ne_eqb x i m.0) (ap (λ ys. x ∷ ys) (without_none xs i m.1))

without_middle : (xs ys : List ℕ) (i : ℕ) → Misses i xs → Misses i ys → without (xs ++ i ∷ ys) i ≡ xs ++ ys
unfolding Misses
without_middle [] ys i mx my = rw (eq-eqb i i refl) (without_none ys i my)
without_middle (x ∷ xs) ys i mx my = rw (ne_eqb x i mx.0) (ap (λ zs. x ∷ zs) (without_middle xs ys i mx.1 my))

-- a write to the link of i, where what i is linked to is not on the path
next_frame : (n : ℕ) (next prev : List ℕ) (u : ℕ) (xs : List ℕ) (v i w : ℕ) → Misses (get_or next i 0) xs → v ≢ get_or next i 0 → Path n next prev u xs v → Path n (set next i w) prev u xs v
unfolding Path Misses
next_frame n next prev u [] v i w m ne p =
    (rw (get_or-set_other next i u w 0 (λ (e : u ≡ i). ne (sym p.0 ∙ ap (λ j. get_or next j 0) e))) p.0, p.1)
next_frame n next prev u (x ∷ xs) v i w m ne p =
    (rw (get_or-set_other next i u w 0 (λ (e : u ≡ i). m.0 (sym p.0 ∙ ap (λ j. get_or next j 0) e))) p.0, (p.1.0, (p.1.1.0, next_frame n next prev x xs v i w m.1 ne p.1.1.1)))

prev_frame : (n : ℕ) (next prev : List ℕ) (u : ℕ) (xs : List ℕ) (v i w : ℕ) → u ≢ get_or prev i 0 → Misses (get_or prev i 0) xs → Path n next prev u xs v → Path n next (set prev i w) u xs v
unfolding Path Misses
prev_frame n next prev u [] v i w ne m p =
    (p.0, rw (get_or-set_other prev i v w 0 (λ (e : v ≡ i). ne (sym p.1 ∙ ap (λ j. get_or prev j 0) e))) p.1)
prev_frame n next prev u (x ∷ xs) v i w ne m p =
    (p.0, (rw (get_or-set_other prev i x w 0 (λ (e : x ≡ i). ne (sym p.1.0 ∙ ap (λ j. get_or prev j 0) e))) p.1.0, (p.1.1.0, prev_frame n next prev x xs v i w m.0 m.1 p.1.1.1)))

-- the first link and the last one are linked back
first_prev : (n : ℕ) (next prev : List ℕ) (u : ℕ) (xs : List ℕ) (v : ℕ) → Path n next prev u xs v → get_or prev (get_or next u 0) 0 ≡ u
unfolding Path
first_prev n next prev u [] v p = rw p.0 p.1
first_prev n next prev u (x ∷ xs) v p = rw p.0 p.1.0

last_next : (n : ℕ) (next prev : List ℕ) (u : ℕ) (xs : List ℕ) (v : ℕ) → Path n next prev u xs v → get_or next (get_or prev v 0) 0 ≡ v
unfolding Path
last_next n next prev u [] v p = rw p.1 p.0
last_next n next prev u (x ∷ xs) v p = last_next n next prev x xs v p.1.1.1

first_in : (n : ℕ) (next prev : List ℕ) (u : ℕ) (xs : List ℕ) (v : ℕ) → v < n + 1 → Path n next prev u xs v → get_or next u 0 < n + 1
unfolding Path
first_in n next prev u [] v h p = rw p.0 h
first_in n next prev u (x ∷ xs) v h p = let b : x < n = p.1.1.0 in rw p.0 (omega arith)

last_in : (n : ℕ) (next prev : List ℕ) (u : ℕ) (xs : List ℕ) (v : ℕ) → u < n + 1 → Path n next prev u xs v → get_or prev v 0 < n + 1
unfolding Path
last_in n next prev u [] v h p = rw p.1 h
last_in n next prev u (x ∷ xs) v h p =
    let b : x < n = p.1.1.0 in last_in n next prev x xs v (omega arith) p.1.1.1

-- what stands before a slot
prev_at : (n : ℕ) (next prev : List ℕ) (u : ℕ) (xs : List ℕ) (v i : ℕ) → Path n next prev u xs v → i < length xs → get_or prev (get_or xs i 0) 0 ≡ get_or (u ∷ xs) i 0
unfolding Path
prev_at n next prev u [] v i p h = absurd (omega arith)
prev_at n next prev u (x ∷ xs) v zero p h = p.1.0
prev_at n next prev u (x ∷ xs) v (suc i) p h = prev_at n next prev x xs v i p.1.1.1 (omega arith)

slot_at : (n : ℕ) (next prev : List ℕ) (u : ℕ) (xs : List ℕ) (v i : ℕ) → Path n next prev u xs v → i < length xs → get_or xs i 0 < n
unfolding Path
slot_at n next prev u [] v i p h = absurd (omega arith)
slot_at n next prev u (x ∷ xs) v zero p h = p.1.1.0
slot_at n next prev u (x ∷ xs) v (suc i) p h = slot_at n next prev x xs v i p.1.1.1 (omega arith)

-- one slot stands at one place: walk back to the head
same_place : (n : ℕ) (next prev xs : List ℕ) (v : ℕ) → Path n next prev n xs v → (i j : ℕ) → i < length xs → j < length xs → get_or xs i 0 ≡ get_or xs j 0 → i ≡ j
same_place n next prev xs v p zero zero hi hj e = refl
same_place n next prev xs v p zero (suc j) hi hj e =
    let back : n ≡ get_or xs j 0 = sym (prev_at n next prev n xs v 0 p hi) ∙ (ap (λ x. get_or prev x 0) e ∙ prev_at n next prev n xs v (suc j) p hj) in
    let low : get_or xs j 0 < n = slot_at n next prev n xs v j p (omega arith) in absurd (omega arith)
same_place n next prev xs v p (suc i) zero hi hj e =
    let back : get_or xs i 0 ≡ n = sym (prev_at n next prev n xs v (suc i) p hi) ∙ (ap (λ x. get_or prev x 0) e ∙ prev_at n next prev n xs v 0 p hj) in
    let low : get_or xs i 0 < n = slot_at n next prev n xs v i p (omega arith) in absurd (omega arith)
same_place n next prev xs v p (suc i) (suc j) hi hj e =
    let back : get_or xs i 0 ≡ get_or xs j 0 = sym (prev_at n next prev n xs v (suc i) p hi) ∙ (ap (λ x. get_or prev x 0) e ∙ prev_at n next prev n xs v (suc j) p hj) in
    ap suc (same_place n next prev xs v p i j (omega arith) (omega arith) back)

any_below : (n : ℕ) (ys : List ℕ) (q : ℕ) → ((i : ℕ) → i < length ys → get_or ys i 0 < n) → list_any (eqb q) ys ≡ true → q < n
any_below n [] q all found = absurd (false≢true found)
any_below n (y ∷ ys) q all found =
    ⊎_elim (λ (e : eqb q y ≡ true). let same = eqb-true q y e in let low : y < n = all 0 (omega arith) in omega arith)
    (λ (e : list_any (eqb q) ys ≡ true). any_below n ys q (λ i h. all (suc i) (omega arith)) e) (or_cases (eqb q y) (list_any (eqb q) ys) found)

apart_in_ring : (n : ℕ) (next prev xs : List ℕ) (v : ℕ) → Path n next prev n xs v → (i j d : ℕ) → i < j → j < length xs → eqb (get_or xs i d) (get_or xs j d) ≡ false
apart_in_ring n next prev xs v p i j d lt hj =
    ne_eqb _ _ (λ (e : get_or xs i d ≡ get_or xs j d).
    let hi : i < length xs = omega arith in let same = same_place n next prev xs v p i j hi hj (get_or_default xs i 0 d hi ∙ (e ∙ get_or_default xs j d 0 hj)) in absurd (omega (arith, same)))

-- so a ring has at most n slots
ring_length : (n : ℕ) (next prev xs : List ℕ) (v : ℕ) → Path n next prev n xs v → length xs ≤ n
ring_length n next prev xs v p =
    length-le_from_distinct_below xs n (IsDistinct-from_apart eqb xs (apart_in_ring n next prev xs v p)) (λ q found. any_below n xs q (λ i h. slot_at n next prev n xs v i p h) found)

-- the walk goes over the slots of the path
walk_is : (n : ℕ) (next prev : List ℕ) (u : ℕ) (xs : List ℕ) (steps : ℕ) → length xs ≤ steps → Path n next prev u xs n → walk n next u steps ≡ xs
unfolding Path walk
walk_is n next prev u [] zero l p = refl
walk_is n next prev u [] (suc steps) l p = rw p.0 (rw (le-ltb n n (omega arith)) refl)
walk_is n next prev u (x ∷ xs) zero l p = absurd (omega arith)
walk_is n next prev u (x ∷ xs) (suc steps) l p =
    rw p.0 (rw (lt-ltb x n p.1.1.0) (ap (λ ys. x ∷ ys) (walk_is n next prev x xs steps (omega arith) p.1.1.1)))

-- what the arrays hold is one list
pub ring_is : (n : ℕ) (next prev : List ℕ) (marks : List Bool) (xs : List ℕ) → IsRing n next prev marks xs → ring n next ≡ xs
unfolding ring
ring_is n next prev marks xs r = walk_is n next prev n xs n (ring_length n next prev xs n r.path) r.path

pub ring_kept : (n : ℕ) (next prev : List ℕ) (marks : List Bool) (xs : List ℕ) → IsRing n next prev marks xs → IsRing n next prev marks (ring n next)
ring_kept n next prev marks xs r = rw (ring_is n next prev marks xs r) r

-- a slot goes to the end of a path
push_path :
    (n : ℕ) (next prev : List ℕ) (u : ℕ) (xs : List ℕ) (slot : ℕ) → length next ≡ n + 1 → length prev ≡ n + 1 → slot < n → u < n + 1 → u ≢ slot
    → Misses slot xs → Path n next prev u xs n
    → Path n (set (set next (get_or prev n 0) slot) slot n) (set (set prev slot (get_or prev n 0)) n slot) u (xs ++ slot ∷ []) n
unfolding Path Misses
push_path n next prev u [] slot ln lp hc hu ne m p =
    let t = get_or prev n 0 in
    let tu : t ≡ u = p.1 in (
      rw (get_or-set_other (set next t slot) slot u n 0 ne) (rw tu (get_or-set_same next u slot 0 (omega arith))),
      (
        rw (get_or-set_other (set prev slot t) n slot slot 0 (λ (e : slot ≡ n). omega arith)) (get_or-set_same prev slot t 0 (omega arith) ∙ tu),
        (
          hc,
          (
            get_or-set_same (set next t slot) slot n 0 (omega (arith, length-set next t slot)),
            get_or-set_same (set prev slot t) n slot 0 (omega (arith, length-set prev slot t)),
          ),
        ),
      ),
    )
push_path n next prev u (x ∷ xs) slot ln lp hc hu ne m p =
    let t = get_or prev n 0 in
    let back : get_or next t 0 ≡ n = last_next n next prev x xs n p.1.1.1 in
    let low : x < n = p.1.1.0 in
    let nt : u ≢ t = λ e. let z : x ≡ n = sym p.0 ∙ (ap (λ j. get_or next j 0) e ∙ back) in omega arith in (
      rw (get_or-set_other (set next t slot) slot u n 0 ne) (rw (get_or-set_other next t u slot 0 nt) p.0),
      (
        rw (get_or-set_other (set prev slot t) n x slot 0 (λ (e : x ≡ n). omega arith)) (rw (get_or-set_other prev slot x t 0 m.0) p.1.0),
        (low, push_path n next prev x xs slot ln lp hc (omega arith) m.0 m.1 p.1.1.1),
      ),
    )

or_true : (b : Bool) → (b || true) ≡ true
or_true true = refl
or_true false = refl

waits_other : (xs : List ℕ) (slot k : ℕ) → k ≢ slot → waits (xs ++ slot ∷ []) k ≡ waits xs k
waits_other [] slot k ne = rw (ne_eqb slot k (λ (e : slot ≡ k). ne (sym e))) refl
waits_other (x ∷ xs) slot k ne = ap (λ b. eqb x k || b) (waits_other xs slot k ne)

waits_added : (xs : List ℕ) (slot : ℕ) → waits (xs ++ slot ∷ []) slot ≡ true
waits_added [] slot = rw (eq-eqb slot slot refl) refl
waits_added (x ∷ xs) slot = rw (waits_added xs slot) (or_true (eqb x slot))

-- the marks with one slot more
marks_more : (n : ℕ) (marks : List Bool) (xs : List ℕ) (slot : ℕ) → length marks ≡ n → ((k : ℕ) → k < n → get_or marks k false ≡ waits xs k) → slot < n → (k : ℕ) → k < n → get_or (set marks slot true) k false ≡ waits (xs ++ slot ∷ []) k
marks_more n marks xs slot size marked h k hk =
    ⊎_elim (λ (e : k ≡ slot). rw e (get_or-set_same marks slot true false (omega arith) ∙ sym (waits_added xs slot)))
    (λ (ne : k ≢ slot). get_or-set_other marks slot k true false ne ∙ (marked k hk ∙ sym (waits_other xs slot k ne))) (cases_eq k slot)

-- a slot goes to the end of the ring
pub appended :
    (n : ℕ) (next prev : List ℕ) (marks : List Bool) (xs : List ℕ) (slot last : ℕ) → IsRing n next prev marks xs → slot < n → waits xs slot ≡ false
    → last ≡ get_or prev n 0 → IsRing n (set (set next last slot) slot n) (set (set prev slot last) n slot) (set marks slot true) (xs ++ slot ∷ [])
appended n next prev marks xs slot last r h free is =
    let miss = none_misses slot xs free in
    rw is record {
      few = r.few;
      next_size = length-set (set next (get_or prev n 0) slot) slot n ∙ (length-set next (get_or prev n 0) slot ∙ r.next_size);
      prev_size = length-set (set prev slot (get_or prev n 0)) n slot ∙ (length-set prev slot (get_or prev n 0) ∙ r.prev_size);
      marks_size = length-set marks slot true ∙ r.marks_size;
      path = push_path n next prev n xs slot r.next_size r.prev_size h (omega arith) (λ (e : n ≡ slot). omega arith) miss r.path;
      marked = marks_more n marks xs slot r.marks_size r.marked h;
    }

pub last_fits : (n : ℕ) (next prev : List ℕ) (marks : List Bool) (xs : List ℕ) → IsRing n next prev marks xs → get_or prev n 0 < n + 1
last_fits n next prev marks xs r = last_in n next prev n xs n (omega arith) r.path

-- the links of a slot of a path lead back to it
links_of : (n : ℕ) (next prev : List ℕ) (u : ℕ) (xs : List ℕ) (slot : ℕ) (ys : List ℕ) (v : ℕ) → Path n next prev u (xs ++ slot ∷ ys) v → (get_or next (get_or prev slot 0) 0 ≡ slot) × (get_or prev (get_or next slot 0) 0 ≡ slot)
unfolding Path
links_of n next prev u [] slot ys v p = (rw p.1.0 p.0, first_prev n next prev slot ys v p.1.1.1)
links_of n next prev u (x ∷ xs) slot ys v p = links_of n next prev x xs slot ys v p.1.1.1

links_in : (n : ℕ) (next prev : List ℕ) (u : ℕ) (xs : List ℕ) (slot : ℕ) (ys : List ℕ) (v : ℕ) → u < n + 1 → v < n + 1 → Path n next prev u (xs ++ slot ∷ ys) v → (get_or prev slot 0 < n + 1) × ((get_or next slot 0 < n + 1) × (slot < n))
unfolding Path
links_in n next prev u [] slot ys v hu hv p = (rw p.1.0 hu, (first_in n next prev slot ys v hv p.1.1.1, p.1.1.0))
links_in n next prev u (x ∷ xs) slot ys v hu hv p =
    let low : x < n = p.1.1.0 in links_in n next prev x xs slot ys v (omega arith) hv p.1.1.1

-- a path without one of its slots
join_path :
    (n : ℕ) (next prev : List ℕ) (u : ℕ) (xs : List ℕ) (slot : ℕ) (ys : List ℕ) (v : ℕ) → length next ≡ n + 1 → length prev ≡ n + 1 → u < n + 1
    → v < n + 1 → u ≢ slot → v ≢ slot → Misses slot xs → Misses slot ys → (get_or next (get_or prev slot 0) 0 ≡ slot)
    → (get_or prev (get_or next slot 0) 0 ≡ slot) → Path n next prev u (xs ++ slot ∷ ys) v
    → Path n (set next (get_or prev slot 0) (get_or next slot 0)) (set prev (get_or next slot 0) (get_or prev slot 0)) u (xs ++ ys) v
unfolding Path Misses
join_path n next prev u [] slot [] v ln lp hu hv nu nv mx my to fro p =
    let pu : get_or prev slot 0 ≡ u = p.1.0 in
    let nx : get_or next slot 0 ≡ v = p.1.1.1.0 in
    rw (pu, nx) (get_or-set_same next u v 0 (omega arith), get_or-set_same prev v u 0 (omega arith))
join_path n next prev u [] slot (y ∷ ys) v ln lp hu hv nu nv mx my to fro p =
    let pu : get_or prev slot 0 ≡ u = p.1.0 in
    let q = p.1.1.1 in
    let nx : get_or next slot 0 ≡ y = q.0 in
    let low : y < n = q.1.1.0 in
    let nxu : get_or next u 0 ≡ slot = p.0 in
    let pry : get_or prev y 0 ≡ slot = q.1.0 in
    let a = next_frame n next prev y ys v u y (rw nxu my.1) (rw nxu nv) q.1.1.1 in
    let b = prev_frame n (set next u y) prev y ys v y u (rw pry my.0) (rw pry my.1) a in
    subst (λ t. Path n (set next t (get_or next slot 0)) (set prev (get_or next slot 0) t) u (y ∷ ys) v) (sym pu)
    (subst (λ w. Path n (set next u w) (set prev w u) u (y ∷ ys) v) (sym nx) (get_or-set_same next u y 0 (omega arith), (get_or-set_same prev y u 0 (omega arith), (low, b))))
join_path n next prev u (x ∷ xs) slot ys v ln lp hu hv nu nv mx my to fro p =
    let low : x < n = p.1.1.0 in
    let nxu : get_or next u 0 ≡ x = p.0 in
    let prx : get_or prev x 0 ≡ u = p.1.0 in
    let n1 : u ≢ get_or prev slot 0 = λ e. mx.0 (sym nxu ∙ (ap (λ j. get_or next j 0) e ∙ to)) in
    let n2 : x ≢ get_or next slot 0 = λ e. nu (sym prx ∙ (ap (λ j. get_or prev j 0) e ∙ fro)) in (
      rw (get_or-set_other next (get_or prev slot 0) u (get_or next slot 0) 0 n1) nxu,
      (
        rw (get_or-set_other prev (get_or next slot 0) x (get_or prev slot 0) 0 n2) prx,
        (low, join_path n next prev x xs slot ys v ln lp (omega arith) hv mx.0 nv mx.1 my to fro p.1.1.1),
      ),
    )

-- a list, cut at one of its slots
cut_at : (xs : List ℕ) (i slot : ℕ) → i < length xs → get_or xs i 0 ≡ slot → xs ≡ take i xs ++ slot ∷ drop (i + 1) xs
cut_at xs i slot h e =
    sym (take-append-drop i xs) ∙ ap (λ ys. take i xs ++ ys) (drop_more xs i 0 h ∙ ap (λ c. c ∷ drop (i + 1) xs) e)

-- the marks with one slot less
without_other : (xs : List ℕ) (slot k : ℕ) → k ≢ slot → waits (without xs slot) k ≡ waits xs k
without_other [] slot k ne = refl
without_other (x ∷ xs) slot k ne =
    ⊎_elim
    (λ (e : x ≡ slot). rw (eq-eqb x slot e) (without_other xs slot k ne ∙ sym (ap (λ b. b || waits xs k) (ne_eqb x k (λ (z : x ≡ k). ne (sym z ∙ e))))))
    (λ (other : x ≢ slot). rw (ne_eqb x slot other) (ap (λ b. eqb x k || b) (without_other xs slot k ne))) (cases_eq x slot)

pub without_itself : (xs : List ℕ) (slot : ℕ) → waits (without xs slot) slot ≡ false
without_itself [] slot = refl
without_itself (x ∷ xs) slot =
    ⊎_elim (λ (e : x ≡ slot). rw (eq-eqb x slot e) (without_itself xs slot)) (λ (other : x ≢ slot). rw (ne_eqb x slot other) (rw (ne_eqb x slot other) (without_itself xs slot))) (cases_eq x slot)

marks_less : (n : ℕ) (marks : List Bool) (xs : List ℕ) (slot : ℕ) → length marks ≡ n → ((k : ℕ) → k < n → get_or marks k false ≡ waits xs k) → slot < n → (k : ℕ) → k < n → get_or (set marks slot false) k false ≡ waits (without xs slot) k
marks_less n marks xs slot size marked h k hk =
    ⊎_elim (λ (e : k ≡ slot). rw e (get_or-set_same marks slot false false (omega arith) ∙ sym (without_itself xs slot)))
    (λ (ne : k ≢ slot). get_or-set_other marks slot k false false ne ∙ (marked k hk ∙ sym (without_other xs slot k ne))) (cases_eq k slot)

module _ (n : ℕ) (next prev : List ℕ) (marks : List Bool) (xs : List ℕ) (i slot : ℕ) (r : IsRing n next prev marks xs) (hi : i < length xs) (here : get_or xs i 0 ≡ slot) where
  path_cut : Path n next prev n (take i xs ++ slot ∷ drop (i + 1) xs) n
  path_cut = subst (λ ys. Path n next prev n ys n) (cut_at xs i slot hi here) r.path

  same_index : (j : ℕ) → j < length xs → get_or xs j 0 ≡ slot → j ≡ i
  same_index j hj e = same_place n next prev xs n r.path j i hj hi (e ∙ sym here)

  misses_before : Misses slot (take i xs)
  misses_before =
      misses_from slot (take i xs) (λ j hj e.
      let l : j < i = omega (arith, length-take i xs) in
      let same = same_index j (omega arith) (sym (get_or-take i xs j 0 l) ∙ e) in
      omega arith)

  misses_after : Misses slot (drop (i + 1) xs)
  misses_after =
      misses_from slot (drop (i + 1) xs) (λ j hj e.
      let l : (i + 1) + j < length xs = omega (arith, length-drop (i + 1) xs) in
      let same = same_index ((i + 1) + j) l (sym (get_or-drop (i + 1) xs j 0) ∙ e) in
      omega arith)

  node_links : (get_or prev slot 0 < n + 1) × ((get_or next slot 0 < n + 1) × (slot < n))
  node_links = links_in n next prev n _ slot _ n (omega arith) (omega arith) path_cut

  without_slot : without xs slot ≡ take i xs ++ drop (i + 1) xs
  without_slot =
      ap (λ ys. without ys slot) (cut_at xs i slot hi here) ∙ without_middle (take i xs) (drop (i + 1) xs) slot misses_before misses_after

  -- the ring without the slot
  ring_less : IsRing n (set next (get_or prev slot 0) (get_or next slot 0)) (set prev (get_or next slot 0) (get_or prev slot 0)) (set marks slot false) (without xs slot)
  ring_less =
      let links = links_of n next prev n _ slot _ n path_cut in
      let low : slot < n = node_links.1.1 in
      record {
        few = r.few;
        next_size = length-set next (get_or prev slot 0) (get_or next slot 0) ∙ r.next_size;
        prev_size = length-set prev (get_or next slot 0) (get_or prev slot 0) ∙ r.prev_size;
        marks_size = length-set marks slot false ∙ r.marks_size;
        path =
            rw without_slot
            (join_path n next prev n (take i xs) slot (drop (i + 1) xs) n r.next_size r.prev_size (omega arith) (omega arith)
            (λ (e : n ≡ slot). omega arith) (λ (e : n ≡ slot). omega arith) misses_before misses_after links.0 links.1 path_cut);
        marked = marks_less n marks xs slot r.marks_size r.marked low;
      }

-- a slot that waits is taken out of the ring
pub removed :
    (n : ℕ) (next prev : List ℕ) (marks : List Bool) (xs : List ℕ) (slot before after : ℕ) → IsRing n next prev marks xs → waits xs slot ≡ true
    → before ≡ get_or prev slot 0 → after ≡ get_or next slot 0
    → IsRing n (set next before after) (set prev after before) (set marks slot false) (without xs slot)
removed n next prev marks xs slot before after r w is_before is_after =
    let at = found_at slot xs w in
    rw (is_before, is_after) (ring_less n next prev marks xs at.0 slot r at.1 at.2)

-- the nodes beside a slot that waits
pub nodes_of : (n : ℕ) (next prev : List ℕ) (marks : List Bool) (xs : List ℕ) (slot : ℕ) → IsRing n next prev marks xs → waits xs slot ≡ true → (get_or prev slot 0 < n + 1) × ((get_or next slot 0 < n + 1) × (slot < n))
nodes_of n next prev marks xs slot r w =
    let at = found_at slot xs w in node_links n next prev marks xs at.0 slot r at.1 at.2

-- the first link tells the front
path_front_some : (n : ℕ) (next prev xs : List ℕ) → Path n next prev n xs n → get_or next n 0 < n → Some (get_or next n 0) ≡ front_of xs
unfolding Path
path_front_some n next prev [] p h = let e : get_or next n 0 ≡ n = p.0 in absurd (omega arith)
path_front_some n next prev (x ∷ xs) p h = ap Some p.0

path_front_none : (n : ℕ) (next prev xs : List ℕ) → Path n next prev n xs n → n ≤ get_or next n 0 → None ≡ front_of xs
unfolding Path
path_front_none n next prev [] p h = refl
path_front_none n next prev (x ∷ xs) p h =
    let e : get_or next n 0 ≡ x = p.0 in let low : x < n = p.1.1.0 in absurd (omega arith)

pub front_some : (n : ℕ) (next prev : List ℕ) (marks : List Bool) (xs : List ℕ) (k : ℕ) → IsRing n next prev marks xs → k ≡ get_or next n 0 → k < n → Some k ≡ front_of xs
front_some n next prev marks xs k r is h = rw is (path_front_some n next prev xs r.path (omega arith))

pub front_none : (n : ℕ) (next prev : List ℕ) (marks : List Bool) (xs : List ℕ) (k : ℕ) → IsRing n next prev marks xs → k ≡ get_or next n 0 → n ≤ k → None ≡ front_of xs
front_none n next prev marks xs k r is h = path_front_none n next prev xs r.path (omega arith)

-- only slots wait, each once
each_once : (xs : List ℕ) → ((i j : ℕ) → i < length xs → j < length xs → get_or xs i 0 ≡ get_or xs j 0 → i ≡ j) → EachOnce xs
each_once [] h = tt
each_once (x ∷ xs) h = (
  misses_none x xs (misses_from x xs (λ k l e. let z : suc k ≡ 0 = h (suc k) 0 (omega arith) (omega arith) e in omega arith)),
  each_once xs (λ i j hi hj e. let z : suc i ≡ suc j = h (suc i) (suc j) (omega arith) (omega arith) e in omega arith),
)

pub ring_sound : (n : ℕ) (next prev : List ℕ) (marks : List Bool) (xs : List ℕ) → IsRing n next prev marks xs → AreSlots (record { slots = n; waiting = xs })
ring_sound n next prev marks xs r =
    record {
      below = λ i d h. rw (get_or_default xs i d 0 h) (slot_at n next prev n xs n i r.path h);
      once = each_once xs (same_place n next prev xs n r.path);
    }

-- nodes that all lead to the head
pub made : (n : ℕ) → n ≤ 1024 → IsRing n (replicate (n + 1) n) (replicate (n + 1) n) (replicate n false) []
unfolding Path
made n few =
    let here : get_or (replicate (n + 1) n) n 0 ≡ n = get_or-replicate (n + 1) n n 0 (omega arith) in
    record {
      few = few;
      next_size = length-replicate (n + 1) n;
      prev_size = length-replicate (n + 1) n;
      marks_size = length-replicate n false;
      path = (here, here);
      marked = λ k h. get_or-replicate n k false false h;
    }

-- the list without its front
pub without_front : (xs : List ℕ) (k : ℕ) → EachOnce xs → Some k ≡ front_of xs → without xs k ≡ rest_of xs
without_front [] k once e = cc
without_front (x ∷ xs) k once e =
    let same : k ≡ x = cc in
    subst (λ j. without (x ∷ xs) j ≡ xs) (sym same) (rw (eq-eqb x x refl) (without_none xs x (none_misses x xs once.0)))

pub front_waits : (xs : List ℕ) (k : ℕ) → Some k ≡ front_of xs → waits xs k ≡ true
front_waits [] k e = cc
front_waits (x ∷ xs) k e = let same : x ≡ k = cc in rw (eq-eqb x k same) refl

-- a slot that does not wait need not be taken out
pub without_missing : (xs : List ℕ) (slot : ℕ) → waits xs slot ≡ false → without xs slot ≡ xs
without_missing xs slot w = without_none xs slot (none_misses slot xs w)

-- the test and the word
pub waits_contains : (xs : List ℕ) (slot : ℕ) → waits xs slot ≡ true → Contains xs slot
waits_contains xs slot w =
    let at = found_at slot xs w in (at.0, at.1, get_or_default xs at.0 slot 0 at.1 ∙ at.2)

pub contains_waits : (xs : List ℕ) (slot : ℕ) → Contains xs slot → waits xs slot ≡ true
contains_waits [] slot w = absurd (omega (arith, w.1))
contains_waits (x ∷ xs) slot (zero, h, e) = rw (eq-eqb x slot e) refl
contains_waits (x ∷ xs) slot (suc k, h, e) =
    rw (contains_waits xs slot (k, omega arith, e)) (or_true (eqb x slot))

-- only slots wait
pub waits_below : (n : ℕ) (xs : List ℕ) (slot : ℕ) → All (λ k. k < n) xs → waits xs slot ≡ true → slot < n
waits_below n xs slot all w =
    let at = found_at slot xs w in rw (← at.2) (all at.0 0 at.1)
