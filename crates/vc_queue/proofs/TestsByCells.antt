-- Tests over the buffers of a list, or of all lists, told by cells: each buffer has one cell, and each cell below the count is
-- of one buffer, so going through the cells finds what going through the lists would.
use Rattle.std.proofs.Common.{ℕ, zero, suc, ◌≡◌, ◌<◌, ◌≤◌, leb, ltb, Bool, true, false, ◌||◌, ◌&&◌, Option, Some, None, List, [], ◌∷◌, ◌++◌, map, length, get_or, take, refl, sym, ap, ◌∙◌, subst, ⊎_elim, arith, get_or-take, length-take}
use Rattle.std.specs.Prelude.{min}
use Rattle.std.specs.List.{list_all, list_any}
use Rattle.std.proofs.lemmas.Bool.{false≢true, false_from_ne_true, and_parts, and_from, or_cases, or_left, or_right, both_ways}
use Rattle.std.proofs.lemmas.List.Folds.{list_any-append, list_any_at}
use Rattle.vc_base.specs.declared.Side.{Side}
use Rattle.vc_base.specs.Buffers.{Buffer, long_enough, buffers}
use Rattle.vc_links.specs.Lists.{list_at, first}
use Rattle.vc_queue.specs.declared.cells.Place.{Place}
use Rattle.vc_queue.specs.declared.cells.Place.TheVariants.{Held, Ready, Job, Done}
use Rattle.vc_queue.specs.declared.cells.Cell.{Cell}
use Rattle.vc_queue.specs.Releasing.{is_fine, is_before, front_ordinal}
use Rattle.vc_queue.specs.Cells.{blank_cell, list_of, cell_at, held_at, buffer_at, state_of, is_member, IsSound}
use Rattle.vc_queue.proofs.OneCellMoves.{member_place, member_here, member_there}
use Rattle.vc_queue.proofs.HoldsFitCells.{same_bool}

pub all_from : {A : Type 0} (p : A → Bool) (xs : List A) (d : A) → ((i : ℕ) → i < length xs → p (get_or xs i d) ≡ true) → list_all p xs ≡ true
all_from p [] d h = refl
all_from p (x ∷ xs) d h =
    and_from (p x) (list_all p xs) (h 0 (omega arith)) (all_from p xs d (λ i hi. h (suc i) (omega (arith, hi))))

pub all_at : {A : Type 0} (p : A → Bool) (xs : List A) (d : A) (i : ℕ) → list_all p xs ≡ true → i < length xs → p (get_or xs i d) ≡ true
all_at p [] d i e h = absurd (omega (arith, h))
all_at p (x ∷ xs) d zero e h = (and_parts (p x) (list_all p xs) e).0
all_at p (x ∷ xs) d (suc i) e h = all_at p xs d i (and_parts (p x) (list_all p xs) e).1 (omega (arith, h))

pub any_place : {A : Type 0} (p : A → Bool) (xs : List A) (d : A) → list_any p xs ≡ true → (i : ℕ) × (i < length xs) × (p (get_or xs i d) ≡ true)
any_place p [] d e = absurd (false≢true e)
any_place p (x ∷ xs) d e =
    ⊎_elim (λ (h : p x ≡ true). (0, omega arith, h)) (λ (h : list_any p xs ≡ true). let r = any_place p xs d h in (suc r.0, omega (arith, r.1), r.2)) (or_cases (p x) (list_any p xs) e)

taken_length : (n : ℕ) (xs : List Cell) → n ≤ length xs → length (take n xs) ≡ n
taken_length n xs h = length-take n xs ∙ (let m : min n (length xs) ≡ n = omega (arith, h) in m)

-- an early answer
pub all_stops : (p : Cell → Bool) (xs : List Cell) (n i : ℕ) → n ≤ length xs → i < n → p (cell_at xs i) ≡ false → list_all p (take n xs) ≡ false
all_stops p xs n i hn hi e =
    false_from_ne_true (list_all p (take n xs)) (λ (t : list_all p (take n xs) ≡ true). both_ways (p (cell_at xs i)) e (ap p (sym (get_or-take n xs i blank_cell hi)) ∙ all_at p (take n xs) blank_cell i t (omega (arith, hi, taken_length n xs hn))))

pub any_stops : (p : Cell → Bool) (xs : List Cell) (n i : ℕ) → n ≤ length xs → i < n → p (cell_at xs i) ≡ true → list_any p (take n xs) ≡ true
any_stops p xs n i hn hi e =
    list_any_at p (take n xs) i blank_cell (omega (arith, hi, taken_length n xs hn)) (ap p (get_or-take n xs i blank_cell hi) ∙ e)

-- the buffers of a list, and their cells
any_map : (p : Buffer → Bool) (f : ℕ → Buffer) (q : ℕ → Bool) → ((j : ℕ) → p (f j) ≡ q j) → (xs : List ℕ) → list_any p (map f xs) ≡ list_any q xs
any_map p f q h [] = refl
any_map p f q h (x ∷ xs) = ap (λ b. b || list_any p (map f xs)) (h x) ∙ ap (λ b. q x || b) (any_map p f q h xs)

all_map : (p : Buffer → Bool) (f : ℕ → Buffer) (q : ℕ → Bool) → ((j : ℕ) → p (f j) ≡ q j) → (xs : List ℕ) → list_all p (map f xs) ≡ list_all q xs
all_map p f q h [] = refl
all_map p f q h (x ∷ xs) = ap (λ b. b && list_all p (map f xs)) (h x) ∙ ap (λ b. q x && b) (all_map p f q h xs)

member_is : (i : ℕ) (xs : List ℕ) → i < length xs → is_member (get_or xs i 0) xs ≡ true
member_is i [] h = absurd (omega (arith, h))
member_is zero (x ∷ xs) h = member_here x xs
member_is (suc i) (x ∷ xs) h = member_there (get_or xs i 0) x xs (member_is i xs (omega (arith, h)))

fine_ready : (p : Place) (size least : ℕ) → (list_of p ≡ 1 → leb least size ≡ true) → is_fine p size least ≡ true
fine_ready Held size least h = refl
fine_ready Ready size least h = h refl
fine_ready Job size least h = refl
fine_ready Done size least h = refl

ready_fine : (p : Place) (size least : ℕ) → list_of p ≡ 1 → is_fine p size least ≡ true → leb least size ≡ true
ready_fine Held size least e h = absurd (omega arith)
ready_fine Ready size least e h = h
ready_fine Job size least e h = absurd (omega arith)
ready_fine Done size least e h = absurd (omega arith)

any_split : (p : Buffer → Bool) (a b c d : List Buffer) → list_any p (a ++ (b ++ (c ++ d))) ≡ (list_any p a || (list_any p b || (list_any p c || list_any p d)))
any_split p a b c d =
    list_any-append p a (b ++ (c ++ d))
    ∙ ap (λ x. list_any p a || x) (list_any-append p b (c ++ d) ∙ ap (λ x. list_any p b || x) (list_any-append p c d))

one_of : (m : ℕ → Bool) → (m 0 || (m 1 || (m 2 || m 3))) ≡ true → (k : ℕ) × (m k ≡ true)
one_of m e =
    ⊎_elim (λ (h : m 0 ≡ true). (0, h))
    (λ (h : (m 1 || (m 2 || m 3)) ≡ true). ⊎_elim (λ (g : m 1 ≡ true). (1, g)) (λ (g : (m 2 || m 3) ≡ true). ⊎_elim (λ (f : m 2 ≡ true). (2, f)) (λ (f : m 3 ≡ true). (3, f)) (or_cases (m 2) (m 3) g)) (or_cases (m 1) (m 2 || m 3) h))
    (or_cases (m 0) (m 1 || (m 2 || m 3)) e)

of_place : (m : ℕ → Bool) (p : Place) → m (list_of p) ≡ true → (m 0 || (m 1 || (m 2 || m 3))) ≡ true
of_place m Held e = or_left (m 0) (m 1 || (m 2 || m 3)) e
of_place m Ready e = or_right (m 0) (m 1 || (m 2 || m 3)) (or_left (m 1) (m 2 || m 3) e)
of_place m Job e = or_right (m 0) (m 1 || (m 2 || m 3)) (or_right (m 1) (m 2 || m 3) (or_left (m 2) (m 3) e))
of_place m Done e = or_right (m 0) (m 1 || (m 2 || m 3)) (or_right (m 1) (m 2 || m 3) (or_right (m 2) (m 3) e))

before_ready : (p : Place) (ordinal mark : ℕ) → is_before p ordinal mark ≡ true → (list_of p ≡ 1) × (ltb ordinal mark ≡ true)
before_ready Held ordinal mark e = absurd (false≢true e)
before_ready Ready ordinal mark e = (refl, e)
before_ready Job ordinal mark e = absurd (false≢true e)
before_ready Done ordinal mark e = absurd (false≢true e)

ready_before : (p : Place) (ordinal mark : ℕ) → list_of p ≡ 1 → ltb ordinal mark ≡ true → is_before p ordinal mark ≡ true
ready_before Held ordinal mark e h = absurd (omega arith)
ready_before Ready ordinal mark e h = h
ready_before Job ordinal mark e h = absurd (omega arith)
ready_before Done ordinal mark e h = absurd (omega arith)

pub front_is : (side : Side) (cells : List Cell) (payloads : List (Option (List ℕ))) (xs : List ℕ) (i : ℕ) → Some i ≡ first xs → Some (cell_at cells i).ordinal ≡ front_ordinal (map (buffer_at side cells payloads) xs)
front_is side cells payloads [] i e = absurd cc
front_is side cells payloads (x ∷ xs) i e = let same : i ≡ x = cc in ap (λ j. Some (cell_at cells j).ordinal) same

pub front_none : (side : Side) (cells : List Cell) (payloads : List (Option (List ℕ))) (xs : List ℕ) → None ≡ first xs → None ≡ front_ordinal (map (buffer_at side cells payloads) xs)
front_none side cells payloads [] e = refl
front_none side cells payloads (x ∷ xs) e = absurd cc

-- whether a ready buffer is before the mark
pub before_is : (lists : List (List ℕ)) (cells : List Cell) (payloads : List (Option (List ℕ))) (count : ℕ) → IsSound lists cells payloads count
    → (side : Side) (mark : ℕ)
    → list_any (λ c. is_before c.place c.ordinal mark) (take count cells) ≡ list_any (λ b. ltb b.ordinal mark) (map (buffer_at side cells payloads) (list_at lists 1))
before_is lists cells payloads count s side mark =
    let room : count ≤ length cells = s.cell_room in
    same_bool (list_any (λ c. is_before c.place c.ordinal mark) (take count cells)) (list_any (λ j. ltb (cell_at cells j).ordinal mark) (list_at lists 1))
    (λ t. let p = any_place (λ c. is_before c.place c.ordinal mark) (take count cells) blank_cell t in
    let below : p.0 < count = omega (arith, p.1, taken_length count cells room) in
    let b = before_ready (cell_at cells p.0).place (cell_at cells p.0).ordinal mark (ap (λ c. is_before c.place c.ordinal mark) (sym (get_or-take count cells p.0 blank_cell below)) ∙ p.2) in
    let m = member_place p.0 (list_at lists 1) (subst (λ k. is_member p.0 (list_at lists k) ≡ true) b.0 (s.found p.0 below)) in
    list_any_at (λ j. ltb (cell_at cells j).ordinal mark) (list_at lists 1) m.0 0 m.1 (ap (λ j. ltb (cell_at cells j).ordinal mark) m.2 ∙ b.1))
    (λ t. let p = any_place (λ j. ltb (cell_at cells j).ordinal mark) (list_at lists 1) 0 t in
    let q = s.placed 1 (get_or (list_at lists 1) p.0 0) (member_is p.0 (list_at lists 1) p.1) in
    any_stops (λ c. is_before c.place c.ordinal mark) cells count (get_or (list_at lists 1) p.0 0) room q.0 (ready_before (cell_at cells (get_or (list_at lists 1) p.0 0)).place (cell_at cells (get_or (list_at lists 1) p.0 0)).ordinal mark q.1 p.2))
    ∙ sym (any_map (λ b. ltb b.ordinal mark) (buffer_at side cells payloads) (λ j. ltb (cell_at cells j).ordinal mark) (λ j. refl) (list_at lists 1))

module _ (lists : List (List ℕ)) (cells : List Cell) (payloads : List (Option (List ℕ))) (count : ℕ) (s : IsSound lists cells payloads count) (side : Side) (least : ℕ) where
  room : count ≤ length cells
  room = s.cell_room

  fits : ℕ → Bool
  fits j = leb least (cell_at cells j).size

  all_ready : list_all (λ c. is_fine c.place c.size least) (take count cells) ≡ list_all (λ b. leb least b.size) (map (buffer_at side cells payloads) (list_at lists 1))
  unfolding fits
  all_ready =
      same_bool (list_all (λ c. is_fine c.place c.size least) (take count cells)) (list_all fits (list_at lists 1))
      (λ t. all_from fits (list_at lists 1) 0 (λ i hi.
      let p = s.placed 1 (get_or (list_at lists 1) i 0) (member_is i (list_at lists 1) hi) in
      ready_fine (cell_at cells (get_or (list_at lists 1) i 0)).place (cell_at cells (get_or (list_at lists 1) i 0)).size least p.1
      (ap (λ c. is_fine c.place c.size least) (sym (get_or-take count cells (get_or (list_at lists 1) i 0) blank_cell p.0))
      ∙ all_at (λ c. is_fine c.place c.size least) (take count cells) blank_cell (get_or (list_at lists 1) i 0) t (omega (arith, p.0, taken_length count cells room)))))
      (λ t. all_from (λ c. is_fine c.place c.size least) (take count cells) blank_cell (λ i hi.
      let below : i < count = omega (arith, hi, taken_length count cells room) in
      ap (λ c. is_fine c.place c.size least) (get_or-take count cells i blank_cell below)
      ∙ fine_ready (cell_at cells i).place (cell_at cells i).size least (λ e.
      let m = member_place i (list_at lists 1) (subst (λ k. is_member i (list_at lists k) ≡ true) e (s.found i below)) in
      ap fits (sym m.2) ∙ all_at fits (list_at lists 1) 0 m.0 t m.1)))
      ∙ sym (all_map (λ b. leb least b.size) (buffer_at side cells payloads) fits (λ j. refl) (list_at lists 1))

  some_list : list_any (λ c. leb least c.size) (take count cells) ≡ (list_any fits (list_at lists 0) || (list_any fits (list_at lists 1) || (list_any fits (list_at lists 2) || list_any fits (list_at lists 3))))
  unfolding fits
  some_list =
      same_bool (list_any (λ c. leb least c.size) (take count cells)) (list_any fits (list_at lists 0) || (list_any fits (list_at lists 1) || (list_any fits (list_at lists 2) || list_any fits (list_at lists 3))))
      (λ t. let p = any_place (λ c. leb least c.size) (take count cells) blank_cell t in
      let below : p.0 < count = omega (arith, p.1, taken_length count cells room) in
      let m = member_place p.0 (list_at lists (list_of (cell_at cells p.0).place)) (s.found p.0 below) in
      of_place (λ k. list_any fits (list_at lists k)) (cell_at cells p.0).place
      (list_any_at fits (list_at lists (list_of (cell_at cells p.0).place)) m.0 0 m.1 (ap fits m.2 ∙ (ap (λ c. leb least c.size) (sym (get_or-take count cells p.0 blank_cell below)) ∙ p.2))))
      (λ t. let k = one_of (λ k. list_any fits (list_at lists k)) t in
      let p = any_place fits (list_at lists k.0) 0 k.1 in
      any_stops (λ c. leb least c.size) cells count (get_or (list_at lists k.0) p.0 0) room (s.placed k.0 (get_or (list_at lists k.0) p.0 0) (member_is p.0 (list_at lists k.0) p.1)).0 p.2)

  some_buffer : (streams : Bool) (next_seq next_ordinal : ℕ) → list_any (λ c. leb least c.size) (take count cells) ≡ list_any (λ b. leb least b.size) (buffers (state_of side streams next_seq next_ordinal lists cells payloads))
  unfolding fits
  some_buffer streams next_seq next_ordinal =
      some_list
      ∙ sym (any_split (λ b. leb least b.size) (map (held_at cells) (list_at lists 0)) (map (buffer_at side cells payloads) (list_at lists 1)) (map (buffer_at side cells payloads) (list_at lists 2)) (map (buffer_at side cells payloads) (list_at lists 3))
      ∙ or_four _ _ _ _ _ _ _ _
      (any_map (λ b. leb least b.size) (held_at cells) fits (λ j. refl) (list_at lists 0))
      (any_map (λ b. leb least b.size) (buffer_at side cells payloads) fits (λ j. refl) (list_at lists 1))
      (any_map (λ b. leb least b.size) (buffer_at side cells payloads) fits (λ j. refl) (list_at lists 2))
      (any_map (λ b. leb least b.size) (buffer_at side cells payloads) fits (λ j. refl) (list_at lists 3)))
    where
      or_four : (a b c d a' b' c' d' : Bool) → a ≡ a' → b ≡ b' → c ≡ c' → d ≡ d' → (a || (b || (c || d))) ≡ (a' || (b' || (c' || d')))
      or_four a b c d a' b' c' d' p q r t = cc

  pub long_is : (streams : Bool) (next_seq next_ordinal : ℕ) → (list_all (λ c. is_fine c.place c.size least) (take count cells) && list_any (λ c. leb least c.size) (take count cells)) ≡ long_enough (state_of side streams next_seq next_ordinal lists cells payloads) least
  long_is streams next_seq next_ordinal =
      ap (λ b. b && list_any (λ c. leb least c.size) (take count cells)) all_ready
      ∙ ap (λ b. list_all (λ b. leb least b.size) (map (buffer_at side cells payloads) (list_at lists 1)) && b) (some_buffer streams next_seq next_ordinal)
