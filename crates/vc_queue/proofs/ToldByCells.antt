-- What a queue tells of the buffer with an index, told by cells: the cell's place is the one list that the buffer is in. And a
-- walk along the links of a list counts its cells, since none stands there twice.
use Rattle.std.proofs.Common.{ℕ, zero, suc, ◌+◌, ◌≡◌, ◌<◌, ◌≤◌, eqb, Bool, true, false, ⊎_elim, Option, Some, None, cond, List, [], ◌∷◌, map, length, get_or, drop, refl, sym, ap, ◌∙◌, subst, arith, bit_or}
use Rattle.std.specs.Prelude.{Err, Ok}
use Rattle.std.specs.List.{Contains, list_any}
use Rattle.std.specs.Option.{option_map, ok_or}
use Rattle.std.proofs.lemmas.Bool.{eqb-true, eq-eqb, ne_eqb, false_from_ne_true, false≢true, or_cases}
use Rattle.std.proofs.lemmas.List.{get_or_default}
use Rattle.std.proofs.lemmas.Map.Keys.{IsDistinct-from_apart}
use Rattle.std.proofs.lemmas.Map.Steps.{length-le_from_distinct_below}
use Rattle.vc_base.specs.declared.Side.{Side}
use Rattle.vc_base.specs.declared.Reply.{Reply}
use Rattle.vc_base.specs.declared.Reply.TheVariants.{Info}
use Rattle.vc_base.specs.declared.Errno.TheVariants.{Inval}
use Rattle.vc_base.specs.Buffers.{Buffer, with_index, querybuf_reply, info_of, info}
use Rattle.vc_base.specs.Limits.{done_flag, queued_flag}
use Rattle.vc_links.specs.Lists.{list_at, first, after, IsInSome, AreApart}
use Rattle.vc_queue.specs.declared.cells.Place.{Place}
use Rattle.vc_queue.specs.declared.cells.Place.TheVariants.{Held, Ready, Job, Done}
use Rattle.vc_queue.specs.declared.cells.Cell.{Cell}
use Rattle.vc_queue.specs.Cells.{list_of, told_flags, cell_at, held_at, buffer_at, state_of, is_member, IsSound}
use Rattle.vc_queue.proofs.HoldsFitCells.{with_held, with_at, same_bool}

-- a cell is in the list of its place alone
pub member_of : (lists : List (List ℕ)) (cells : List Cell) (payloads : List (Option (List ℕ))) (count i : ℕ) → IsSound lists cells payloads count → i < count → (k : ℕ) → is_member i (list_at lists k) ≡ eqb (list_of (cell_at cells i).place) k
member_of lists cells payloads count i s h k =
    same_bool (is_member i (list_at lists k)) (eqb (list_of (cell_at cells i).place) k)
    (λ m. eq-eqb (list_of (cell_at cells i).place) k (s.placed k i m).1)
    (λ e. subst (λ l. is_member i (list_at lists l) ≡ true) (eqb-true (list_of (cell_at cells i).place) k e) (s.found i h))

-- a cell that no buffer has is in no list
pub member_past : (lists : List (List ℕ)) (cells : List Cell) (payloads : List (Option (List ℕ))) (count i : ℕ) → IsSound lists cells payloads count → count ≤ i → (k : ℕ) → is_member i (list_at lists k) ≡ false
member_past lists cells payloads count i s h k =
    false_from_ne_true (is_member i (list_at lists k)) (λ (m : is_member i (list_at lists k) ≡ true). absurd (omega (arith, h, (s.placed k i m).0)))

held_past : (b : Bool) (x : Buffer) → b ≡ false → None ≡ option_map (λ y. y.size) (cond b (Some x) None)
held_past true x e = absurd cc
held_past false x e = refl

held_here : (p : Place) (x : Buffer) → cond (eqb (list_of p) 0) (Some x.size) None ≡ option_map (λ y. y.size) (cond (eqb (list_of p) 0) (Some x) None)
held_here Held x = refl
held_here Ready x = refl
held_here Job x = refl
held_here Done x = refl

-- what is told of a buffer that is in one of the four places
told : Option Buffer → Option Buffer → Option Buffer → Option Buffer → Option Reply
told a b c d =
    info_of a (info 0) (info_of b (info queued_flag) (info_of c (info queued_flag) (info_of d (λ x. info (bit_or done_flag x.flags) x) None)))

same_told : (a a' b b' c c' d d' : Option Buffer) → a ≡ a' → b ≡ b' → c ≡ c' → d ≡ d' → told a b c d ≡ told a' b' c' d'
same_told a a' b b' c c' d d' p q r t = cc

told_none : (a b c d : Buffer) (m : ℕ → Bool) → ((k : ℕ) → m k ≡ false) → told (cond (m 0) (Some a) None) (cond (m 1) (Some b) None) (cond (m 2) (Some c) None) (cond (m 3) (Some d) None) ≡ None
unfolding told
told_none a b c d m h = rw (h 0, h 1, h 2, h 3) refl

told_place : (p : Place) (index size flags : ℕ) (a b : Buffer) → a.index ≡ index → b.index ≡ index → a.size ≡ size → b.size ≡ size → b.flags ≡ flags
    → told (cond (eqb (list_of p) 0) (Some a) None) (cond (eqb (list_of p) 1) (Some b) None) (cond (eqb (list_of p) 2) (Some b) None) (cond (eqb (list_of p) 3) (Some b) None) ≡ Some (Info index size (told_flags p flags))
unfolding told
told_place Held index size flags a b i j m n f = cc
told_place Ready index size flags a b i j m n f = cc
told_place Job index size flags a b i j m n f = cc
told_place Done index size flags a b i j m n f = cc

told_same : (a b : Buffer) (m n : ℕ → Bool) → ((k : ℕ) → m k ≡ n k) → told (cond (m 0) (Some a) None) (cond (m 1) (Some b) None) (cond (m 2) (Some b) None) (cond (m 3) (Some b) None) ≡ told (cond (n 0) (Some a) None) (cond
    (n 1) (Some b) None) (cond (n 2) (Some b) None) (cond (n 3) (Some b) None)
told_same a b m n h = rw (h 0, h 1, h 2, h 3) refl

module _ (lists : List (List ℕ)) (cells : List Cell) (payloads : List (Option (List ℕ))) (count i : ℕ) (s : IsSound lists cells payloads count) where
  pub size_past : count ≤ i → None ≡ option_map (λ b. b.size) (with_index i (map (held_at cells) (list_at lists 0)))
  size_past h =
      held_past (is_member i (list_at lists 0)) (held_at cells i) (member_past lists cells payloads count i s h 0)
      ∙ ap (option_map (λ b. b.size)) (sym (with_held cells i (list_at lists 0)))

  pub size_at : i < count → cond (eqb (list_of (cell_at cells i).place) 0) (Some (cell_at cells i).size) None ≡ option_map (λ b. b.size) (with_index i (map (held_at cells) (list_at lists 0)))
  size_at h =
      held_here (cell_at cells i).place (held_at cells i)
      ∙ (ap (λ m. option_map (λ b. b.size) (cond m (Some (held_at cells i)) None)) (sym (member_of lists cells payloads count i s h 0))
      ∙ ap (option_map (λ b. b.size)) (sym (with_held cells i (list_at lists 0))))

  told_is : (side : Side) (streams : Bool) (next_seq next_ordinal : ℕ)
      → querybuf_reply (state_of side streams next_seq next_ordinal lists cells payloads) i
      ≡ told (cond (is_member i (list_at lists 0)) (Some (held_at cells i)) None) (cond (is_member i (list_at lists 1)) (Some (buffer_at side cells payloads i)) None)
      (cond (is_member i (list_at lists 2)) (Some (buffer_at side cells payloads i)) None) (cond (is_member i (list_at lists 3)) (Some (buffer_at side cells payloads i)) None)
  unfolding told
  told_is side streams next_seq next_ordinal =
      same_told _ _ _ _ _ _ _ _ (with_held cells i (list_at lists 0)) (with_at (buffer_at side cells payloads) (λ j. refl) i (list_at lists 1)) (with_at (buffer_at side cells payloads) (λ j. refl) i (list_at lists 2)) (with_at (buffer_at side cells payloads) (λ j. refl) i (list_at lists 3))

  pub query_past : (side : Side) (streams : Bool) (next_seq next_ordinal : ℕ) → count ≤ i → Err Inval ≡ ok_or (querybuf_reply (state_of side streams next_seq next_ordinal lists cells payloads) i) Inval
  query_past side streams next_seq next_ordinal h =
      ap (λ o. ok_or o Inval) (sym (told_is side streams next_seq next_ordinal ∙ told_none (held_at cells i) (buffer_at side cells payloads i) (buffer_at side cells payloads i) (buffer_at side cells payloads i) (λ k. is_member i
      (list_at lists k)) (member_past lists cells payloads count i s h)))

  pub query_at : (side : Side) (streams : Bool) (next_seq next_ordinal : ℕ) → i < count → Ok (Info i (cell_at cells i).size (told_flags (cell_at cells i).place (cell_at cells i).flags)) ≡ ok_or (querybuf_reply (state_of side streams next_seq next_ordinal lists cells payloads) i) Inval
  query_at side streams next_seq next_ordinal h =
      ap (λ o. ok_or o Inval) (sym (told_is side streams next_seq next_ordinal ∙ (told_same (held_at cells i) (buffer_at side cells payloads i)
      (λ k. is_member i (list_at lists k)) (λ k. eqb (list_of (cell_at cells i).place) k) (member_of lists cells payloads count i s h) ∙ told_place (cell_at cells i).place i
      (cell_at cells i).size (cell_at cells i).flags (held_at cells i) (buffer_at side cells payloads i) refl refl refl refl refl)))

-- a walk along a list

-- no cell stands twice
Distinct : List ℕ → Type 0
Distinct xs =
    (i j : ℕ) → i < length xs → j < length xs → get_or xs i 0 ≡ get_or xs j 0 → i ≡ j

distinct_rest : (x : ℕ) (xs : List ℕ) → Distinct (x ∷ xs) → Distinct xs
unfolding Distinct
distinct_rest x xs d i j hi hj e = let p = d (suc i) (suc j) (omega (arith, hi)) (omega (arith, hj)) e in omega (arith, p)

distinct_head : (x : ℕ) (xs : List ℕ) (n : ℕ) → Distinct (x ∷ xs) → n < length xs → eqb x (get_or xs n 0) ≡ false
unfolding Distinct
distinct_head x xs n d h =
    ne_eqb x (get_or xs n 0) (λ (e : x ≡ get_or xs n 0). let p = d 0 (suc n) (omega arith) (omega (arith, h)) e in omega (arith, p))

-- what follows the cell at a place
after_at : (xs : List ℕ) (n : ℕ) → Distinct xs → n < length xs → after (get_or xs n 0) xs ≡ first (drop (suc n) xs)
after_at [] n d h = absurd (omega (arith, h))
after_at (x ∷ xs) zero d h = ap (λ b. cond b (first xs) (after x xs)) (eq-eqb x x refl)
after_at (x ∷ xs) (suc n) d h =
    ap (λ b. cond b (first xs) (after (get_or xs n 0) xs)) (distinct_head x xs n d (omega (arith, h)))
    ∙ after_at xs n (distinct_rest x xs d) (omega (arith, h))

first_drop : (xs : List ℕ) (n cell : ℕ) → Some cell ≡ first (drop n xs) → (n < length xs) × (get_or xs n 0 ≡ cell)
first_drop [] zero cell e = absurd cc
first_drop [] (suc n) cell e = absurd cc
first_drop (x ∷ xs) zero cell e = (omega arith, let same : cell ≡ x = cc in sym same)
first_drop (x ∷ xs) (suc n) cell e = let p = first_drop xs n cell e in (omega (arith, p.0), p.1)

first_drop_none : (xs : List ℕ) (n : ℕ) → None ≡ first (drop n xs) → length xs ≤ n
first_drop_none [] n e = omega arith
first_drop_none (x ∷ xs) zero e = absurd cc
first_drop_none (x ∷ xs) (suc n) e = let p = first_drop_none xs n e in omega (arith, p)

get_at : (xs : List ℕ) (k i : ℕ) → k < length xs → get_or xs k 0 ≡ i → get_or xs k i ≡ i
get_at [] k i h e = absurd (omega (arith, h))
get_at (x ∷ xs) zero i h e = e
get_at (x ∷ xs) (suc k) i h e = get_at xs k i (omega (arith, h)) e

any_below : (ys : List ℕ) (q : ℕ) → ((i : ℕ) → i < length ys → get_or ys i 0 < 32) → list_any (eqb q) ys ≡ true → q < 32
any_below [] q all found = absurd (false≢true found)
any_below (y ∷ ys) q all found = ⊎_elim (λ (e : eqb q y ≡ true). let same = eqb-true q y e in let low : y < 32 = all 0 (omega arith) in omega arith) (λ (e : list_any (eqb q) ys ≡ true). any_below ys q (λ i h. all (suc i) (omega arith)) e) (or_cases (eqb q y) (list_any (eqb q) ys) found)

-- a list has at most 32 cells
pub list_few : (lists : List (List ℕ)) (k : ℕ) → AreApart lists → length (list_at lists k) ≤ 32
list_few lists k apart =
    length-le_from_distinct_below (list_at lists k) 32
    (IsDistinct-from_apart eqb (list_at lists k) (λ i j d lt hj. ne_eqb _ _ (λ (e : get_or (list_at lists k) i d ≡ get_or (list_at lists k) j d). let hi : i < length
    (list_at lists k) = omega arith in let same = apart.once k k i j hi hj
    (get_or_default (list_at lists k) i 0 d hi ∙ (e ∙ get_or_default (list_at lists k) j d 0 hj)) in absurd (omega (arith, same.1)))))
    (λ q found. any_below (list_at lists k) q (λ i h. apart.below k i h) found)

-- n cells of the list were passed, and this is the next
pub record Walk (xs : List ℕ) (n : ℕ) (place : Option ℕ) : Type 0 where
  pub upto : n ≤ length xs
  pub here : place ≡ first (drop n xs)

pub walk_here : (xs : List ℕ) (n : ℕ) (place : Option ℕ) (cell : ℕ) → place ≡ Some cell → Walk xs n place → Walk xs n (Some cell)
walk_here xs n place cell e w = record { upto = w.upto; here = sym e ∙ w.here }

pub walk_begins : (xs : List ℕ) (place : Option ℕ) → place ≡ first xs → Walk xs 0 place
walk_begins xs place e = record { upto = omega arith; here = e }

module _ (lists : List (List ℕ)) (k n cell : ℕ) (apart : AreApart lists) (hk : k < 4) (w : Walk (list_at lists k) n (Some cell)) where
  pub walk_more : n < length (list_at lists k)
  walk_more = (first_drop (list_at lists k) n cell w.here).0

  pub walk_contains : Contains (list_at lists k) cell
  walk_contains =
      (n, walk_more, get_at (list_at lists k) n cell walk_more (first_drop (list_at lists k) n cell w.here).1)

  pub walk_in : IsInSome lists cell
  walk_in = (k, hk, walk_contains)

  pub walk_below : cell < 32
  walk_below =
      subst (λ x. x < 32) (first_drop (list_at lists k) n cell w.here).1 (apart.below k n walk_more)

  pub walk_next : (next : Option ℕ) → next ≡ after cell (list_at lists k) → Walk (list_at lists k) (n + 1) next
  unfolding Distinct
  walk_next next e =
      record {
        upto = omega (arith, walk_more);
        here = e ∙ (ap (λ x. after x (list_at lists k)) (sym (first_drop (list_at lists k) n cell w.here).1)
            ∙ (after_at (list_at lists k) n (λ i j hi hj z. (apart.once k k i j hi hj z).1) walk_more
            ∙ (let one : suc n ≡ n + 1 = omega arith in ap (λ m. first (drop m (list_at lists k))) one)));
      }

pub walk_ends : (xs : List ℕ) (n : ℕ) (place : Option ℕ) → Walk xs n place → None ≡ place → n ≡ length xs
walk_ends xs n place w e = let p = first_drop_none xs n (e ∙ w.here) in omega (arith, p, w.upto)
