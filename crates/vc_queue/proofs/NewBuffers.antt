-- New buffers of a queue. Their cells go behind those that are there, and to the end of the held list, and their payloads,
-- of zeros, to the user. All other cells and payloads stay, so the queue is the old one with so many held buffers more.
use Rattle.std.proofs.Common.{ℕ, zero, suc, ◌+◌, ◌≡◌, ◌≢◌, ◌<◌, ◌≤◌, ltb, ◌-◌, ◌⊎◌, Bool, true, false, ◌||◌, ◌&&◌, Option, Some, None, Ok, cond}
use Rattle.std.proofs.Common.{◌==◌, List, [], ◌∷◌, ◌++◌, map, length, get_or, set, replicate, refl, sym, ap, ◌∙◌, subst, ⊎_elim, arith, get_or-set_same, get_or-set_other, length-append, append_assoc}
use Rattle.std.specs.Prelude.{min, is_some}
use Rattle.std.specs.List.{sum_by}
use Rattle.std.specs.Option.{option_map}
use Rattle.std.proofs.lemmas.Bool.{false≢true, cases_eq, cases_lt, both_ways, or_cases, or_left, or_right}
use Rattle.std.proofs.lemmas.List.{append-nil, map-append, length-map, length-replicate, set-get_or, set-set}
use Rattle.std.proofs.lemmas.List.Folds.{list_any-append}
use Rattle.std.proofs.lemmas.List.Sums.{sum_by-set}
use Rattle.vc_base.specs.declared.Side.{Side}
use Rattle.vc_base.specs.declared.Side.TheVariants.{Out, Cap}
use Rattle.vc_base.specs.Buffers.{QueueState, buffer_count, held_buffer, new_buffers, reqbufs_refusal, reqbufs_after, refuse_if, create_refusal, create_after, created}
use Rattle.vc_base.specs.Limits.{most_buffers, longest_buffer}
use Rattle.vc_base.specs.declared.Errno.TheVariants.{Busy, Inval}
use Rattle.vc_queue.specs.Answers.{answer_of, after_of}
use Rattle.vc_links.specs.Lists.{list_at, IsInSome, AreApart}
use Rattle.vc_queue.specs.declared.cells.Cell.{Cell}
use Rattle.vc_queue.specs.Payloads.{payload_at}
use Rattle.vc_queue.specs.Holds.{HoldState, side_of, held_payload, with_payload}
use Rattle.vc_queue.specs.Releasing.{other_side}
use Rattle.vc_queue.specs.Growing.{cannot_grow, AnswersWithMemory, HasNew, AreZero, AreMore, AreHandedOver, new_cell, numbers_from, added, cleared, without_side}
use Rattle.vc_queue.specs.Cells.{list_of, cell_at, held_at, buffer_of, buffer_at, state_of, is_member, IsStored, IsSound}
use Rattle.vc_queue.proofs.OneCellMoves.{map_same, same_queue, cons_cases, member_here, member_there}
use Rattle.vc_queue.proofs.HoldsFitCells.{FitsCells, same_bool, side_changed, contains_member}
use Rattle.vc_queue.proofs.ToldByCells.{member_past}
use Rattle.vc_queue.proofs.HeldGoesToReady.{member_at}
use Rattle.vc_queue.proofs.StoppedGoesToUser.{other_stays}

-- a queue without buffers

none_listed : (n k : ℕ) → ◌≡◌ {A = List ℕ} (get_or (replicate n []) k []) []
none_listed zero k = refl
none_listed (suc n) zero = refl
none_listed (suc n) (suc k) = none_listed n k

pub none_stored : (n k : ℕ) → ◌≡◌ {A = Option (List ℕ)} (get_or (replicate n None) k None) None
none_stored zero k = refl
none_stored (suc n) zero = refl
none_stored (suc n) (suc k) = none_stored n k

pub empty_sound : (lists : List (List ℕ)) (cells : List Cell) (payloads : List (Option (List ℕ))) → lists ≡ replicate 4 [] → AreApart lists → ((i : ℕ) → payload_at payloads i ≡ None) → IsSound lists cells payloads 0
empty_sound lists cells payloads empty apart none =
    record {
      apart = apart;
      few = omega arith;
      cell_room = omega arith;
      payload_room = omega arith;
      placed = λ k i m. absurd (false≢true (subst (λ l. is_member i l ≡ true) (ap (λ l. list_at l k) empty ∙ none_listed 4 k) m));
      found = λ i h. absurd (omega (arith, h));
      total = ap (sum_by length) empty;
      stored = λ i h. absurd (omega (arith, h));
      beyond = λ i h. none i;
      one_job = rw (ap (λ l. list_at l 2) empty) (omega arith);
    }

-- so many empty places

pub empty_room : (number : ℕ) (places : List (Option (List ℕ))) → places ≡ replicate number None → length places ≡ 0 + number
empty_room number places e = ap length e ∙ (none_length number ∙ (let z : number ≡ 0 + number = omega arith in z))
  where
    none_length : (n : ℕ) → length {A = Option (List ℕ)} (replicate n None) ≡ n
    none_length zero = refl
    none_length (suc n) = ap suc (none_length n)

pub empty_places : (number : ℕ) (places : List (Option (List ℕ))) → places ≡ replicate number None → (i : ℕ) → payload_at places i ≡ payload_at [] i
empty_places number places e i = ap (λ l. payload_at l i) e ∙ none_stored number i

-- the number of buffers

sum_four : (lists : List (List ℕ)) → length lists ≡ 4 → sum_by length lists ≡ length (list_at lists 0) + (length (list_at lists 1) + (length (list_at lists 2) + length (list_at lists 3)))
sum_four [] e = absurd (omega arith)
sum_four (a ∷ []) e = absurd (omega arith)
sum_four (a ∷ b ∷ []) e = absurd (omega arith)
sum_four (a ∷ b ∷ c ∷ []) e = absurd (omega arith)
sum_four (a ∷ b ∷ c ∷ d ∷ []) e = omega arith
sum_four (a ∷ b ∷ c ∷ d ∷ f ∷ r) e = absurd (omega arith)

pub number_is : (side : Side) (streams : Bool) (next_seq next_ordinal : ℕ) (lists : List (List ℕ)) (cells : List Cell) (payloads : List (Option (List ℕ))) (count : ℕ) → IsSound lists cells payloads count
    → buffer_count (state_of side streams next_seq next_ordinal lists cells payloads) ≡ count
number_is side streams next_seq next_ordinal lists cells payloads count s =
    let f = buffer_at side cells payloads in
    omega (arith, s.total, sum_four lists s.apart.four, length-map (list_at lists 0) (held_at cells), length-map (list_at lists 1) f, length-map (list_at lists 2) f, length-map (list_at lists 3) f)

-- so the number of buffers is the count
pub count_at : (side : Side) (streams : Bool) (next_seq next_ordinal : ℕ) (lists : List (List ℕ)) (cells : List Cell) (payloads : List (Option (List ℕ))) (count : ℕ) (q : QueueState) (n : ℕ)
    → IsSound lists cells payloads count → state_of side streams next_seq next_ordinal lists cells payloads ≡ q → n ≡ buffer_count q → count ≡ n
count_at side streams next_seq next_ordinal lists cells payloads count q n s view e =
    sym (number_is side streams next_seq next_ordinal lists cells payloads count s) ∙ (ap buffer_count view ∙ sym e)

pub sound_at : (side : Side) (streams : Bool) (next_seq next_ordinal : ℕ) (lists : List (List ℕ)) (cells : List Cell) (payloads : List (Option (List ℕ))) (count : ℕ) (q : QueueState) (n : ℕ)
    → IsSound lists cells payloads count → state_of side streams next_seq next_ordinal lists cells payloads ≡ q → n ≡ buffer_count q → IsSound lists cells payloads n
sound_at side streams next_seq next_ordinal lists cells payloads count q n s view e =
    subst (IsSound lists cells payloads) (count_at side streams next_seq next_ordinal lists cells payloads count q n s view e) s

-- the state of empty lists
pub emptied : (side : Side) (streams : Bool) (next_seq next_ordinal : ℕ) (lists : List (List ℕ)) (cells : List Cell) (payloads : List (Option (List ℕ))) (none : List (List ℕ)) (cells' : List Cell) (payloads' : List (Option (List ℕ)))
    → none ≡ replicate 4 [] → state_of side streams next_seq next_ordinal none cells' payloads' ≡ cleared (state_of side streams next_seq next_ordinal lists cells payloads)
emptied side streams next_seq next_ordinal lists cells payloads none cells' payloads' e =
    ap (λ l. state_of side streams next_seq next_ordinal l cells' payloads') e

-- numbers in a row

pub length_from : (first number : ℕ) → length (numbers_from first number) ≡ number
length_from first zero = refl
length_from first (suc number) = ap suc (length_from (first + 1) number)

pub from_within : (first number j : ℕ) → is_member j (numbers_from first number) ≡ true → (first ≤ j) × (j < first + number)
from_within first zero j m = absurd (false≢true m)
from_within first (suc number) j m =
    ⊎_elim (λ (z : j ≡ first). (omega (arith, z), omega (arith, z))) (λ (w : is_member j (numbers_from (first + 1) number) ≡ true). let p = from_within (first + 1) number j w in (omega (arith, p.0), omega (arith, p.1))) (cons_cases j first (numbers_from (first + 1) number) m)

pub within_from : (first number j : ℕ) → first ≤ j → j < first + number → is_member j (numbers_from first number) ≡ true
within_from first zero j l h = absurd (omega (arith, l, h))
within_from first (suc number) j l h =
    ⊎_elim (λ (z : j ≡ first). subst (λ x. is_member x (numbers_from first (suc number)) ≡ true) (sym z) (member_here first (numbers_from (first + 1) number)))
    (λ (n : j ≡ first → ⊥). member_there j first (numbers_from (first + 1) number) (within_from (first + 1) number j (omega (arith, l, n)) (omega (arith, h))))
    (cases_eq j first)

-- the next number goes to the end
from_push : (first number : ℕ) → numbers_from first number ++ (first + number) ∷ [] ≡ numbers_from first (suc number)
from_push first zero = let e : first + 0 ≡ first = omega arith in ap (λ x. x ∷ []) e
from_push first (suc number) =
    let e : first + suc number ≡ (first + 1) + number = omega arith in
    ap (λ x. first ∷ (numbers_from (first + 1) number ++ x ∷ [])) e ∙ ap (λ l. first ∷ l) (from_push (first + 1) number)

append_cases : (j : ℕ) (xs ys : List ℕ) → is_member j (xs ++ ys) ≡ true → (is_member j xs ≡ true) ⊎ (is_member j ys ≡ true)
append_cases j xs ys m = or_cases (is_member j xs) (is_member j ys) (sym (list_any-append (λ i. i == j) xs ys) ∙ m)

append_left : (j : ℕ) (xs ys : List ℕ) → is_member j xs ≡ true → is_member j (xs ++ ys) ≡ true
append_left j xs ys m = list_any-append (λ i. i == j) xs ys ∙ or_left (is_member j xs) (is_member j ys) m

append_right : (j : ℕ) (xs ys : List ℕ) → is_member j ys ≡ true → is_member j (xs ++ ys) ≡ true
append_right j xs ys m = list_any-append (λ i. i == j) xs ys ∙ or_right (is_member j xs) (is_member j ys) m

-- so many cells are linked

pub record Linking (first : ℕ) (old : List (List ℕ)) (n : ℕ) (now : List (List ℕ)) : Type 0 where
  pub linked : now ≡ set old 0 (list_at old 0 ++ numbers_from first n)
  pub apart : AreApart now

pub linking_none : (first : ℕ) (old : List (List ℕ)) → AreApart old → Linking first old 0 old
linking_none first old apart =
    record {
      linked = sym (ap (set old 0) (append-nil (list_at old 0)) ∙ set-get_or old 0 []);
      apart = apart;
    }

pub linking_free : (first : ℕ) (old : List (List ℕ)) (n : ℕ) (now : List (List ℕ)) → AreApart old → ((cell : ℕ) → first ≤ cell → IsInSome old cell → ⊥) → Linking first old n now → IsInSome now (first + n) → ⊥
linking_free first old n now apart free l p =
    ⊎_elim
    (λ (z : p.0 ≡ 0). ⊎_elim
    (λ (w : is_member (first + n) (list_at old 0) ≡ true). free (first + n) (omega arith) (0, omega arith, contains_member (first + n) (list_at old 0) w))
    (λ (w : is_member (first + n) (numbers_from first n) ≡ true). let b = from_within first n (first + n) w in absurd (omega (arith, b.1)))
    (append_cases (first + n) (list_at old 0) (numbers_from first n)
    (subst (λ x. is_member (first + n) x ≡ true) (ap (list_at now) z ∙ (ap (λ x. list_at x 0) l.linked ∙ get_or-set_same old 0 (list_at old 0 ++ numbers_from first n) [] (omega (arith, apart.four)))) (member_at (first + n) (list_at now p.0) p.2))))
    (λ (ne : p.0 ≡ 0 → ⊥). free (first + n) (omega arith) (
      p.0,
      p.1,
      contains_member (first + n) (list_at old p.0)
          (subst (λ x. is_member (first + n) x ≡ true) (ap (λ x. list_at x p.0) l.linked ∙ get_or-set_other old 0 p.0 (list_at old 0 ++ numbers_from first n) [] ne) (member_at (first + n) (list_at now p.0) p.2)),
    ))
    (cases_eq p.0 0)

pub linking_more : (first : ℕ) (old : List (List ℕ)) (n : ℕ) (now now' : List (List ℕ)) → AreApart old → Linking first old n now → now' ≡ set now 0 (list_at now 0 ++ (first + n) ∷ []) → AreApart now' → Linking first old (n + 1) now'
linking_more first old n now now' four l e apart =
    let one : suc n ≡ n + 1 = omega arith in
    let here : list_at now 0 ≡ list_at old 0 ++ numbers_from first n = ap (λ x. list_at x 0) l.linked ∙ get_or-set_same old 0 (list_at old 0 ++ numbers_from first n) [] (omega (arith, four.four)) in
    record {
      linked = e
          ∙ (ap (λ x. set now 0 (x ++ (first + n) ∷ [])) here
          ∙ (ap (λ x. set x 0 ((list_at old 0 ++ numbers_from first n) ++ (first + n) ∷ [])) l.linked
          ∙ (set-set old 0 (list_at old 0 ++ numbers_from first n) ((list_at old 0 ++ numbers_from first n) ++ (first + n) ∷ [])
          ∙ ap (set old 0) (append_assoc (list_at old 0) (numbers_from first n) ((first + n) ∷ []) ∙ (ap (λ x. list_at old 0 ++ x) (from_push first n) ∙ ap (λ m. list_at old 0 ++ numbers_from first m) one)))));
      apart = apart;
    }

-- so many payloads went to the user

pub record Handing (side : Side) (first : ℕ) (payloads : List (Option (List ℕ))) (hold : HoldState) (n : ℕ) (left : List (Option (List ℕ))) (user : HoldState) : Type 0 where
  pub gone : AreHandedOver side first n payloads hold user
  pub rest : (i : ℕ) → n ≤ i → payload_at left i ≡ payload_at payloads i

pub handing_none : (side : Side) (first : ℕ) (payloads : List (Option (List ℕ))) (hold : HoldState) → Handing side first payloads hold 0 payloads hold
handing_none side first payloads hold =
    record {
      gone = record { given = λ i h. absurd (omega (arith, h)); kept = λ i h. refl; beyond = λ i h. refl; other = refl };
      rest = λ i h. refl;
    }

pub handing_more : (side : Side) (first : ℕ) (payloads : List (Option (List ℕ))) (hold : HoldState) (n : ℕ) (rest : List (Option (List ℕ))) (user : HoldState) (rest' : List (Option (List ℕ))) (user' : HoldState) (payload : List ℕ)
    → Handing side first payloads hold n rest user → Some payload ≡ payload_at rest n → rest' ≡ set rest n None → user' ≡ with_payload user side (first + n) (Some payload)
    → held_payload user' side (first + n) ≡ Some payload → Handing side first payloads hold (n + 1) rest' user'
handing_more side first payloads hold n rest user rest' user' payload g value er eu there =
    let elsewhere : (j : ℕ) → j ≢ first + n → held_payload user' side j ≡ held_payload user side j =
    λ j ne. ap (λ x. held_payload x side j) eu ∙ (ap (λ l. payload_at l j) (side_changed user side (first + n) (Some payload)) ∙ get_or-set_other (side_of user side) (first + n) j (Some payload) None ne) in
    record {
      gone = record {
        given = λ i h. ⊎_elim
            (λ (z : i ≡ n). subst (λ x. held_payload user' side (first + x) ≡ payload_at payloads x) (sym z) (there ∙ (value ∙ g.rest n (omega arith))))
            (λ (ne : i ≡ n → ⊥). elsewhere (first + i) (λ (z : first + i ≡ first + n). ne (omega (arith, z))) ∙ g.gone.given i (omega (arith, h, ne)))
            (cases_eq i n);
        kept = λ i h. elsewhere i (λ (z : i ≡ first + n). absurd (omega (arith, z, h))) ∙ g.gone.kept i h;
        beyond = λ i h. elsewhere i (λ (z : i ≡ first + n). absurd (omega (arith, z, h))) ∙ g.gone.beyond i (omega (arith, h));
        other = ap (λ x. side_of x (other_side side)) eu ∙ (other_stays user side (first + n) (Some payload) ∙ g.gone.other);
      };
      rest = λ i h. ap (λ l. payload_at l i) er ∙ (get_or-set_other rest n i None None (λ (z : i ≡ n). absurd (omega (arith, z, h))) ∙ g.rest i (omega (arith, h)));
    }

pub handing_there : (side : Side) (first number : ℕ) (payloads : List (Option (List ℕ))) (hold : HoldState) (n : ℕ) (left : List (Option (List ℕ))) (user : HoldState)
    → Handing side first payloads hold n left user → ((i : ℕ) → i < number → is_some (payload_at payloads i) ≡ true) → n < number → None ≡ payload_at left n → ⊥
handing_there side first number payloads hold n left user g there h e =
    false≢true (ap is_some (e ∙ g.rest n (omega arith)) ∙ there n h)

-- a new payload is there
pub has_size : (number size : ℕ) (payloads : List (Option (List ℕ))) → HasNew 0 number size payloads → (i : ℕ) → i < number → option_map length (payload_at payloads i) ≡ Some size
has_size number size payloads has i h =
    ap (option_map length) (has i (omega arith) h) ∙ ap (λ n. Some n) (length-replicate size 0)

pub new_there : (number size : ℕ) (payloads : List (Option (List ℕ))) → HasNew 0 number size payloads → (i : ℕ) → i < number → is_some (payload_at payloads i) ≡ true
new_there number size payloads has i h = ap is_some (has i (omega arith) h)

-- no cell from the first free one on is linked
pub all_free : (old : List (List ℕ)) (cells : List Cell) (payloads : List (Option (List ℕ))) (first : ℕ) → IsSound old cells payloads first → (cell : ℕ) → first ≤ cell → IsInSome old cell → ⊥
all_free old cells payloads first s cell h p =
    both_ways (is_member cell (list_at old p.0)) (member_past old cells payloads first cell s h p.0) (member_at cell (list_at old p.0) p.2)

new_held : (more : List Cell) (size first number : ℕ) → ((j : ℕ) → first ≤ j → j < first + number → cell_at more j ≡ new_cell size) → map (held_at more) (numbers_from first number) ≡ new_buffers size first number
new_held more size first zero h = refl
new_held more size first (suc number) h =
    ap (λ c. held_buffer first c.size ∷ map (held_at more) (numbers_from (first + 1) number)) (h first (omega arith) (omega arith))
    ∙ ap (λ l. held_buffer first size ∷ l) (new_held more size (first + 1) number (λ j l k. h j (omega (arith, l)) (omega (arith, k))))

-- so many buffers more
module _ (old new : List (List ℕ)) (cells more : List Cell) (payloads places : List (Option (List ℕ))) (first number size : ℕ) (s : IsSound old cells payloads first)
    (few : first + number ≤ 32) (grown : AreMore first number size cells more) (room : length places ≡ first + number)
    (same : (i : ℕ) → payload_at places i ≡ payload_at payloads i) (en : new ≡ set old 0 (list_at old 0 ++ numbers_from first number)) where
  grown0 : list_at new 0 ≡ list_at old 0 ++ numbers_from first number
  grown0 = ap (λ l. list_at l 0) en ∙ get_or-set_same old 0 (list_at old 0 ++ numbers_from first number) [] (omega (arith, s.apart.four))

  grownk : (k : ℕ) → k ≢ 0 → list_at new k ≡ list_at old k
  grownk k n = ap (λ l. list_at l k) en ∙ get_or-set_other old 0 k (list_at old 0 ++ numbers_from first number) [] n

  -- the cells of the old buffers are where they were
  kept_place : (k j : ℕ) → is_member j (list_at old k) ≡ true → (j < first + number) × (list_of (cell_at more j).place ≡ k)
  kept_place k j m = let p = s.placed k j m in (omega (arith, p.0), ap (λ c. list_of c.place) (grown.kept j p.0) ∙ p.1)

  new_place : (j : ℕ) → first ≤ j → j < first + number → list_of (cell_at more j).place ≡ 0
  new_place j l h = ap (λ c. list_of c.place) (grown.fresh j l h)

  grown_placed : (k j : ℕ) → is_member j (list_at new k) ≡ true → (j < first + number) × (list_of (cell_at more j).place ≡ k)
  grown_placed k j m =
      ⊎_elim
      (λ (z : k ≡ 0). subst (λ l. (j < first + number) × (list_of (cell_at more j).place ≡ l)) (sym z)
      (⊎_elim (λ (w : is_member j (list_at old 0) ≡ true). kept_place 0 j w)
      (λ (w : is_member j (numbers_from first number) ≡ true). let b = from_within first number j w in (b.1, new_place j b.0 b.1))
      (append_cases j (list_at old 0) (numbers_from first number) (subst (λ l. is_member j l ≡ true) (ap (list_at new) z ∙ grown0) m))))
      (λ (n : k ≡ 0 → ⊥). kept_place k j (subst (λ l. is_member j l ≡ true) (grownk k n) m))
      (cases_eq k 0)

  grown_member : (k j : ℕ) → is_member j (list_at old k) ≡ true → is_member j (list_at new k) ≡ true
  grown_member k j m =
      ⊎_elim
      (λ (z : k ≡ 0). subst (λ l. is_member j (list_at new l) ≡ true) (sym z) (subst (λ l. is_member j l ≡ true) (sym grown0) (append_left j (list_at old 0) (numbers_from first number) (subst (λ l. is_member j (list_at old l) ≡ true) z m))))
      (λ (n : k ≡ 0 → ⊥). subst (λ l. is_member j l ≡ true) (sym (grownk k n)) m)
      (cases_eq k 0)

  new_member : (j : ℕ) → first ≤ j → j < first + number → is_member j (list_at new 0) ≡ true
  new_member j l h = ap (is_member j) grown0 ∙ append_right j (list_at old 0) (numbers_from first number) (within_from first number j l h)

  grown_found : (j : ℕ) → j < first + number → is_member j (list_at new (list_of (cell_at more j).place)) ≡ true
  grown_found j h =
      ⊎_elim
      (λ (z : j < first). subst (λ c. is_member j (list_at new (list_of c.place)) ≡ true) (sym (grown.kept j z)) (grown_member (list_of (cell_at cells j).place) j (s.found j z)))
      (λ (z : first ≤ j). subst (λ k. is_member j (list_at new k) ≡ true) (sym (new_place j z h)) (new_member j z h))
      (cases_lt j first)

  grown_stored : (j : ℕ) → j < first + number → IsStored (cell_at more j).place (cell_at more j) (payload_at places j)
  grown_stored j h =
      subst (λ p. IsStored (cell_at more j).place (cell_at more j) p) (sym (same j))
      (⊎_elim
      (λ (z : j < first). subst (λ c. IsStored c.place c (payload_at payloads j)) (sym (grown.kept j z)) (s.stored j z))
      (λ (z : first ≤ j). subst (λ c. IsStored c.place c (payload_at payloads j)) (sym (grown.fresh j z h)) (s.beyond j z))
      (cases_lt j first))

  pub grown_sound : AreApart new → IsSound new more places (first + number)
  grown_sound apart =
      record {
        apart = apart;
        few = few;
        cell_room = omega (arith, grown.room);
        payload_room = omega (arith, room);
        placed = grown_placed;
        found = grown_found;
        total = let s1 = sum_by-set length old 0 (list_at old 0 ++ numbers_from first number) [] (omega (arith, s.apart.four)) in
            omega (arith, s1, s.total, ap (sum_by length) en, length-append (list_at old 0) (numbers_from first number), length_from first number);
        stored = grown_stored;
        beyond = λ j h. same j ∙ s.beyond j (omega (arith, h));
        one_job = rw (ap length (grownk 2 (λ (z : 2 ≡ 0). omega arith))) s.one_job;
      }

  same_list : (side : Side) (k : ℕ) → k ≢ 0 → map (buffer_at side more places) (list_at new k) ≡ map (buffer_at side cells payloads) (list_at old k)
  same_list side k n =
      ap (map (buffer_at side more places)) (grownk k n)
      ∙ map_same (buffer_at side more places) (buffer_at side cells payloads) (list_at old k) (λ j m. ap (λ c. buffer_of side j c (payload_at places j)) (grown.kept j (s.placed k j m).0) ∙ ap (buffer_of side j (cell_at cells j)) (same j))

  more_held : map (held_at more) (list_at new 0) ≡ map (held_at cells) (list_at old 0) ++ new_buffers size first number
  more_held =
      ap (map (held_at more)) grown0
      ∙ (map-append (held_at more) (list_at old 0) (numbers_from first number)
      ∙ (ap (λ l. l ++ map (held_at more) (numbers_from first number)) (map_same (held_at more) (held_at cells) (list_at old 0) (λ j m. ap (λ c. held_buffer j c.size) (grown.kept j (s.placed 0 j m).0)))
      ∙ ap (λ l. map (held_at cells) (list_at old 0) ++ l) (new_held more size first number grown.fresh)))

  pub grown_state : (side : Side) (streams : Bool) (next_seq next_ordinal : ℕ) → state_of side streams next_seq next_ordinal new more places ≡ added (state_of side streams next_seq next_ordinal old cells payloads) size number
  grown_state side streams next_seq next_ordinal =
      same_queue side streams _ _ _ _ _ _ _ _ next_seq next_ordinal
      (more_held ∙ ap (λ n. map (held_at cells) (list_at old 0) ++ new_buffers size n number) (sym (number_is side streams next_seq next_ordinal old cells payloads first s)))
      (same_list side 1 (λ (z : 1 ≡ 0). omega arith))
      (same_list side 2 (λ (z : 2 ≡ 0). omega arith))
      (same_list side 3 (λ (z : 3 ≡ 0). omega arith))

  same_member : (j : ℕ) → (is_member j (numbers_from first number) ≡ true → ⊥) → is_member j (list_at new 0) ≡ is_member j (list_at old 0)
  same_member j out =
      same_bool (is_member j (list_at new 0)) (is_member j (list_at old 0))
      (λ m. ⊎_elim (λ (w : is_member j (list_at old 0) ≡ true). w) (λ (w : is_member j (numbers_from first number) ≡ true). absurd (out w)) (append_cases j (list_at old 0) (numbers_from first number) (subst (λ l. is_member j l ≡ true) grown0 m)))
      (grown_member 0 j)

  fits_old : (places : List (Option (List ℕ))) (j : ℕ) → j < first → option_map length (payload_at places j) ≡ cond (is_member j (list_at old 0)) (Some (cell_at cells j).size) None
      → option_map length (payload_at places j) ≡ cond (is_member j (list_at new 0)) (Some (cell_at more j).size) None
  fits_old places j h f =
      f
      ∙ (ap (λ b. cond b (Some (cell_at cells j).size) None) (sym (same_member j (λ (w : is_member j (numbers_from first number) ≡ true). let b = from_within first number j w in absurd (omega (arith, h, b.0)))))
      ∙ ap (λ c. cond (is_member j (list_at new 0)) (Some c.size) None) (sym (grown.kept j h)))

  fits_past : (places : List (Option (List ℕ))) (j : ℕ) → first + number ≤ j
      → option_map length (payload_at places j) ≡ cond (is_member j (list_at old 0)) (Some (cell_at cells j).size) None
      → option_map length (payload_at places j) ≡ cond (is_member j (list_at new 0)) (Some (cell_at more j).size) None
  fits_past places j h f =
      let was = member_past old cells payloads first j s (omega (arith, h)) 0 in
      let now = same_member j (λ (w : is_member j (numbers_from first number) ≡ true). let b = from_within first number j w in absurd (omega (arith, h, b.1))) in
      f ∙ (ap (λ b. cond b (Some (cell_at cells j).size) None) was ∙ sym (ap (λ b. cond b (Some (cell_at more j).size) None) (now ∙ was)))

  fits_new : (side : Side) (after : HoldState) (given : List (Option (List ℕ))) (j : ℕ) → first ≤ j → j < first + number → HasNew 0 number size given
      → ((i : ℕ) → i < number → held_payload after side (first + i) ≡ payload_at given i)
      → option_map length (held_payload after side j) ≡ cond (is_member j (list_at new 0)) (Some (cell_at more j).size) None
  fits_new side after given j l h has there =
      let e : first + (j - first) ≡ j = omega (arith, l) in
      let below : j - first < number = omega (arith, l, h) in
      ap (λ x. option_map length (held_payload after side x)) (sym e)
      ∙ (ap (option_map length) (there (j - first) below)
      ∙ (has_size number size given has (j - first) below
      ∙ (ap (λ c. Some c.size) (sym (grown.fresh j l h)) ∙ ap (λ b. cond b (Some (cell_at more j).size) None) (sym (new_member j l h)))))

  pub grown_fits : (side : Side) (hold after : HoldState) (given : List (Option (List ℕ))) → FitsCells cells (list_at old 0) (side_of hold side) → HasNew 0 number size given → AreHandedOver side first number given hold after → FitsCells more (list_at new 0) (side_of after side)
  grown_fits side hold after given f has g j h =
      ⊎_elim
      (λ (z : j < first). fits_old (side_of after side) j z (ap (option_map length) (g.kept j z) ∙ f j h))
      (λ (z : first ≤ j). ⊎_elim (λ (w : j < first + number). fits_new side after given j z w has g.given) (λ (w : first + number ≤ j). fits_past (side_of after side) j w (ap (option_map length) (g.beyond j w) ∙ f j h)) (cases_lt j (first + number)))
      (cases_lt j first)

-- new payloads
pub new_more : (size n : ℕ) (payloads payloads' : List (Option (List ℕ))) (payload : List ℕ) → HasNew 0 n size payloads → payloads' ≡ set payloads n (Some payload) → payload_at payloads' n ≡ Some payload → payload ≡ replicate size 0 → HasNew 0 (n + 1) size payloads'
new_more size n payloads payloads' payload has ep there zeros i h g =
    ⊎_elim
    (λ (z : i ≡ n). subst (λ x. payload_at payloads' x ≡ Some (replicate size 0)) (sym z) (there ∙ ap (λ l. Some l) zeros))
    (λ (ne : i ≡ n → ⊥). ap (λ l. payload_at l i) ep ∙ (get_or-set_other payloads n i (Some payload) None ne ∙ has i h (omega (arith, g, ne))))
    (cases_eq i n)

-- the new payloads that went to the user are zeros
pub made_zero : (q : QueueState) (side : Side) (count size number : ℕ) (payloads : List (Option (List ℕ))) (hold user : HoldState) → q.side ≡ side
    → number ≡ min count most_buffers → HasNew 0 number size payloads → AreHandedOver side 0 number payloads hold user → AreZero q.side 0 (min count most_buffers) size user
made_zero q side count size number payloads hold user es en has g i h =
    let below : i < number = subst (λ n. i < n) (sym en) h in
    ap (λ s. held_payload user s (0 + i)) es ∙ (g.given i below ∙ has i (omega arith) below)

pub added_zero : (q : QueueState) (side : Side) (count size first number : ℕ) (payloads : List (Option (List ℕ))) (hold user : HoldState) → q.side ≡ side
    → first ≡ buffer_count q → number ≡ min count (32 - first) → HasNew 0 number size payloads → AreHandedOver side first number payloads hold user
    → AreZero q.side (buffer_count q) (created q count) size user
added_zero q side count size first number payloads hold user es ef en has g i h =
    let more : number ≡ created q count = en ∙ ap (λ n. min count (32 - n)) ef in
    let below : i < number = subst (λ n. i < n) (sym more) h in
    ap (λ s. held_payload user s (buffer_count q + i)) es
    ∙ (ap (λ n. held_payload user side (n + i)) (sym ef) ∙ (g.given i below ∙ has i (omega arith) below))

-- no buffer more
pub added_none : (q : QueueState) (size : ℕ) → q ≡ added q size 0
added_none q size = sym (ap (λ held. record q { held = held }) (append-nil q.held))

-- all buffers dropped
pub cleared_cells : (side : Side) (hold after : HoldState) (lists : List (List ℕ)) (cells : List Cell) → after ≡ without_side hold side → lists ≡ replicate 4 [] → FitsCells cells (list_at lists 0) (side_of after side)
cleared_cells side hold after lists cells ea el j below =
    ap (λ x. option_map length (held_payload x side j)) ea
    ∙ (gone side ∙ sym (ap (λ l. cond (is_member j (list_at l 0)) (Some (cell_at cells j).size) None) el))
  where
    gone : (side : Side) → option_map length (held_payload (without_side hold side) side j) ≡ None
    gone Out = ap (option_map length) (none_stored 32 j)
    gone Cap = ap (option_map length) (none_stored 32 j)

pub cleared_other : (hold : HoldState) (side : Side) → side_of (without_side hold side) (other_side side) ≡ side_of hold (other_side side)
cleared_other hold Out = refl
cleared_other hold Cap = refl

-- what ReqBufs answers where memory is found
pub reqbufs_answer : (q now : QueueState) (count size number : ℕ) (r : Bool) → r ≡ q.streams → r ≡ false → number ≡ min count most_buffers → now ≡ added (cleared q) size number
    → AnswersWithMemory (reqbufs_refusal q) (min count most_buffers) (reqbufs_after q count size) (Ok number) q now
reqbufs_answer q now count size number r er idle en state =
    let none : reqbufs_refusal q ≡ None = ap (λ b. refuse_if b Busy None) (sym er ∙ idle) in
    record {
      found = true;
      answer = ap (λ n. Ok n) en ∙ sym (ap (λ f. answer_of f (min count most_buffers)) none);
      state = state ∙ (ap (λ m. added (cleared q) size m) en ∙ sym (ap (λ f. after_of f q (reqbufs_after q count size)) none));
    }

grow_refusal : (a b c : Bool) → refuse_if (a || b) Inval (refuse_if c Inval None) ≡ cond ((a || b) || c) (Some Inval) None
grow_refusal true b c = refl
grow_refusal false true c = refl
grow_refusal false false true = refl
grow_refusal false false false = refl

pub create_refused : (q : QueueState) (count size n : ℕ) (r : Bool) → n ≡ buffer_count q → r ≡ cannot_grow n count size → create_refusal q count size ≡ cond r (Some Inval) None
create_refused q count size n r en er =
    grow_refusal (ltb size 1) (ltb longest_buffer size) (ltb 0 count && (buffer_count q == most_buffers))
    ∙ ap (λ b. cond b (Some Inval) None) (sym (er ∙ ap (λ m. cannot_grow m count size) en))

-- what CreateBufs answers where memory is found
pub create_answer : (q now : QueueState) (count size first number : ℕ) (r : Bool) → first ≡ buffer_count q → r ≡ cannot_grow first count size → r ≡ false
    → number ≡ min count (32 - first) → now ≡ added q size number
    → AnswersWithMemory {A = ℕ × ℕ} (create_refusal q count size) (buffer_count q, created q count) (create_after q count size) (Ok (first, number)) q now
create_answer q now count size first number r ef er grows en state =
    let none : create_refusal q count size ≡ None = create_refused q count size first r ef er ∙ ap (λ b. cond b (Some Inval) None) grows in
    let more : number ≡ created q count = en ∙ ap (λ n. min count (32 - n)) ef in
    record {
      found = true;
      answer = ap (λ n. Ok (n, number)) ef ∙ (ap (λ m. Ok (buffer_count q, m)) more ∙ sym (ap (λ f. answer_of f (buffer_count q, created q count)) none));
      state = state ∙ (ap (λ m. added q size m) more ∙ sym (ap (λ f. after_of f q (create_after q count size)) none));
    }
