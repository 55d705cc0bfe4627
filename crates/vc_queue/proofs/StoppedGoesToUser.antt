-- The buffers of ready and done go back to the user when the queue stops. Their two lists go behind the held one, and each cell
-- that is ready or done becomes a held one, whose payload the user gets; the buffer in the job stays.
use Rattle.std.proofs.Common.{ℕ, ◌+◌, ◌≡◌, ◌≢◌, ◌<◌, ◌≤◌, eqb, ltb, Bool, true, false, ◌||◌, ◌&&◌, Option, Some, None, cond, List, [], ◌∷◌, ◌++◌, map, length, set, take, refl, sym, ap, ◌∙◌, subst, inl, inr, ◌⊎◌, ⊎_elim}
use Rattle.std.proofs.Common.{arith, get_or-set_same, get_or-set_other, length-set, length-append, lit<}
use Rattle.std.specs.List.{sum_by}
use Rattle.std.specs.Option.{option_map}
use Rattle.std.proofs.lemmas.Bool.{false≢true, cases_eq, cases_lt, and_parts, and_from, or_cases, or_left, or_right, lt-ltb, le-ltb, ltb-true, false_from_ne_true}
use Rattle.std.proofs.lemmas.List.{map-append}
use Rattle.std.proofs.lemmas.List.Folds.{list_any-append}
use Rattle.std.proofs.lemmas.List.Sums.{sum_by-set}
use Rattle.vc_base.specs.declared.Side.{Side}
use Rattle.vc_base.specs.declared.Side.TheVariants.{Out, Cap}
use Rattle.vc_base.specs.Buffers.{Buffer, QueueState, with_index, held_again, known_bytes, streamoff_after}
use Rattle.vc_links.specs.Lists.{list_at, AreApart}
use Rattle.vc_queue.specs.declared.cells.Place.{Place}
use Rattle.vc_queue.specs.declared.cells.Place.TheVariants.{Held, Ready, Job, Done}
use Rattle.vc_queue.specs.declared.cells.Cell.{Cell}
use Rattle.vc_queue.specs.Payloads.{payload_at}
use Rattle.vc_queue.specs.Holds.{HoldState, side_of, held_payload, with_payload}
use Rattle.vc_queue.specs.Releasing.{other_side, AllGoToUser, goes_back, released, is_released, IsReleased}
use Rattle.vc_queue.specs.Cells.{blank_cell, list_of, cell_at, held_at, bytes_or_none, buffer_of, buffer_at, state_of, is_member, HasPayload, IsStored, IsSound}
use Rattle.vc_queue.proofs.OneCellMoves.{map_same, same_queue}
use Rattle.vc_queue.proofs.HoldsFitCells.{with_at, same_bool, FitsCells, side_changed}
use Rattle.vc_queue.proofs.ToldByCells.{member_of, member_past}

-- one cell more

pub other_stays : (hold : HoldState) (side : Side) (i : ℕ) (p : Option (List ℕ)) → side_of (with_payload hold side i p) (other_side side) ≡ side_of hold (other_side side)
other_stays hold Out i p = refl
other_stays hold Cap i p = refl

not_self : (n : ℕ) → ltb n n ≡ false
not_self n = le-ltb n n (omega arith)

one_more : (i n : ℕ) → i ≢ n → ltb i (n + 1) ≡ ltb i n
one_more i n ne =
    same_bool (ltb i (n + 1)) (ltb i n) (λ t. lt-ltb i n (omega (arith, ltb-true i (n + 1) t, ne))) (λ t. lt-ltb i (n + 1) (omega (arith, ltb-true i n t)))

module _ (side : Side) (slot : ℕ) (cells : List Cell) (payloads : List (Option (List ℕ))) (hold : HoldState) (nc : List Cell) (np : List (Option (List ℕ))) (nh : HoldState) (r : IsReleased side slot cells payloads hold nc np nh) where
  same_cell : cell_at nc slot ≡ cell_at cells slot
  same_cell = r.cell slot ∙ ap (λ b. released (b && goes_back (cell_at cells slot).place) (cell_at cells slot)) (not_self slot)

  same_payload : payload_at np slot ≡ payload_at payloads slot
  same_payload =
      r.payload slot ∙ ap (λ b. cond (b && goes_back (cell_at cells slot).place) None (payload_at payloads slot)) (not_self slot)

  other_cell : (i : ℕ) → i ≢ slot → is_released cells slot i ≡ is_released cells (slot + 1) i
  other_cell i n = ap (λ b. b && goes_back (cell_at cells i).place) (sym (one_more i slot n))

  pub released_step : (items : List ℕ) (nc' : List Cell) (np' : List (Option (List ℕ))) (nh' : HoldState) → slot < length nc → goes_back (cell_at nc slot).place ≡ true
      → Some items ≡ payload_at np slot → np' ≡ set np slot None → payload_at np' slot ≡ None → nh' ≡ with_payload nh side slot (Some items)
      → held_payload nh' side slot ≡ Some items → nc' ≡ set nc slot (record (cell_at nc slot) { place = Held }) → IsReleased side (slot + 1) cells payloads hold nc' np' nh'
  released_step items nc' np' nh' inside goes value ep gone eh there ec =
      let now : is_released cells (slot + 1) slot ≡ true = and_from (ltb slot (slot + 1)) (goes_back (cell_at cells slot).place) (lt-ltb slot (slot + 1) (omega arith)) (ap (λ c. goes_back c.place) (sym same_cell) ∙ goes) in
      record {
        cell_room = ap length ec ∙ (length-set nc slot (record (cell_at nc slot) { place = Held }) ∙ r.cell_room);
        payload_room = ap length ep ∙ (length-set np slot None ∙ r.payload_room);
        cell = λ i. ⊎_elim
            (λ (z : i ≡ slot). subst (λ x. cell_at nc' x ≡ released (is_released cells (slot + 1) x) (cell_at cells x)) (sym z)
            (ap (λ l. cell_at l slot) ec ∙ (get_or-set_same nc slot (record (cell_at nc slot) { place = Held }) blank_cell inside ∙ (ap (released true) same_cell ∙ ap (λ b. released b (cell_at cells slot)) (sym now)))))
            (λ (n : i ≡ slot → ⊥). ap (λ l. cell_at l i) ec ∙ (get_or-set_other nc slot i (record (cell_at nc slot) { place = Held }) blank_cell n ∙ (r.cell i ∙ ap (λ b. released b (cell_at cells i)) (other_cell i n))))
            (cases_eq i slot);
        payload = λ i. ⊎_elim
            (λ (z : i ≡ slot). subst (λ x. payload_at np' x ≡ cond (is_released cells (slot + 1) x) None (payload_at payloads x)) (sym z)
            (gone ∙ ap (λ b. cond b None (payload_at payloads slot)) (sym now)))
            (λ (n : i ≡ slot → ⊥). ap (λ l. payload_at l i) ep ∙ (get_or-set_other np slot i None None n ∙ (r.payload i ∙ ap (λ b. cond b None (payload_at payloads i)) (other_cell i n))))
            (cases_eq i slot);
        user = λ i. ⊎_elim
            (λ (z : i ≡ slot). subst (λ x. held_payload nh' side x ≡ cond (is_released cells (slot + 1) x) (payload_at payloads x) (held_payload hold side x)) (sym z)
            (there ∙ (value ∙ (same_payload ∙ ap (λ b. cond b (payload_at payloads slot) (held_payload hold side slot)) (sym now)))))
            (λ (n : i ≡ slot → ⊥). ap (λ h. held_payload h side i) eh
            ∙ (ap (λ l. payload_at l i) (side_changed nh side slot (Some items)) ∙ (get_or-set_other (side_of nh side) slot i (Some items) None n ∙ (r.user i ∙ ap (λ b. cond b (payload_at payloads i) (held_payload hold side i)) (other_cell i n)))))
            (cases_eq i slot);
        other = ap (λ h. side_of h (other_side side)) eh ∙ (other_stays nh side slot (Some items) ∙ r.other);
      }

-- two lists go behind the first

module _ (old new : List (List ℕ)) (from to : ℕ) (four : length old ≡ 4) (hf : from < 4) (ht : to < 4) (ne : from ≢ to) (e : new ≡ set (set old to (list_at old to ++ list_at old from)) from []) where
  drained_four : length new ≡ 4
  drained_four = ap length e ∙ (length-set (set old to (list_at old to ++ list_at old from)) from [] ∙ (length-set old to (list_at old to ++ list_at old from) ∙ four))

  drained_to : list_at new to ≡ list_at old to ++ list_at old from
  drained_to =
      ap (λ l. list_at l to) e
      ∙ (get_or-set_other (set old to (list_at old to ++ list_at old from)) from to [] [] (λ (z : to ≡ from). ne (sym z))
      ∙ get_or-set_same old to (list_at old to ++ list_at old from) [] (omega (arith, four)))

  drained_from : list_at new from ≡ []
  drained_from =
      ap (λ l. list_at l from) e
      ∙ get_or-set_same (set old to (list_at old to ++ list_at old from)) from [] [] (omega (arith, four, length-set old to (list_at old to ++ list_at old from)))

  drained_other : (k : ℕ) → k ≢ from → k ≢ to → list_at new k ≡ list_at old k
  drained_other k nf nt =
      ap (λ l. list_at l k) e
      ∙ (get_or-set_other (set old to (list_at old to ++ list_at old from)) from k [] [] nf
      ∙ get_or-set_other old to k (list_at old to ++ list_at old from) [] nt)

  drained_sum : sum_by length new ≡ sum_by length old
  drained_sum =
      let s1 = sum_by-set length old to (list_at old to ++ list_at old from) [] (omega (arith, four)) in
      let s2 = sum_by-set length (set old to (list_at old to ++ list_at old from)) from [] [] (omega (arith, four, length-set old to (list_at old to ++ list_at old from))) in
      let same : list_at (set old to (list_at old to ++ list_at old from)) from ≡ list_at old from = get_or-set_other old to from (list_at old to ++ list_at old from) [] ne in
      omega (arith, s1, s2, ap length same, ap (sum_by length) e, length-append (list_at old to) (list_at old from))

place_after : (c : Cell) (p : Place) → c.place ≡ p → list_of (released (goes_back c.place) c).place ≡ cond (goes_back p) 0 (list_of p)
place_after c Held e = ap (λ x. list_of (released (goes_back x) c).place) e ∙ ap list_of e
place_after c Ready e = ap (λ x. list_of (released (goes_back x) c).place) e
place_after c Job e = ap (λ x. list_of (released (goes_back x) c).place) e ∙ ap list_of e
place_after c Done e = ap (λ x. list_of (released (goes_back x) c).place) e

after_stored : (c : Cell) (payload : Option (List ℕ)) (p : Place) → c.place ≡ p → IsStored c.place c payload → IsStored (released (goes_back c.place) c).place (released (goes_back c.place) c) (cond (goes_back c.place) None payload)
after_stored c payload Held e st = subst (λ x. IsStored (released (goes_back x) c).place (released (goes_back x) c) (cond (goes_back x) None payload)) (sym e) st
after_stored c payload Ready e st = subst (λ x. IsStored (released (goes_back x) c).place (released (goes_back x) c) (cond (goes_back x) None payload)) (sym e) refl
after_stored c payload Job e st = subst (λ x. IsStored (released (goes_back x) c).place (released (goes_back x) c) (cond (goes_back x) None payload)) (sym e) st
after_stored c payload Done e st = subst (λ x. IsStored (released (goes_back x) c).place (released (goes_back x) c) (cond (goes_back x) None payload)) (sym e) refl

size_after : (b : Bool) (c : Cell) → (released b c).size ≡ c.size
size_after true c = refl
size_after false c = refl

goes_one : (p : Place) → list_of p ≡ 1 → goes_back p ≡ true
goes_one Held e = absurd (omega arith)
goes_one Ready e = refl
goes_one Job e = absurd (omega arith)
goes_one Done e = refl

goes_three : (p : Place) → list_of p ≡ 3 → goes_back p ≡ true
goes_three Held e = absurd (omega arith)
goes_three Ready e = refl
goes_three Job e = absurd (omega arith)
goes_three Done e = refl

goes_where : (p : Place) → goes_back p ≡ true → (list_of p ≡ 1) ⊎ (list_of p ≡ 3)
goes_where Held e = absurd (false≢true e)
goes_where Ready e = inl refl
goes_where Job e = absurd (false≢true e)
goes_where Done e = inr refl

stays_where : (p : Place) (k : ℕ) → list_of p ≡ k → k ≢ 1 → k ≢ 3 → goes_back p ≡ false
stays_where Held k e n m = refl
stays_where Ready k e n m = absurd (n (sym e))
stays_where Job k e n m = refl
stays_where Done k e n m = absurd (m (sym e))

stored_when : (p : Place) (c : Cell) (payload : Option (List ℕ)) → goes_back p ≡ true → IsStored p c payload → HasPayload c payload
stored_when Held c payload e st = absurd (false≢true e)
stored_when Ready c payload e st = st.1
stored_when Job c payload e st = absurd (false≢true e)
stored_when Done c payload e st = st

-- what the user has afterwards fits
fits_after : (p : Place) (c : Cell) (payload user : Option (List ℕ)) → IsStored p c payload → option_map length user ≡ cond (eqb (list_of p) 0) (Some c.size) None
    → option_map length (cond (goes_back p) payload user) ≡ cond (eqb (list_of p) 0 || (eqb (list_of p) 1 || eqb (list_of p) 3)) (Some c.size) None
fits_after Held c payload user st e = e
fits_after Ready c payload user st e = ap (option_map length) st.1.1 ∙ ap (λ n. Some n) st.1.2
fits_after Job c payload user st e = e
fits_after Done c payload user st e = ap (option_map length) st.1 ∙ ap (λ n. Some n) st.2

back_map : (side : Side) (cells : List Cell) (payloads : List (Option (List ℕ))) (xs : List ℕ) → map held_again (map (buffer_at side cells payloads) xs) ≡ map (held_at cells) xs
back_map side cells payloads [] = refl
back_map side cells payloads (x ∷ xs) = ap (λ l. held_at cells x ∷ l) (back_map side cells payloads xs)

some_true : (b : Bool) (x y : Buffer) → cond b (Some x) None ≡ Some y → (b ≡ true) × (x ≡ y)
some_true true x y e = (refl, cc)
some_true false x y e = absurd cc

none_false : (b : Bool) (x : Buffer) → cond b (Some x) None ≡ None → b ≡ false
none_false true x e = absurd cc
none_false false x e = refl

module _ (old m1 new : List (List ℕ)) (cells new_cells : List Cell) (payloads new_payloads : List (Option (List ℕ))) (hold new_hold : HoldState) (count : ℕ)
    (side : Side) (s : IsSound old cells payloads count) (r : IsReleased side count cells payloads hold new_cells new_payloads new_hold)
    (e1 : m1 ≡ set (set old 0 (list_at old 0 ++ list_at old 1)) 1 []) (e2 : new ≡ set (set m1 0 (list_at m1 0 ++ list_at m1 3)) 3 []) where
  m1_four : length m1 ≡ 4
  m1_four = drained_four old m1 1 0 s.apart.four (lit< tt) (lit< tt) (λ (z : 1 ≡ 0). omega arith) e1

  new0 : list_at new 0 ≡ (list_at old 0 ++ list_at old 1) ++ list_at old 3
  new0 =
      drained_to m1 new 3 0 m1_four (lit< tt) (lit< tt) (λ (z : 3 ≡ 0). omega arith) e2
      ∙ (ap (λ l. l ++ list_at m1 3) (drained_to old m1 1 0 s.apart.four (lit< tt) (lit< tt) (λ (z : 1 ≡ 0). omega arith) e1)
      ∙ ap (λ l. (list_at old 0 ++ list_at old 1) ++ l) (drained_other old m1 1 0 s.apart.four (lit< tt) (lit< tt) (λ (z : 1 ≡ 0). omega arith) e1 3 (λ (z : 3 ≡ 1). omega arith) (λ (z : 3 ≡ 0). omega arith)))

  new1 : list_at new 1 ≡ []
  new1 =
      drained_other m1 new 3 0 m1_four (lit< tt) (lit< tt) (λ (z : 3 ≡ 0). omega arith) e2 1 (λ (z : 1 ≡ 3). omega arith) (λ (z : 1 ≡ 0). omega arith)
      ∙ drained_from old m1 1 0 s.apart.four (lit< tt) (lit< tt) (λ (z : 1 ≡ 0). omega arith) e1

  new3 : list_at new 3 ≡ []
  new3 = drained_from m1 new 3 0 m1_four (lit< tt) (lit< tt) (λ (z : 3 ≡ 0). omega arith) e2

  newk : (k : ℕ) → k ≢ 0 → k ≢ 1 → k ≢ 3 → list_at new k ≡ list_at old k
  newk k n0 n1 n3 =
      drained_other m1 new 3 0 m1_four (lit< tt) (lit< tt) (λ (z : 3 ≡ 0). omega arith) e2 k n3 n0
      ∙ drained_other old m1 1 0 s.apart.four (lit< tt) (lit< tt) (λ (z : 1 ≡ 0). omega arith) e1 k n1 n0

  member0 : (i : ℕ) → is_member i (list_at new 0) ≡ (is_member i (list_at old 0) || (is_member i (list_at old 1) || is_member i (list_at old 3)))
  member0 i =
      ap (is_member i) new0
      ∙ (list_any-append (λ j. eqb j i) (list_at old 0 ++ list_at old 1) (list_at old 3)
      ∙ (ap (λ b. b || is_member i (list_at old 3)) (list_any-append (λ j. eqb j i) (list_at old 0) (list_at old 1))
      ∙ or_assoc (is_member i (list_at old 0)) (is_member i (list_at old 1)) (is_member i (list_at old 3))))
    where
      or_assoc : (a b c : Bool) → ((a || b) || c) ≡ (a || (b || c))
      or_assoc true b c = refl
      or_assoc false b c = refl

  cell_now : (i : ℕ) → i < count → cell_at new_cells i ≡ released (goes_back (cell_at cells i).place) (cell_at cells i)
  cell_now i h = r.cell i ∙ ap (λ b. released (b && goes_back (cell_at cells i).place) (cell_at cells i)) (lt-ltb i count h)

  payload_now : (i : ℕ) → i < count → payload_at new_payloads i ≡ cond (goes_back (cell_at cells i).place) None (payload_at payloads i)
  payload_now i h = r.payload i ∙ ap (λ b. cond (b && goes_back (cell_at cells i).place) None (payload_at payloads i)) (lt-ltb i count h)

  place_now : (i : ℕ) → i < count → list_of (cell_at new_cells i).place ≡ cond (goes_back (cell_at cells i).place) 0 (list_of (cell_at cells i).place)
  place_now i h = ap (λ c. list_of c.place) (cell_now i h) ∙ place_after (cell_at cells i) (cell_at cells i).place refl

  -- a buffer that went back came from ready or done
  from_one : (i : ℕ) → is_member i (list_at old 1) ≡ true → (i < count) × (goes_back (cell_at cells i).place ≡ true)
  from_one i m = let p = s.placed 1 i m in (p.0, goes_one (cell_at cells i).place p.1)

  from_three : (i : ℕ) → is_member i (list_at old 3) ≡ true → (i < count) × (goes_back (cell_at cells i).place ≡ true)
  from_three i m = let p = s.placed 3 i m in (p.0, goes_three (cell_at cells i).place p.1)

  held_placed : (i : ℕ) → is_member i (list_at new 0) ≡ true → (i < count) × (list_of (cell_at new_cells i).place ≡ 0)
  held_placed i m =
      ⊎_elim
      (λ (z : is_member i (list_at old 0) ≡ true). let p = s.placed 0 i z in (p.0, place_now i p.0 ∙ (ap (λ b. cond b 0 (list_of (cell_at cells i).place)) (stays_where (cell_at cells i).place 0 p.1 (λ (z : 0 ≡ 1). omega arith) (λ (z : 0 ≡ 3). omega arith)) ∙ p.1)))
      (λ (z : (is_member i (list_at old 1) || is_member i (list_at old 3)) ≡ true). let p = ⊎_elim (λ (w : is_member i (list_at old 1) ≡ true). from_one i w)
      (λ (w : is_member i (list_at old 3) ≡ true). from_three i w) (or_cases (is_member i (list_at old 1)) (is_member i (list_at old 3)) z) in
      (p.0, place_now i p.0 ∙ ap (λ b. cond b 0 (list_of (cell_at cells i).place)) p.1))
      (or_cases (is_member i (list_at old 0)) (is_member i (list_at old 1) || is_member i (list_at old 3)) (sym (member0 i) ∙ m))

  other_placed : (k i : ℕ) → k ≢ 0 → is_member i (list_at new k) ≡ true → (i < count) × (list_of (cell_at new_cells i).place ≡ k)
  other_placed k i n m =
      ⊎_elim
      (λ (z : k ≡ 1). absurd (false≢true (subst (λ l. is_member i l ≡ true) (ap (list_at new) z ∙ new1) m)))
      (λ (n1 : k ≡ 1 → ⊥). ⊎_elim
      (λ (z : k ≡ 3). absurd (false≢true (subst (λ l. is_member i l ≡ true) (ap (list_at new) z ∙ new3) m)))
      (λ (n3 : k ≡ 3 → ⊥). let p = s.placed k i (subst (λ l. is_member i l ≡ true) (newk k n n1 n3) m) in (p.0, place_now i p.0 ∙ (ap (λ b. cond b 0 (list_of (cell_at cells i).place)) (stays_where (cell_at cells i).place k p.1 n1 n3) ∙ p.1)))
      (cases_eq k 3))
      (cases_eq k 1)

  now_placed : (k i : ℕ) → is_member i (list_at new k) ≡ true → (i < count) × (list_of (cell_at new_cells i).place ≡ k)
  now_placed k i m =
      ⊎_elim
      (λ (z : k ≡ 0). subst (λ l. (i < count) × (list_of (cell_at new_cells i).place ≡ l)) (sym z) (held_placed i (subst (λ l. is_member i (list_at new l) ≡ true) z m)))
      (λ (n : k ≡ 0 → ⊥). other_placed k i n m)
      (cases_eq k 0)

  find_by : (i : ℕ) (p : Place) → is_member i (list_at old (list_of p)) ≡ true → is_member i (list_at new (cond (goes_back p) 0 (list_of p))) ≡ true
  find_by i Held m = member0 i ∙ or_left (is_member i (list_at old 0)) (is_member i (list_at old 1) || is_member i (list_at old 3)) m
  find_by i Ready m = member0 i ∙ or_right (is_member i (list_at old 0)) (is_member i (list_at old 1) || is_member i (list_at old 3)) (or_left (is_member i (list_at old 1)) (is_member i (list_at old 3)) m)
  find_by i Job m = subst (λ l. is_member i l ≡ true) (sym (newk 2 (λ (z : 2 ≡ 0). omega arith) (λ (z : 2 ≡ 1). omega arith) (λ (z : 2 ≡ 3). omega arith))) m
  find_by i Done m = member0 i ∙ or_right (is_member i (list_at old 0)) (is_member i (list_at old 1) || is_member i (list_at old 3)) (or_right (is_member i (list_at old 1)) (is_member i (list_at old 3)) m)

  now_stored : (i : ℕ) → i < count → IsStored (cell_at new_cells i).place (cell_at new_cells i) (payload_at new_payloads i)
  now_stored i h =
      subst (λ c. IsStored c.place c (payload_at new_payloads i)) (sym (cell_now i h))
      (subst (λ p. IsStored (released (goes_back (cell_at cells i).place) (cell_at cells i)).place (released (goes_back (cell_at cells i).place) (cell_at cells i)) p) (sym (payload_now i h))
      (after_stored (cell_at cells i) (payload_at payloads i) (cell_at cells i).place refl (s.stored i h)))

  pub stop_sound : AreApart new → IsSound new new_cells new_payloads count
  stop_sound apart =
      record {
        apart = apart;
        few = s.few;
        cell_room = omega (arith, r.cell_room, s.cell_room);
        payload_room = omega (arith, r.payload_room, s.payload_room);
        placed = now_placed;
        found = λ i h. subst (λ k. is_member i (list_at new k) ≡ true) (sym (place_now i h)) (find_by i (cell_at cells i).place (s.found i h));
        total = drained_sum m1 new 3 0 m1_four (lit< tt) (lit< tt) (λ (z : 3 ≡ 0). omega arith) e2 ∙ (drained_sum old m1 1 0 s.apart.four (lit< tt) (lit< tt) (λ (z : 1 ≡ 0). omega arith) e1 ∙ s.total);
        stored = now_stored;
        beyond = λ i h. r.payload i ∙ (ap (λ b. cond (b && goes_back (cell_at cells i).place) None (payload_at payloads i)) (le-ltb i count h) ∙ s.beyond i h);
        one_job = rw (ap length (newk 2 (λ (z : 2 ≡ 0). omega arith) (λ (z : 2 ≡ 1). omega arith) (λ (z : 2 ≡ 3). omega arith))) s.one_job;
      }

  same_size : (i : ℕ) → (cell_at new_cells i).size ≡ (cell_at cells i).size
  same_size i = ap (λ c. c.size) (r.cell i) ∙ size_after (is_released cells count i) (cell_at cells i)

  held_now : (xs : List ℕ) → map (held_at new_cells) xs ≡ map (held_at cells) xs
  held_now xs = map_same (held_at new_cells) (held_at cells) xs (λ j m. ap (λ n. Rattle.vc_base.specs.Buffers.held_buffer j n) (same_size j))

  in_job : (j : ℕ) → is_member j (list_at old 2) ≡ true → is_released cells count j ≡ false
  in_job j m =
      let p = s.placed 2 j m in
      ap (λ b. ltb j count && b) (stays_where (cell_at cells j).place 2 p.1 (λ (z : 2 ≡ 1). omega arith) (λ (z : 2 ≡ 3). omega arith)) ∙ and_false (ltb j count)
    where
      and_false : (b : Bool) → (b && false) ≡ false
      and_false true = refl
      and_false false = refl

  pub stop_state : (streams : Bool) (next_seq next_ordinal : ℕ) → state_of side false 0 next_ordinal new new_cells new_payloads ≡ streamoff_after (state_of side streams next_seq next_ordinal old cells payloads)
  stop_state streams next_seq next_ordinal =
      let f = buffer_at side cells payloads in
      let f' = buffer_at side new_cells new_payloads in
      let h = held_at cells in
      same_queue side false _ _ _ _ _ _ _ _ 0 next_ordinal
      (ap (map (held_at new_cells)) new0 ∙ (held_now ((list_at old 0 ++ list_at old 1) ++ list_at old 3)
      ∙ (map-append h (list_at old 0 ++ list_at old 1) (list_at old 3)
      ∙ (ap (λ l. l ++ map h (list_at old 3)) (map-append h (list_at old 0) (list_at old 1))
      ∙ (ap (λ l. (map h (list_at old 0) ++ l) ++ map h (list_at old 3)) (sym (back_map side cells payloads (list_at old 1)))
      ∙ ap (λ l. (map h (list_at old 0) ++ map held_again (map f (list_at old 1))) ++ l) (sym (back_map side cells payloads (list_at old 3))))))))
      (ap (map f') new1)
      (ap (map f') (newk 2 (λ (z : 2 ≡ 0). omega arith) (λ (z : 2 ≡ 1). omega arith) (λ (z : 2 ≡ 3). omega arith))
      ∙ map_same f' f (list_at old 2) (λ j m. ap (λ c. buffer_of side j c (payload_at new_payloads j)) (r.cell j ∙ ap (λ b. released b (cell_at cells j)) (in_job j m)) ∙ ap (λ p. buffer_of side j (cell_at cells j) p) (r.payload j
      ∙ ap (λ b. cond b None (payload_at payloads j)) (in_job j m))))
      (ap (map f') new3)

  -- what goes to the user
  going : (i : ℕ) → is_released cells count i ≡ is_member i (list_at old 1 ++ list_at old 3)
  going i =
      same_bool (is_released cells count i) (is_member i (list_at old 1 ++ list_at old 3))
      (λ t. let p = and_parts (ltb i count) (goes_back (cell_at cells i).place) t in
      let found = s.found i (ltb-true i count p.0) in
      list_any-append (λ j. eqb j i) (list_at old 1) (list_at old 3)
      ∙ ⊎_elim
      (λ (z : list_of (cell_at cells i).place ≡ 1). or_left (is_member i (list_at old 1)) (is_member i (list_at old 3)) (subst (λ k. is_member i (list_at old k) ≡ true) z found))
      (λ (z : list_of (cell_at cells i).place ≡ 3). or_right (is_member i (list_at old 1)) (is_member i (list_at old 3)) (subst (λ k. is_member i (list_at old k) ≡ true) z found))
      (goes_where (cell_at cells i).place p.1))
      (λ t. let p = ⊎_elim (λ (w : is_member i (list_at old 1) ≡ true). from_one i w) (λ (w : is_member i (list_at old 3) ≡ true). from_three i w) (or_cases (is_member i (list_at old 1)) (is_member i (list_at old 3)) (sym
      (list_any-append (λ j. eqb j i) (list_at old 1) (list_at old 3)) ∙ t)) in
      and_from (ltb i count) (goes_back (cell_at cells i).place) (lt-ltb i count p.0) p.1)

  with_going : (i : ℕ) → with_index i (map (buffer_at side cells payloads) (list_at old 1) ++ map (buffer_at side cells payloads) (list_at old 3)) ≡ cond (is_released cells count i) (Some (buffer_at side cells payloads i)) None
  with_going i =
      ap (with_index i) (sym (map-append (buffer_at side cells payloads) (list_at old 1) (list_at old 3)))
      ∙ (with_at (buffer_at side cells payloads) (λ j. refl) i (list_at old 1 ++ list_at old 3)
      ∙ ap (λ b. cond b (Some (buffer_at side cells payloads i)) None) (sym (going i)))

  given_at : (i : ℕ) → is_released cells count i ≡ true → (payload : List ℕ) × (held_payload new_hold side i ≡ Some payload) × (length payload ≡ (cell_at cells i).size) × (known_bytes side (cell_at cells i).flags (take
      (cell_at cells i).used payload) ≡ (buffer_at side cells payloads i).bytes)
  given_at i t =
      let p = and_parts (ltb i count) (goes_back (cell_at cells i).place) t in
      let st = stored_when (cell_at cells i).place (cell_at cells i) (payload_at payloads i) p.1 (s.stored i (ltb-true i count p.0)) in
      (st.0, r.user i ∙ (ap (λ b. cond b (payload_at payloads i) (held_payload hold side i)) t ∙ st.1), st.2, ap (λ x. known_bytes side (cell_at cells i).flags (take (cell_at cells i).used (bytes_or_none x))) (sym st.1))

  pub stop_payloads : AllGoToUser side (map (buffer_at side cells payloads) (list_at old 1) ++ map (buffer_at side cells payloads) (list_at old 3)) hold new_hold
  stop_payloads =
      record {
        given = λ i b e. let t = some_true (is_released cells count i) (buffer_at side cells payloads i) b (sym (with_going i) ∙ e) in
            subst (λ x. (payload : List ℕ) × (held_payload new_hold side i ≡ Some payload) × (length payload ≡ x.size) × (known_bytes side x.flags (take x.used payload) ≡ x.bytes)) t.1 (given_at i t.0);
        kept = λ i e. r.user i ∙ ap (λ b. cond b (payload_at payloads i) (held_payload hold side i)) (none_false (is_released cells count i) (buffer_at side cells payloads i) (sym (with_going i) ∙ e));
        other = r.other;
      }

  fits_here : (i : ℕ) → i < count → option_map length (held_payload hold side i) ≡ cond (is_member i (list_at old 0)) (Some (cell_at cells i).size) None → option_map length (held_payload new_hold side i) ≡ cond (is_member i (list_at new 0)) (Some (cell_at new_cells i).size) None
  fits_here i h f =
      ap (option_map length) (r.user i ∙ ap (λ b. cond (b && goes_back (cell_at cells i).place) (payload_at payloads i) (held_payload hold side i)) (lt-ltb i count h))
      ∙ (fits_after (cell_at cells i).place (cell_at cells i) (payload_at payloads i) (held_payload hold side i) (s.stored i h) (f ∙ ap (λ b. cond b (Some (cell_at cells i).size) None) (member_of old cells payloads count i s h 0))
      ∙ (ap (λ b. cond b (Some (cell_at cells i).size) None) (or_three _ _ _ _ _ _ (sym (member_of old cells payloads count i s h 0)) (sym (member_of old cells payloads count i s h 1)) (sym (member_of old cells payloads count i s h 3)) ∙ sym (member0 i))
      ∙ ap (λ n. cond (is_member i (list_at new 0)) (Some n) None) (sym (same_size i))))
    where
      or_three : (a b c a' b' c' : Bool) → a ≡ a' → b ≡ b' → c ≡ c' → (a || (b || c)) ≡ (a' || (b' || c'))
      or_three a b c a' b' c' p q t = cc

  fits_past : (i : ℕ) → count ≤ i → option_map length (held_payload hold side i) ≡ cond (is_member i (list_at old 0)) (Some (cell_at cells i).size) None → option_map length (held_payload new_hold side i) ≡ cond (is_member i (list_at new 0)) (Some (cell_at new_cells i).size) None
  fits_past i h f =
      let out : is_member i (list_at new 0) ≡ false = false_from_ne_true (is_member i (list_at new 0)) (λ (m : is_member i (list_at new 0) ≡ true). absurd (omega (arith, h, (held_placed i m).0))) in
      ap (option_map length) (r.user i ∙ ap (λ b. cond (b && goes_back (cell_at cells i).place) (payload_at payloads i) (held_payload hold side i)) (le-ltb i count h))
      ∙ (f ∙ (ap (λ b. cond b (Some (cell_at cells i).size) None) (member_past old cells payloads count i s h 0)
      ∙ sym (ap (λ b. cond b (Some (cell_at new_cells i).size) None) out)))

  pub stop_fits : FitsCells cells (list_at old 0) (side_of hold side) → FitsCells new_cells (list_at new 0) (side_of new_hold side)
  stop_fits f i h =
      ⊎_elim (λ (z : i < count). fits_here i z (f i h)) (λ (z : count ≤ i). fits_past i z (f i h)) (cases_lt i count)
