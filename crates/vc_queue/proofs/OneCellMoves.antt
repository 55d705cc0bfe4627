-- One cell moves from one list of a queue to another. It leaves the one and comes into the other, and all else stays in its
-- list, in order. So each buffer is still in exactly the list that its cell tells, and what callers see of the other buffers
-- is as it was.
use Rattle.std.proofs.Common.{ℕ, suc, ◌≡◌, ◌≢◌, ◌<◌, ◌≤◌, eqb, Bool, true, false, ◌||◌, Option, List, [], ◌∷◌, ◌++◌, map, length, get_or, set, refl, sym, ap, ◌∙◌, subst, inl, inr, ◌⊎◌, ⊎_elim, arith, get_or-set_same}
use Rattle.std.proofs.Common.{get_or-set_other, length-set, length-append}
use Rattle.std.specs.List.{sum_by}
use Rattle.std.proofs.lemmas.Bool.{eqb-true, eq-eqb, false≢true, or_cases, cases_eq}
use Rattle.std.proofs.lemmas.List.Folds.{list_any-append}
use Rattle.std.proofs.lemmas.List.Sums.{sum_by-set}
use Rattle.vc_base.specs.declared.Side.{Side}
use Rattle.vc_base.specs.Buffers.{Buffer, QueueState, held_buffer}
use Rattle.vc_links.specs.Lists.{list_at, AreApart}
use Rattle.vc_queue.specs.declared.cells.Cell.{Cell}
use Rattle.vc_queue.specs.Payloads.{payload_at}
use Rattle.vc_queue.specs.Cells.{list_of, blank_cell, cell_at, held_at, buffer_of, buffer_at, is_member, IsStored, IsSound}

or_right : (a b : Bool) → b ≡ true → (a || b) ≡ true
or_right true b e = refl
or_right false b e = e

or_left : (a b : Bool) → a ≡ true → (a || b) ≡ true
or_left true b e = refl
or_left false b e = absurd (false≢true e)

pub member_place : (i : ℕ) (xs : List ℕ) → is_member i xs ≡ true → (j : ℕ) × (j < length xs) × (get_or xs j 0 ≡ i)
member_place i [] e = absurd (false≢true e)
member_place i (x ∷ xs) e =
    ⊎_elim (λ (h : eqb x i ≡ true). (0, omega arith, eqb-true x i h)) (λ (h : is_member i xs ≡ true). let r = member_place i xs h in (suc r.0, omega (arith, r.1), r.2)) (or_cases (eqb x i) (is_member i xs) e)

pub member_here : (i : ℕ) (xs : List ℕ) → is_member i (i ∷ xs) ≡ true
member_here i xs = or_left (eqb i i) (is_member i xs) (eq-eqb i i refl)

pub member_there : (i x : ℕ) (xs : List ℕ) → is_member i xs ≡ true → is_member i (x ∷ xs) ≡ true
member_there i x xs e = or_right (eqb x i) (is_member i xs) e

pub cons_cases : (j i : ℕ) (xs : List ℕ) → is_member j (i ∷ xs) ≡ true → (j ≡ i) ⊎ (is_member j xs ≡ true)
cons_cases j i xs e =
    ⊎_elim (λ (h : eqb i j ≡ true). inl (sym (eqb-true i j h))) (λ (h : is_member j xs ≡ true). inr h) (or_cases (eqb i j) (is_member j xs) e)

pub push_cases : (j i : ℕ) (xs : List ℕ) → is_member j (xs ++ i ∷ []) ≡ true → (j ≡ i) ⊎ (is_member j xs ≡ true)
push_cases j i [] e = cons_cases j i [] e
push_cases j i (x ∷ xs) e =
    ⊎_elim (λ (h : j ≡ x). inr (subst (λ y. is_member y (x ∷ xs) ≡ true) (sym h) (member_here x xs))) (λ (h : is_member j (xs ++ i ∷ []) ≡ true). ⊎_elim (λ (g : j ≡ i). inl g) (λ (g : is_member j xs ≡ true). inr
    (member_there j x xs g)) (push_cases j i xs h)) (cons_cases j x (xs ++ i ∷ []) e)

pub push_old : (j i : ℕ) (xs : List ℕ) → is_member j xs ≡ true → is_member j (xs ++ i ∷ []) ≡ true
push_old j i xs e =
    list_any-append (λ y. eqb y j) xs (i ∷ []) ∙ or_left (is_member j xs) (is_member j (i ∷ [])) e

pub push_new : (i : ℕ) (xs : List ℕ) → is_member i (xs ++ i ∷ []) ≡ true
push_new i xs =
    list_any-append (λ y. eqb y i) xs (i ∷ []) ∙ or_right (is_member i xs) (is_member i (i ∷ [])) (member_here i [])

-- cell i goes from list a to list b
pub record Move (old new : List (List ℕ)) (i a b : ℕ) : Type 0 where
  pub left : (j : ℕ) → is_member j (list_at new a) ≡ true → (j ≢ i) × (is_member j (list_at old a) ≡ true)
  pub stays : (j : ℕ) → j ≢ i → is_member j (list_at old a) ≡ true → is_member j (list_at new a) ≡ true
  pub came : (j : ℕ) → is_member j (list_at new b) ≡ true → (j ≡ i) ⊎ (is_member j (list_at old b) ≡ true)
  pub comes : (j : ℕ) → (j ≡ i) ⊎ (is_member j (list_at old b) ≡ true) → is_member j (list_at new b) ≡ true
  pub others : (k : ℕ) → k ≢ a → k ≢ b → list_at new k ≡ list_at old k
  pub lengths : sum_by length new ≡ sum_by length old

-- the front of a list does not stand again behind
front_alone : (lists : List (List ℕ)) (a i : ℕ) (r : List ℕ) → AreApart lists → list_at lists a ≡ i ∷ r → is_member i r ≡ true → ⊥
front_alone lists a i r apart e m =
    let p = member_place i r m in
    let l0 : 0 < length (list_at lists a) = rw e (omega arith) in
    let l1 : suc p.0 < length (list_at lists a) = rw e (omega (arith, p.1)) in
    let same : get_or (list_at lists a) 0 0 ≡ get_or (list_at lists a) (suc p.0) 0 = rw e (sym p.2) in
    absurd (omega (arith, (apart.once a a 0 (suc p.0) l0 l1 same).1))

-- what is left of list a, and what list b becomes
pub record Parts (old : List (List ℕ)) (i a b : ℕ) (left_cells new_cells : List ℕ) : Type 0 where
  pub left : (j : ℕ) → is_member j left_cells ≡ true → (j ≢ i) × (is_member j (list_at old a) ≡ true)
  pub stays : (j : ℕ) → j ≢ i → is_member j (list_at old a) ≡ true → is_member j left_cells ≡ true
  pub came : (j : ℕ) → is_member j new_cells ≡ true → (j ≡ i) ⊎ (is_member j (list_at old b) ≡ true)
  pub comes : (j : ℕ) → (j ≡ i) ⊎ (is_member j (list_at old b) ≡ true) → is_member j new_cells ≡ true
  pub less : length (list_at old a) ≡ suc (length left_cells)
  pub more : length new_cells ≡ suc (length (list_at old b))

module _ (old mid new : List (List ℕ)) (a b i : ℕ) (xs ys : List ℕ) (four : length old ≡ 4) (ha : a < 4) (hb : b < 4) (ne : a ≢ b) (em : mid ≡ set old a xs) (en : new ≡ set mid b ys) where
  mid_four : length mid ≡ 4
  mid_four = ap length em ∙ (length-set old a xs ∙ four)

  pub mid_b : list_at mid b ≡ list_at old b
  mid_b = ap (λ l. list_at l b) em ∙ get_or-set_other old a b xs [] (λ (z : b ≡ a). ne (sym z))

  pub at_a : list_at new a ≡ xs
  at_a =
      ap (λ l. list_at l a) en ∙ (get_or-set_other mid b a ys [] ne ∙ (ap (λ l. list_at l a) em ∙ get_or-set_same old a xs [] (omega (arith, four))))

  pub at_b : list_at new b ≡ ys
  at_b = ap (λ l. list_at l b) en ∙ get_or-set_same mid b ys [] (omega (arith, mid_four))

  pub at_other : (k : ℕ) → k ≢ a → k ≢ b → list_at new k ≡ list_at old k
  at_other k na nb =
      ap (λ l. list_at l k) en ∙ (get_or-set_other mid b k ys [] nb ∙ (ap (λ l. list_at l k) em ∙ get_or-set_other old a k xs [] na))

  pub moves : Parts old i a b xs ys → Move old new i a b
  moves p =
      record {
        left = λ j m. p.left j (subst (λ l. is_member j l ≡ true) at_a m);
        stays = λ j n m. rw at_a (p.stays j n m);
        came = λ j m. p.came j (subst (λ l. is_member j l ≡ true) at_b m);
        comes = λ j w. rw at_b (p.comes j w);
        others = at_other;
        lengths = let s1 = sum_by-set length old a xs [] (omega (arith, four)) in
            let s2 = sum_by-set length mid b ys [] (omega (arith, mid_four)) in
            omega (arith, s1, s2, p.less, p.more, ap length mid_b, ap (sum_by length) em, ap (sum_by length) en);
      }

-- the front of list a goes to the end of list b
pub front_to_end : (lists : List (List ℕ)) (a b i : ℕ) (r : List ℕ) → AreApart lists → list_at lists a ≡ i ∷ r → Parts lists i a b r (list_at lists b ++ i ∷ [])
front_to_end lists a b i r apart e =
    record {
      left = λ j m. ((λ (z : j ≡ i). front_alone lists a i r apart e (subst (λ y. is_member y r ≡ true) z m)), rw e (member_there j i r m));
      stays = λ j n m. ⊎_elim (λ (z : j ≡ i). absurd (n z)) (λ (z : is_member j r ≡ true). z) (cons_cases j i r (subst (λ l. is_member j l ≡ true) e m));
      came = λ j m. push_cases j i (list_at lists b) m;
      comes = λ j w. ⊎_elim (λ (z : j ≡ i). subst (λ y. is_member y (list_at lists b ++ i ∷ []) ≡ true) (sym z) (push_new i (list_at lists b))) (λ (z : is_member j (list_at lists b) ≡ true). push_old j i (list_at lists b) z) w;
      less = ap length e;
      more = omega (arith, length-append (list_at lists b) (i ∷ []));
    }

-- the front of list a goes to the front of list b
pub front_to_front : (lists : List (List ℕ)) (a b i : ℕ) (r : List ℕ) → AreApart lists → list_at lists a ≡ i ∷ r → Parts lists i a b r (i ∷ list_at lists b)
front_to_front lists a b i r apart e =
    record {
      left = λ j m. ((λ (z : j ≡ i). front_alone lists a i r apart e (subst (λ y. is_member y r ≡ true) z m)), rw e (member_there j i r m));
      stays = λ j n m. ⊎_elim (λ (z : j ≡ i). absurd (n z)) (λ (z : is_member j r ≡ true). z) (cons_cases j i r (subst (λ l. is_member j l ≡ true) e m));
      came = λ j m. cons_cases j i (list_at lists b) m;
      comes = λ j w. ⊎_elim (λ (z : j ≡ i). subst (λ y. is_member y (i ∷ list_at lists b) ≡ true) (sym z) (member_here i (list_at lists b))) (λ (z : is_member j (list_at lists b) ≡ true). member_there j i (list_at lists b) z) w;
      less = ap length e;
      more = refl;
    }

-- a list of buffers whose cells did not change
pub map_same : (f g : ℕ → Buffer) (xs : List ℕ) → ((j : ℕ) → is_member j xs ≡ true → f j ≡ g j) → map f xs ≡ map g xs
map_same f g [] h = refl
map_same f g (x ∷ xs) h =
    ap (λ b. b ∷ map f xs) (h x (member_here x xs)) ∙ ap (λ bs. g x ∷ bs) (map_same f g xs (λ j m. h j (member_there j x xs m)))

-- cell i gets the content c as it goes from list a to list b
pub record Moving (old new : List (List ℕ)) (cells : List Cell) (before now : List (Option (List ℕ))) (count i a b : ℕ) (c : Cell) : Type 0 where
  pub sound : IsSound old cells before count
  pub move : Move old new i a b
  pub here : is_member i (list_at old a) ≡ true
  pub differ : a ≢ b
  pub place : list_of c.place ≡ b
  pub rest : (j : ℕ) → j ≢ i → payload_at now j ≡ payload_at before j

module _ {old new : List (List ℕ)} {cells : List Cell} {before now : List (Option (List ℕ))} {count i a b : ℕ} {c : Cell} (g : Moving old new cells before now count i a b c) where
  pub cell_other : (j : ℕ) → j ≢ i → cell_at (set cells i c) j ≡ cell_at cells j
  cell_other j n = get_or-set_other cells i j c blank_cell n

  pub cell_same : cell_at (set cells i c) i ≡ c
  cell_same = get_or-set_same cells i c blank_cell (omega (arith, g.sound.cell_room, (g.sound.placed a i g.here).0))

  was_there : (i < count) × (list_of (cell_at cells i).place ≡ a)
  was_there = g.sound.placed a i g.here

  pub goes : (k j : ℕ) → j ≢ i → is_member j (list_at new k) ≡ true → is_member j (list_at old k) ≡ true
  goes k j n e =
      ⊎_elim (λ (z : k ≡ b). subst (λ l. is_member j (list_at old l) ≡ true) (sym z)
      (⊎_elim (λ (w : j ≡ i). absurd (n w)) (λ (w : is_member j (list_at old b) ≡ true). w) (g.move.came j (subst (λ l. is_member j (list_at new l) ≡ true) z e)))) (λ
      (nb : k ≡ b → ⊥). ⊎_elim (λ (z : k ≡ a). subst (λ l. is_member j (list_at old l) ≡ true) (sym z) (g.move.left j (subst (λ l. is_member j (list_at new l) ≡ true) z e)).1)
      (λ (na : k ≡ a → ⊥). subst (λ l. is_member j l ≡ true) (g.move.others k na nb) e) (cases_eq k a)) (cases_eq k b)

  pub comes_back : (k j : ℕ) → j ≢ i → is_member j (list_at old k) ≡ true → is_member j (list_at new k) ≡ true
  comes_back k j n e =
      ⊎_elim (λ (z : k ≡ b). subst (λ l. is_member j (list_at new l) ≡ true) (sym z) (g.move.comes j (inr (subst (λ l. is_member j (list_at old l) ≡ true) z e)))) (λ
      (nb : k ≡ b → ⊥). ⊎_elim
      (λ (z : k ≡ a). subst (λ l. is_member j (list_at new l) ≡ true) (sym z) (g.move.stays j n (subst (λ l. is_member j (list_at old l) ≡ true) z e)))
      (λ (na : k ≡ a → ⊥). subst (λ l. is_member j l ≡ true) (sym (g.move.others k na nb)) e) (cases_eq k a)) (cases_eq k b)

  only_b : (k : ℕ) → is_member i (list_at new k) ≡ true → b ≡ k
  only_b k e =
      ⊎_elim (λ (z : k ≡ b). sym z) (λ (nb : k ≡ b → ⊥). ⊎_elim (λ (z : k ≡ a). absurd ((g.move.left i (subst (λ l. is_member i (list_at new l) ≡ true) z e)).0 refl))
      (λ (na : k ≡ a → ⊥). absurd (na (sym (g.sound.placed k i (subst (λ l. is_member i l ≡ true) (g.move.others k na nb) e)).1 ∙ was_there.1))) (cases_eq k a)) (cases_eq k b)

  new_placed : (k j : ℕ) → is_member j (list_at new k) ≡ true → (j < count) × (list_of (cell_at (set cells i c) j).place ≡ k)
  new_placed k j e =
      ⊎_elim
      (λ (z : j ≡ i). subst (λ x. (x < count) × (list_of (cell_at (set cells i c) x).place ≡ k)) (sym z) (was_there.0, ap (λ x. list_of x.place) cell_same ∙ (g.place ∙ only_b k (subst (λ x. is_member x (list_at new k) ≡ true) z e))))
      (λ (n : j ≡ i → ⊥). let p = g.sound.placed k j (goes k j n e) in (p.0, ap (λ x. list_of x.place) (cell_other j n) ∙ p.1)) (cases_eq j i)

  new_found : (j : ℕ) → j < count → is_member j (list_at new (list_of (cell_at (set cells i c) j).place)) ≡ true
  new_found j h =
      ⊎_elim
      (λ (z : j ≡ i). subst (λ x. is_member x (list_at new (list_of (cell_at (set cells i c) x).place)) ≡ true) (sym z) (subst (λ l. is_member i (list_at new l) ≡ true) (sym (ap (λ x. list_of x.place) cell_same ∙ g.place)) (g.move.comes i (inl refl))))
      (λ (n : j ≡ i → ⊥). subst (λ x. is_member j (list_at new (list_of x.place)) ≡ true) (sym (cell_other j n)) (comes_back (list_of (cell_at cells j).place) j n (g.sound.found j h)))
      (cases_eq j i)

  new_stored : IsStored c.place c (payload_at now i) → (j : ℕ) → j < count → IsStored (cell_at (set cells i c) j).place (cell_at (set cells i c) j) (payload_at now j)
  new_stored st j h =
      ⊎_elim
      (λ (z : j ≡ i). subst (λ x. IsStored (cell_at (set cells i c) x).place (cell_at (set cells i c) x) (payload_at now x)) (sym z) (subst (λ x. IsStored x.place x (payload_at now i)) (sym cell_same) st))
      (λ (n : j ≡ i → ⊥). subst (λ x. IsStored x.place x (payload_at now j)) (sym (cell_other j n)) (subst (λ p. IsStored (cell_at cells j).place (cell_at cells j) p) (sym (g.rest j n)) (g.sound.stored j h)))
      (cases_eq j i)

  pub moved : AreApart new → count ≤ length now → IsStored c.place c (payload_at now i) → length (list_at new 2) ≤ 1 → IsSound new (set cells i c) now count
  moved apart room st one =
      record {
        apart = apart;
        few = g.sound.few;
        cell_room = omega (arith, length-set cells i c, g.sound.cell_room);
        payload_room = room;
        placed = new_placed;
        found = new_found;
        total = g.move.lengths ∙ g.sound.total;
        stored = new_stored st;
        beyond = λ j h. g.rest j (λ (z : j ≡ i). absurd (omega (arith, z, h, was_there.0))) ∙ g.sound.beyond j h;
        one_job = one;
      }

  -- the lists that the cell is not in
  not_here : (k j : ℕ) → k ≢ a → is_member j (list_at old k) ≡ true → j ≢ i
  not_here k j n m z = n (sym (g.sound.placed k j m).1 ∙ (ap (λ x. list_of (cell_at cells x).place) z ∙ was_there.1))

  held_same : (j : ℕ) → j ≢ i → held_at (set cells i c) j ≡ held_at cells j
  held_same j n = ap (λ x. held_buffer j x.size) (cell_other j n)

  buffer_same : (side : Side) (j : ℕ) → j ≢ i → buffer_at side (set cells i c) now j ≡ buffer_at side cells before j
  buffer_same side j n =
      ap (λ x. buffer_of side j x (payload_at now j)) (cell_other j n) ∙ ap (λ p. buffer_of side j (cell_at cells j) p) (g.rest j n)

  pub other_held : (k : ℕ) → k ≢ a → k ≢ b → map (held_at (set cells i c)) (list_at new k) ≡ map (held_at cells) (list_at old k)
  other_held k na nb =
      ap (map (held_at (set cells i c))) (g.move.others k na nb) ∙ map_same (held_at (set cells i c)) (held_at cells) (list_at old k) (λ j m. held_same j (not_here k j na m))

  pub other_list : (side : Side) (k : ℕ) → k ≢ a → k ≢ b → map (buffer_at side (set cells i c) now) (list_at new k) ≡ map (buffer_at side cells before) (list_at old k)
  other_list side k na nb =
      ap (map (buffer_at side (set cells i c) now)) (g.move.others k na nb) ∙ map_same (buffer_at side (set cells i c) now) (buffer_at side cells before) (list_at old k) (λ j m. buffer_same side j (not_here k j na m))

  pub left_list : (side : Side) → map (buffer_at side (set cells i c) now) (list_at new a) ≡ map (buffer_at side cells before) (list_at new a)
  left_list side =
      map_same (buffer_at side (set cells i c) now) (buffer_at side cells before) (list_at new a) (λ j m. buffer_same side j (g.move.left j m).0)

  pub left_held : map (held_at (set cells i c)) (list_at new a) ≡ map (held_at cells) (list_at new a)
  left_held =
      map_same (held_at (set cells i c)) (held_at cells) (list_at new a) (λ j m. held_same j (g.move.left j m).0)

  pub old_list : (side : Side) → map (buffer_at side (set cells i c) now) (list_at old b) ≡ map (buffer_at side cells before) (list_at old b)
  old_list side =
      map_same (buffer_at side (set cells i c) now) (buffer_at side cells before) (list_at old b) (λ j m. buffer_same side j (not_here b j (λ z. g.differ (sym z)) m))

  pub old_held : map (held_at (set cells i c)) (list_at old b) ≡ map (held_at cells) (list_at old b)
  old_held =
      map_same (held_at (set cells i c)) (held_at cells) (list_at old b) (λ j m. held_same j (not_here b j (λ z. g.differ (sym z)) m))

  pub buffer_now : (side : Side) → buffer_at side (set cells i c) now i ≡ buffer_of side i c (payload_at now i)
  buffer_now side = ap (λ x. buffer_of side i x (payload_at now i)) cell_same

  pub held_now : held_at (set cells i c) i ≡ held_buffer i c.size
  held_now = ap (λ x. held_buffer i x.size) cell_same

-- queues with the same lists
pub same_queue : (side : Side) (streams : Bool) (h h' r r' j j' d d' : List Buffer) (n o : ℕ) → h ≡ h' → r ≡ r' → j ≡ j' → d ≡ d'
    → ◌≡◌ {A = QueueState} (record { side = side; streams = streams; held = h; ready = r; job = j; done = d; next_seq = n; next_ordinal = o }) (record { side = side; streams = streams; held = h'; ready = r'; job = j'; done = d'; next_seq = n; next_ordinal = o })
same_queue side streams h h' r r' j j' d d' n o p q s t = cc
