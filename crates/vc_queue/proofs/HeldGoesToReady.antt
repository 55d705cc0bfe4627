-- A held buffer goes to the end of ready, with its payload, from wherever it stands in the held list. It stands there once, so
-- the list without it is the list of the others, and the buffer that is queued carries what the call gave.
use Rattle.std.proofs.Common.{not, ℕ, zero, suc, ◌+◌, ◌≡◌, ◌≢◌, ◌<◌, eqb, ltb, Bool, true, false, ◌||◌, Option, Some, None, cond, ◌==◌, List, []}
use Rattle.std.proofs.Common.{◌∷◌, ◌++◌, map, length, get_or, set, take, refl, sym, ap, ◌∙◌, subst, ◌⊎◌, ⊎_elim, arith, get_or-set_same, get_or-set_other, length-set, length-append, lit<}
use Rattle.std.specs.List.{Contains, filter}
use Rattle.std.specs.Option.{option_map}
use Rattle.std.proofs.lemmas.Bool.{eqb-true, eq-eqb, eqb-false, false≢true, cases_eq, cases_Bool, false_from_ne_true, both_ways, or_parts}
use Rattle.std.proofs.lemmas.List.{map_push}
use Rattle.std.proofs.lemmas.List.Folds.{list_any_at}
use Rattle.vc_base.specs.declared.Side.{Side}
use Rattle.vc_base.specs.declared.Side.TheVariants.{Out, Cap}
use Rattle.vc_base.specs.declared.Errno.TheVariants.{Inval}
use Rattle.vc_base.specs.declared.Stamp.{Stamp}
use Rattle.vc_base.specs.Buffers.{Buffer, QueueState, with_index, queued_buffer, queue_held, qbuf_after, qbuf_refusal, held_refusal}
use Rattle.vc_links.specs.Lists.{list_at, without, IsInSome, AreApart}
use Rattle.vc_queue.specs.declared.cells.Cell.{Cell}
use Rattle.vc_queue.specs.Payloads.{payload_at}
use Rattle.vc_queue.specs.Answers.{is_too_short}
use Rattle.vc_queue.specs.Cells.{list_of, cell_at, held_at, buffer_of, buffer_at, state_of, is_member, queued_cell, HasPayload, IsStored, IsSound}
use Rattle.vc_queue.proofs.OneCellMoves.{Parts, moves, at_a, at_b, at_other, mid_b, moved, Moving, other_list, left_held, old_list, buffer_now, same_queue, member_here, member_there, member_place, cons_cases, push_cases, push_old, push_new}
use Rattle.vc_queue.specs.Holds.{HoldState, side_of, held_payload, with_payload, Fits}
use Rattle.vc_queue.proofs.HoldsFitCells.{with_held, size_held, fits_cells, FitsCells, fits_moved, not_held}

pub member_at : (i : ℕ) (xs : List ℕ) → Contains xs i → is_member i xs ≡ true
member_at i xs p = list_any_at (λ j. eqb j i) xs p.0 i p.1 (eq-eqb (get_or xs p.0 i) i p.2)

-- the cells but one
without_step : (i j x : ℕ) (xs : List ℕ) → (is_member j (without i xs) ≡ true → (j ≢ i) × (is_member j xs ≡ true)) → (b : Bool) → eqb x i ≡ b → is_member j (without i (x ∷ xs)) ≡ true → (j ≢ i) × (is_member j (x ∷ xs) ≡ true)
without_step i j x xs r true e m =
    let p = r (subst (λ b. is_member j (cond (not b) (x ∷ without i xs) (without i xs)) ≡ true) e m) in
    (p.0, member_there j x xs p.1)
without_step i j x xs r false e m =
    ⊎_elim
    (λ (z : j ≡ x). ((λ (w : j ≡ i). eqb-false x i e (sym z ∙ w)), subst (λ y. is_member y (x ∷ xs) ≡ true) (sym z) (member_here x xs)))
    (λ (z : is_member j (without i xs) ≡ true). let p = r z in (p.0, member_there j x xs p.1))
    (cons_cases j x (without i xs) (subst (λ b. is_member j (cond (not b) (x ∷ without i xs) (without i xs)) ≡ true) e m))

pub without_left : (i j : ℕ) (xs : List ℕ) → is_member j (without i xs) ≡ true → (j ≢ i) × (is_member j xs ≡ true)
without_left i j [] m = absurd (false≢true m)
without_left i j (x ∷ xs) m = without_step i j x xs (without_left i j xs) (eqb x i) refl m

stays_step : (i j x : ℕ) (xs : List ℕ) → j ≢ i → (is_member j xs ≡ true → is_member j (without i xs) ≡ true) → is_member j (x ∷ xs) ≡ true → (b : Bool) → eqb x i ≡ b → is_member j (without i (x ∷ xs)) ≡ true
stays_step i j x xs n r m true e =
    subst (λ b. is_member j (cond (not b) (x ∷ without i xs) (without i xs)) ≡ true) (sym e)
    (⊎_elim (λ (z : j ≡ x). absurd (n (z ∙ eqb-true x i e))) (λ (z : is_member j xs ≡ true). r z) (cons_cases j x xs m))
stays_step i j x xs n r m false e =
    subst (λ b. is_member j (cond (not b) (x ∷ without i xs) (without i xs)) ≡ true) (sym e)
    (⊎_elim (λ (z : j ≡ x). subst (λ y. is_member y (x ∷ without i xs) ≡ true) (sym z) (member_here x (without i xs))) (λ (z : is_member j xs ≡ true). member_there j x (without i xs) (r z)) (cons_cases j x xs m))

without_stays : (i j : ℕ) (xs : List ℕ) → j ≢ i → is_member j xs ≡ true → is_member j (without i xs) ≡ true
without_stays i j [] n m = absurd (false≢true m)
without_stays i j (x ∷ xs) n m = stays_step i j x xs n (without_stays i j xs n) m (eqb x i) refl

-- a cell that is not there
gone_step : (i x : ℕ) (xs : List ℕ) → (is_member i xs ≡ false → without i xs ≡ xs) → (b : Bool) → eqb x i ≡ b → is_member i (x ∷ xs) ≡ false → without i (x ∷ xs) ≡ x ∷ xs
gone_step i x xs r true e m = absurd (both_ways (is_member i (x ∷ xs)) m (ap (λ b. b || is_member i xs) e))
gone_step i x xs r false e m =
    ap (λ b. cond (not b) (x ∷ without i xs) (without i xs)) e
    ∙ ap (λ l. x ∷ l) (r (sym (ap (λ b. b || is_member i xs) e) ∙ m))

without_gone : (i : ℕ) (xs : List ℕ) → is_member i xs ≡ false → without i xs ≡ xs
without_gone i [] m = refl
without_gone i (x ∷ xs) m = gone_step i x xs (without_gone i xs) (eqb x i) refl m

Alone : List ℕ → Type 0
Alone xs =
    (i j : ℕ) → i < length xs → j < length xs → get_or xs i 0 ≡ get_or xs j 0 → i ≡ j

alone_rest : (x : ℕ) (xs : List ℕ) → Alone (x ∷ xs) → Alone xs
unfolding Alone
alone_rest x xs d i j hi hj e = let p = d (suc i) (suc j) (omega (arith, hi)) (omega (arith, hj)) e in omega (arith, p)

alone_head : (x : ℕ) (xs : List ℕ) → Alone (x ∷ xs) → is_member x xs ≡ false
unfolding Alone
alone_head x xs d =
    false_from_ne_true (is_member x xs) (λ (m : is_member x xs ≡ true). let p = member_place x xs m in
    let q = d 0 (suc p.0) (omega arith) (omega (arith, p.1)) (sym p.2) in
    absurd (omega (arith, q)))

less_step : (i x : ℕ) (xs : List ℕ) → Alone (x ∷ xs) → (is_member i xs ≡ true → length xs ≡ suc (length (without i xs))) → is_member i (x ∷ xs) ≡ true → (b : Bool) → eqb x i ≡ b → length (x ∷ xs) ≡ suc (length (without i (x ∷ xs)))
less_step i x xs d r m true e =
    let same : without i xs ≡ xs = without_gone i xs (subst (λ y. is_member y xs ≡ false) (eqb-true x i e) (alone_head x xs d)) in
    ap (λ l. suc (length l)) (sym (ap (λ b. cond (not b) (x ∷ without i xs) (without i xs)) e ∙ same))
less_step i x xs d r m false e =
    let there : is_member i xs ≡ true = sym (ap (λ b. b || is_member i xs) e) ∙ m in
    ap suc (r there) ∙ ap (λ l. suc (length l)) (sym (ap (λ b. cond (not b) (x ∷ without i xs) (without i xs)) e))

without_less : (i : ℕ) (xs : List ℕ) → Alone xs → is_member i xs ≡ true → length xs ≡ suc (length (without i xs))
without_less i [] d m = absurd (false≢true m)
without_less i (x ∷ xs) d m = less_step i x xs d (without_less i xs (alone_rest x xs d)) m (eqb x i) refl

-- a cell from anywhere in list a goes to the end of list b
middle_to_end : (lists : List (List ℕ)) (a b i : ℕ) → AreApart lists → is_member i (list_at lists a) ≡ true → Parts lists i a b (without i (list_at lists a)) (list_at lists b ++ i ∷ [])
unfolding Alone
middle_to_end lists a b i apart m =
    record {
      left = λ j e. without_left i j (list_at lists a) e;
      stays = λ j n e. without_stays i j (list_at lists a) n e;
      came = λ j e. push_cases j i (list_at lists b) e;
      comes = λ j w. ⊎_elim (λ (z : j ≡ i). subst (λ y. is_member y (list_at lists b ++ i ∷ []) ≡ true) (sym z) (push_new i (list_at lists b))) (λ (z : is_member j (list_at lists b) ≡ true). push_old j i (list_at lists b) z) w;
      less = without_less i (list_at lists a) (λ p q hp hq e. (apart.once a a p q hp hq e).1) m;
      more = omega (arith, length-append (list_at lists b) (i ∷ []));
    }

-- the held buffers but one
filter_step : (cells : List Cell) (i x : ℕ) (xs : List ℕ) → map (held_at cells) (without i xs) ≡ filter (λ h. not (h.index == i)) (map (held_at cells) xs) → (b : Bool) → eqb x i ≡ b
    → map (held_at cells) (without i (x ∷ xs)) ≡ filter (λ h. not (h.index == i)) (map (held_at cells) (x ∷ xs))
filter_step cells i x xs r true e =
    ap (λ b. map (held_at cells) (cond (not b) (x ∷ without i xs) (without i xs))) e
    ∙ (r ∙ sym (ap (λ b. cond (not b) (held_at cells x ∷ filter (λ h. not (h.index == i)) (map (held_at cells) xs)) (filter (λ h. not (h.index == i)) (map (held_at cells) xs))) e))
filter_step cells i x xs r false e =
    ap (λ b. map (held_at cells) (cond (not b) (x ∷ without i xs) (without i xs))) e
    ∙ (ap (λ l. held_at cells x ∷ l) r ∙ sym (ap (λ b. cond (not b) (held_at cells x ∷ filter (λ h. not (h.index == i)) (map (held_at cells) xs)) (filter (λ h. not (h.index == i)) (map (held_at cells) xs))) e))

filter_held : (cells : List Cell) (i : ℕ) (xs : List ℕ) → map (held_at cells) (without i xs) ≡ filter (λ h. not (h.index == i)) (map (held_at cells) xs)
filter_held cells i [] = refl
filter_held cells i (x ∷ xs) = filter_step cells i x xs (filter_held cells i xs) (eqb x i) refl

-- the buffer that is queued
queued_is : (side : Side) (i size used ordinal : ℕ) (stamp : Stamp) (bytes : List ℕ) (b : Buffer) → b ≡ Rattle.vc_base.specs.Buffers.held_buffer i size → buffer_of side i (queued_cell side size used stamp ordinal) (Some bytes) ≡ queued_buffer side b used stamp (take used bytes) ordinal
queued_is Out i size used ordinal stamp bytes b e = rw e refl
queued_is Cap i size used ordinal stamp bytes b e = rw e refl

queued_place : (side : Side) (size used ordinal : ℕ) (stamp : Stamp) → 1 ≡ list_of (queued_cell side size used stamp ordinal).place
queued_place Out size used ordinal stamp = refl
queued_place Cap size used ordinal stamp = refl

queued_stored : (side : Side) (size used ordinal : ℕ) (stamp : Stamp) (payload : Option (List ℕ)) → HasPayload (queued_cell side size used stamp ordinal) payload → IsStored (queued_cell side size used stamp ordinal).place (queued_cell side size used stamp ordinal) payload
queued_stored Out size used ordinal stamp payload h = (refl, h)
queued_stored Cap size used ordinal stamp payload h = (refl, h)

queued_size : (side : Side) (size used ordinal : ℕ) (stamp : Stamp) → (queued_cell side size used stamp ordinal).size ≡ size
queued_size Out size used ordinal stamp = refl
queued_size Cap size used ordinal stamp = refl

module _ (old : List (List ℕ)) (cells : List Cell) (before : List (Option (List ℕ))) (count i : ℕ) (s : IsSound old cells before count) (here : is_member i (list_at old 0) ≡ true) where
  pub held_below : i < 32
  held_below = omega (arith, (s.placed 0 i here).0, s.few)

  pub held_room : i < length cells
  held_room = omega (arith, (s.placed 0 i here).0, s.cell_room)

  pub held_linked : IsInSome old i
  held_linked =
      let p = member_place i (list_at old 0) here in
      (0, lit< tt, (p.0, p.1, get_at (list_at old 0) p.0 i p.1 p.2))
    where
      get_at : (xs : List ℕ) (k i : ℕ) → k < length xs → get_or xs k 0 ≡ i → get_or xs k i ≡ i
      get_at [] k i h e = absurd (omega (arith, h))
      get_at (x ∷ xs) zero i h e = e
      get_at (x ∷ xs) (suc k) i h e = get_at xs k i (omega (arith, h)) e

module _ (old mid new : List (List ℕ)) (cells : List Cell) (before : List (Option (List ℕ))) (count i : ℕ) (s : IsSound old cells before count) (here : is_member i (list_at old 0) ≡ true) (em : mid ≡ set old 0 (without i (list_at old 0))) where
  pub unlinked : IsInSome mid i → ⊥
  unlinked p =
      ⊎_elim
      (λ (z : p.0 ≡ 0). (without_left i i (list_at old 0)
      (subst (λ l. is_member i l ≡ true) (ap (λ l. list_at l 0) em ∙ get_or-set_same old 0 (without i (list_at old 0)) [] (omega (arith, s.apart.four))) (subst (λ k. is_member i (list_at mid k) ≡ true) z (member_at i (list_at mid p.0) p.2)))).0 refl)
      (λ (n : p.0 ≡ 0 → ⊥). n (sym (s.placed p.0 i (subst (λ l. is_member i l ≡ true) (ap (λ l. list_at l p.0) em ∙ get_or-set_other old 0 p.0 (without i (list_at old 0)) [] n) (member_at i (list_at mid p.0) p.2))).1 ∙ (s.placed 0 i here).1))
      (cases_eq p.0 0)

  module _ (en : new ≡ set mid 1 (list_at mid 1 ++ i ∷ [])) where
    queue_ends : new ≡ set mid 1 (list_at old 1 ++ i ∷ [])
    queue_ends =
        en ∙ ap (λ l. set mid 1 (l ++ i ∷ [])) (mid_b old mid new 0 1 i (without i (list_at old 0)) (list_at mid 1 ++ i ∷ []) s.apart.four (lit< tt) (lit< tt) (λ (z : 0 ≡ 1). omega arith) em en)

    pub queues : (c : Cell) (bytes : List ℕ) → 1 ≡ list_of c.place → Moving old new cells before (set before i (Some bytes)) count i 0 1 c
    queues c bytes place =
        record {
          sound = s;
          move = moves old mid new 0 1 i (without i (list_at old 0)) (list_at old 1 ++ i ∷ []) s.apart.four (lit< tt) (lit< tt) (λ (z : 0 ≡ 1). omega arith) em queue_ends (middle_to_end old 0 1 i s.apart here);
          here = here;
          differ = λ (z : 0 ≡ 1). omega arith;
          place = sym place;
          rest = λ j n. get_or-set_other before i j (Some bytes) None n;
        }

    put_here : (bytes : List ℕ) → payload_at (set before i (Some bytes)) i ≡ Some bytes
    put_here bytes = get_or-set_same before i (Some bytes) None (omega (arith, s.few, s.payload_room, (s.placed 0 i here).0))

    job_stays : list_at new 2 ≡ list_at old 2
    job_stays =
        at_other old mid new 0 1 i (without i (list_at old 0)) (list_at old 1 ++ i ∷ []) s.apart.four (lit< tt) (lit< tt) (λ (z : 0 ≡ 1). omega arith) em queue_ends 2 (λ (z : 2 ≡ 0). omega arith) (λ (z : 2 ≡ 1). omega arith)

    module _ (side : Side) (used ordinal : ℕ) (stamp : Stamp) (bytes : List ℕ) (size : ℕ) (es : size ≡ (cell_at cells i).size) where
      pub queue_moving : Moving old new cells before (set before i (Some bytes)) count i 0 1 (queued_cell side size used stamp ordinal)
      queue_moving = queues (queued_cell side size used stamp ordinal) bytes (queued_place side size used ordinal stamp)

      pub queue_sound : AreApart new → length bytes ≡ size → IsSound new (set cells i (queued_cell side size used stamp ordinal)) (set before i (Some bytes)) count
      queue_sound apart eb =
          moved queue_moving apart (omega (arith, length-set before i (Some bytes), s.payload_room)) (queued_stored side size used ordinal stamp _ (bytes, put_here bytes, eb ∙ sym (queued_size side size used ordinal stamp))) (rw (ap length job_stays) s.one_job)

      ready_now : buffer_at side (set cells i (queued_cell side size used stamp ordinal)) (set before i (Some bytes)) i ≡ queued_buffer side (held_at cells i) used stamp (take used bytes) ordinal
      ready_now =
          buffer_now queue_moving side
          ∙ (ap (λ p. buffer_of side i (queued_cell side size used stamp ordinal) p) (put_here bytes)
          ∙ queued_is side i size used ordinal stamp bytes (held_at cells i) (ap (λ n. Rattle.vc_base.specs.Buffers.held_buffer i n) (sym es)))

      pub queue_state : (streams : Bool) (next_seq : ℕ) → state_of side streams next_seq (ordinal + 1) new (set cells i (queued_cell side size used stamp ordinal)) (set before i (Some bytes)) ≡ qbuf_after (state_of side streams next_seq ordinal old cells before) i used stamp (take used bytes)
      queue_state streams next_seq =
          let q = state_of side streams next_seq ordinal old cells before in
          let f = buffer_at side cells before in
          let f' = buffer_at side (set cells i (queued_cell side size used stamp ordinal)) (set before i (Some bytes)) in
          same_queue side streams _ _ _ _ _ _ _ _ next_seq (ordinal + 1)
          (left_held queue_moving ∙ (ap (map (held_at cells)) (at_a old mid new 0 1 i (without i (list_at old 0)) (list_at old 1 ++ i ∷ []) s.apart.four (lit< tt) (lit< tt) (λ (z : 0 ≡ 1). omega arith) em queue_ends) ∙ filter_held cells i (list_at old 0)))
          (ap (map f') (at_b old mid new 0 1 i (without i (list_at old 0)) (list_at old 1 ++ i ∷ []) s.apart.four (lit< tt) (lit< tt) (λ (z : 0 ≡ 1). omega arith) em queue_ends)
          ∙ (map_push f' (list_at old 1) i ∙ (ap (λ bs. bs ++ f' i ∷ []) (old_list queue_moving side) ∙ ap (λ b. map f (list_at old 1) ++ b ∷ []) ready_now)))
          (other_list queue_moving side 2 (λ (z : 2 ≡ 0). omega arith) (λ (z : 2 ≡ 1). omega arith))
          (other_list queue_moving side 3 (λ (z : 3 ≡ 0). omega arith) (λ (z : 3 ≡ 1). omega arith))
          ∙ ap (λ o. queue_held q i o used stamp (take used bytes)) (sym (with_held cells i (list_at old 0) ∙ ap (λ m. cond m (Some (held_at cells i)) None) here))

      pub queue_fits : (hold after : HoldState) → FitsCells cells (list_at old 0) (side_of hold side) → after ≡ with_payload hold side i None → held_payload after side i ≡ None → FitsCells (set cells i (queued_cell side size used stamp ordinal)) (list_at new 0) (side_of after side)
      queue_fits hold after f ea gone =
          subst (λ h. FitsCells (set cells i (queued_cell side size used stamp ordinal)) (list_at new 0) (side_of h side)) (sym ea)
          (fits_moved queue_moving side hold None f (subst (λ h. held_payload h side i ≡ None) ea gone) (sym (ap (λ m. cond m (Some (queued_cell side size used stamp ordinal).size) None) (not_held queue_moving refl))))

-- a held buffer that is long enough is queued
pub some_held : (b : Bool) (x y : ℕ) → Some x ≡ cond b (Some y) None → (b ≡ true) × (x ≡ y)
some_held true x y e = (refl, cc)
some_held false x y e = absurd cc

pub length_some : (p : Option (List ℕ)) (n : ℕ) → option_map length p ≡ Some n → (bytes : List ℕ) × (p ≡ Some bytes) × (length bytes ≡ n)
length_some None n e = absurd cc
length_some (Some bytes) n e = (bytes, refl, cc)

refusal_none : (side : Side) (b : Buffer) (used least : ℕ) → is_too_short side b.size used least ≡ false → held_refusal side (Some b) used least ≡ None
refusal_none Out b used least e = let p = or_parts (ltb b.size used) (ltb b.size least) e in rw (p.0, p.1) refl
refusal_none Cap b used least e = rw e refl

refusal_some : (side : Side) (b : Buffer) (used least : ℕ) → is_too_short side b.size used least ≡ true → held_refusal side (Some b) used least ≡ Some Inval
refusal_some Out b used least e = either (cases_Bool (ltb b.size used))
  where
    either : ((ltb b.size used ≡ true) ⊎ (ltb b.size used ≡ false)) → held_refusal Out (Some b) used least ≡ Some Inval
    either w =
        ⊎_elim (λ (z : ltb b.size used ≡ true). rw z refl) (λ (z : ltb b.size used ≡ false). let later : ltb b.size least ≡ true = sym (ap (λ x. x || ltb b.size least) z) ∙ e in rw (z, later) refl) w
refusal_some Cap b used least e = rw e refl

-- whether the buffer with the index is held, as its size tells
pub held_of : (q : QueueState) (index size : ℕ) → Some size ≡ option_map (λ b. b.size) (with_index index q.held) → (b : Buffer) × (with_index index q.held ≡ Some b) × (b.size ≡ size)
held_of q index size e = from_map (with_index index q.held) e
  where
    from_map : (o : Option Buffer) → Some size ≡ option_map (λ b. b.size) o → (b : Buffer) × (o ≡ Some b) × (b.size ≡ size)
    from_map None e = absurd cc
    from_map (Some b) e = (b, refl, cc)

pub qbuf_allowed : (q : QueueState) (index size used least : ℕ) → Some size ≡ option_map (λ b. b.size) (with_index index q.held) → is_too_short q.side size used least ≡ false → qbuf_refusal q index used least ≡ None
qbuf_allowed q index size used least e short =
    let h = held_of q index size e in
    ap (λ o. held_refusal q.side o used least) h.1 ∙ refusal_none q.side h.0 used least (ap (λ n. is_too_short q.side n used least) h.2 ∙ short)

pub qbuf_short : (q : QueueState) (index size used least : ℕ) → Some size ≡ option_map (λ b. b.size) (with_index index q.held) → is_too_short q.side size used least ≡ true → qbuf_refusal q index used least ≡ Some Inval
qbuf_short q index size used least e short =
    let h = held_of q index size e in
    ap (λ o. held_refusal q.side o used least) h.1 ∙ refusal_some q.side h.0 used least (ap (λ n. is_too_short q.side n used least) h.2 ∙ short)

module _ (side : Side) (streams : Bool) (next_seq next_ordinal : ℕ) (lists : List (List ℕ)) (cells : List Cell) (payloads : List (Option (List ℕ))) (q : QueueState)
    (index size : ℕ) (r : Option ℕ) (view : state_of side streams next_seq next_ordinal lists cells payloads ≡ q) (is : r ≡ Some size)
    (says : r ≡ option_map (λ b. b.size) (with_index index q.held)) where
  pub held_facts : (is_member index (list_at lists 0) ≡ true) × (size ≡ (cell_at cells index).size)
  held_facts =
      some_held (is_member index (list_at lists 0)) size (cell_at cells index).size (sym is ∙ (says ∙ (ap (λ x. option_map (λ b. b.size) (with_index index x.held)) (sym view) ∙ size_held cells (list_at lists 0) index)))

  pub payload_there : (hold : HoldState) → Fits q hold → index < 32 → (bytes : List ℕ) × (held_payload hold side index ≡ Some bytes) × (length bytes ≡ size)
  payload_there hold fit below =
      length_some (held_payload hold side index) size
      (fits_cells side streams next_seq next_ordinal lists cells payloads hold (subst (λ x. Fits x hold) (sym view) fit) index below
      ∙ (ap (λ m. cond m (Some (cell_at cells index).size) None) held_facts.0 ∙ ap (λ n. Some n) (sym held_facts.1)))

  pub payload_size : (hold : HoldState) (items : List ℕ) → Fits q hold → index < 32 → Some items ≡ held_payload hold side index → length items ≡ size
  payload_size hold items fit below e =
      let p = payload_there hold fit below in
      let both : Some items ≡ Some p.0 = e ∙ p.1 in
      let same : items ≡ p.0 = cc in
      ap length same ∙ p.2
