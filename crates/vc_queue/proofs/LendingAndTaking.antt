-- A buffer goes from the front of ready into the job, comes back from there or goes to done, and from the front of done to the
-- user. Each is one cell that moves, and its payload with it, so the queue that callers see changes at this buffer alone, as
-- the definitions say.
use Rattle.std.proofs.Common.{not, ℕ, zero, suc, ◌+◌, ◌≡◌, ◌≢◌, ◌<◌, ◌≤◌, Bool, true, false, Option, Some, None, cond, ◌==◌, List, [], ◌∷◌, ◌++◌, map, length, set, take, refl, sym, ap, ◌∙◌, subst, arith, bit_and, get_or-set_same}
use Rattle.std.proofs.Common.{get_or-set_other, length-set, lit<}
use Rattle.std.specs.Prelude.{is_some}
use Rattle.std.proofs.lemmas.Bool.{false≢true}
use Rattle.std.proofs.lemmas.List.{map_push}
use Rattle.vc_base.specs.declared.Side.{Side}
use Rattle.vc_base.specs.declared.Side.TheVariants.{Out, Cap}
use Rattle.vc_base.specs.declared.Stamp.{Stamp}
use Rattle.vc_base.specs.Buffers.{Buffer, QueueState, known_bytes, without_bytes, without_job_bytes, lend_after, lend_front, give_back_after, give_back_from, retire_after, retire_from, dqbuf_after, dqbuf_refusal, refuse_if, is_empty, take_front}
use Rattle.vc_links.specs.Lists.{list_at, with_moved, first, rest, AreApart}
use Rattle.vc_queue.specs.declared.cells.Place.{Place}
use Rattle.vc_queue.specs.declared.cells.Place.TheVariants.{Held, Ready, Job, Done}
use Rattle.vc_queue.specs.declared.cells.Cell.{Cell}
use Rattle.vc_queue.specs.declared.queue.Lent.{Lent}
use Rattle.vc_base.specs.declared.Errno.TheVariants.{Again, Inval, Pipe}
use Rattle.vc_queue.specs.Answers.{GoesToUser}
use Rattle.vc_queue.specs.Holds.{HoldState, side_of, held_payload, with_payload}
use Rattle.vc_queue.proofs.HoldsFitCells.{FitsCells, fits_moved, now_held}
use Rattle.vc_queue.specs.Payloads.{payload_at}
use Rattle.vc_queue.specs.Lending.{IsLentFrom, IsBack, back_bytes}
use Rattle.vc_queue.specs.Cells.{held_at, list_of, cell_at, bytes_or_none, buffer_of, buffer_at, state_of, is_member, HasPayload, IsStored, IsSound}
use Rattle.vc_queue.proofs.OneCellMoves.{at_other, Parts, moves, at_a, at_b, front_to_end, front_to_front, moved, Moving, other_held, other_list, left_list, old_list, old_held, held_now, buffer_now, mid_b, same_queue, member_here}

pub first_rest : (xs : List ℕ) (i : ℕ) → Some i ≡ first xs → xs ≡ i ∷ rest xs
first_rest [] i e = cc
first_rest (x ∷ xs) i e = let same : i ≡ x = cc in ap (λ y. y ∷ xs) (sym same)

-- a cell at the front of a list is there
pub front_room : (lists : List (List ℕ)) (cells : List Cell) (payloads : List (Option (List ℕ))) (count k i : ℕ) → IsSound lists cells payloads count → Some i ≡ first (list_at lists k) → i < length cells
front_room lists cells payloads count k i s e =
    omega (arith, s.cell_room, (s.placed k i (rw (first_rest (list_at lists k) i e) (member_here i (rest (list_at lists k))))).0)

take_nil : (n : ℕ) → ◌≡◌ {A = List ℕ} (take n []) []
take_nil zero = refl
take_nil (suc n) = refl

known_nil : (side : Side) (flags : ℕ) → known_bytes side flags [] ≡ []
known_nil Out flags = same_cond (bit_and flags 64 == 64)
  where
    same_cond : (b : Bool) → ◌≡◌ {A = List ℕ} (cond b [] []) []
    same_cond true = refl
    same_cond false = refl
known_nil Cap flags = refl

ready_payload : (p : Place) (c : Cell) (payload : Option (List ℕ)) → list_of p ≡ 1 → IsStored p c payload → (c.flags ≡ 0) × HasPayload c payload
ready_payload Held c payload e s = absurd (omega arith)
ready_payload Ready c payload e s = s
ready_payload Job c payload e s = absurd (omega arith)
ready_payload Done c payload e s = absurd (omega arith)

job_payload : (p : Place) (c : Cell) (payload : Option (List ℕ)) → list_of p ≡ 2 → IsStored p c payload → (c.flags ≡ 0) × (payload ≡ None)
job_payload Held c payload e s = absurd (omega arith)
job_payload Ready c payload e s = absurd (omega arith)
job_payload Job c payload e s = s
job_payload Done c payload e s = absurd (omega arith)

plain_bytes : (side : Side) (flags : ℕ) (bytes : List ℕ) → flags ≡ 0 → known_bytes side flags bytes ≡ bytes
plain_bytes Out flags bytes e = rw e refl
plain_bytes Cap flags bytes e = refl

map_nil : (f : ℕ → Buffer) (xs : List ℕ) → map f xs ≡ [] → xs ≡ []
map_nil f [] e = refl
map_nil f (x ∷ xs) e = cc

-- lend
module _ (old new : List (List ℕ)) (cells : List Cell) (before : List (Option (List ℕ))) (count i : ℕ) (s : IsSound old cells before count) (e : Some i ≡ first (list_at old 1)) (en : new ≡ with_moved old 1 2 i) where
  e1 : list_at old 1 ≡ i ∷ rest (list_at old 1)
  e1 = first_rest (list_at old 1) i e

  here : is_member i (list_at old 1) ≡ true
  here = rw e1 (member_here i (rest (list_at old 1)))

  pub is_ready : ((cell_at cells i).flags ≡ 0) × HasPayload (cell_at cells i) (payload_at before i)
  is_ready =
      ready_payload (cell_at cells i).place (cell_at cells i) (payload_at before i) (s.placed 1 i here).1 (s.stored i (s.placed 1 i here).0)

  goes_to_job : Moving old new cells before (set before i None) count i 1 2 (record (cell_at cells i) { place = Job })
  goes_to_job =
      record {
        sound = s;
        move = moves old (set old 1 (rest (list_at old 1))) new 1 2 i (rest (list_at old 1)) (list_at old 2 ++ i ∷ []) s.apart.four (lit< tt) (lit< tt) (λ (z : 1 ≡ 2). omega arith) refl en (front_to_end old 1 2 i (rest (list_at old 1)) s.apart e1);
        here = here;
        differ = λ (z : 1 ≡ 2). omega arith;
        place = refl;
        rest = λ j n. get_or-set_other before i j None None n;
      }

  in_room : i < length before
  in_room = omega (arith, s.few, s.payload_room, (s.placed 1 i here).0)

  gone : payload_at (set before i None) i ≡ None
  gone = get_or-set_same before i None None in_room

  job_list : list_at old 2 ≡ [] → list_at new 2 ≡ i ∷ []
  job_list empty =
      at_b old (set old 1 (rest (list_at old 1))) new 1 2 i (rest (list_at old 1)) (list_at old 2 ++ i ∷ []) s.apart.four (lit< tt) (lit< tt) (λ (z : 1 ≡ 2). omega arith) refl en ∙ ap (λ l. l ++ i ∷ []) empty

  ready_list : list_at new 1 ≡ rest (list_at old 1)
  ready_list =
      at_a old (set old 1 (rest (list_at old 1))) new 1 2 i (rest (list_at old 1)) (list_at old 2 ++ i ∷ []) s.apart.four (lit< tt) (lit< tt) (λ (z : 1 ≡ 2). omega arith) refl en

  pub lend_sound : AreApart new → list_at old 2 ≡ [] → IsSound new (set cells i (record (cell_at cells i) { place = Job })) (set before i None) count
  lend_sound apart empty =
      moved goes_to_job apart (omega (arith, length-set before i None, s.payload_room)) (is_ready.0, gone) (rw (ap length (job_list empty)) (omega arith))

  -- the buffer in the job, without its bytes
  lent_buffer : (side : Side) → buffer_at side (set cells i (record (cell_at cells i) { place = Job })) (set before i None) i ≡ without_bytes (buffer_at side cells before i)
  lent_buffer side =
      buffer_now goes_to_job side ∙ (ap (λ p. buffer_of side i (record (cell_at cells i) { place = Job }) p) gone ∙ ap
      (λ bs. record (buffer_at side cells before i) { bytes = bs })
      (ap (known_bytes side (cell_at cells i).flags) (take_nil (cell_at cells i).used) ∙ known_nil side (cell_at cells i).flags))

  pub lend_state : (side : Side) (streams : Bool) (next_seq next_ordinal : ℕ) → list_at old 2 ≡ []
      → state_of side streams next_seq next_ordinal new (set cells i (record (cell_at cells i) { place = Job })) (set before i None) ≡ without_job_bytes (lend_after (state_of side streams next_seq next_ordinal old cells before))
  lend_state side streams next_seq next_ordinal empty =
      let q = state_of side streams next_seq next_ordinal old cells before in
      let f = buffer_at side cells before in
      let f' = buffer_at side (set cells i (record (cell_at cells i) { place = Job })) (set before i None) in
      same_queue side streams _ _ _ _ _ _ _ _ next_seq next_ordinal
      (other_held goes_to_job 0 (λ (z : 0 ≡ 1). omega arith) (λ (z : 0 ≡ 2). omega arith))
      (left_list goes_to_job side ∙ ap (map f) ready_list)
      (ap (map f') (job_list empty) ∙ ap (λ b. b ∷ []) (lent_buffer side))
      (other_list goes_to_job side 3 (λ (z : 3 ≡ 1). omega arith) (λ (z : 3 ≡ 2). omega arith))
      ∙ ap (λ l. without_job_bytes (lend_front q (map f l))) (sym e1)

  -- what is lent is the front of ready
  pub lend_gives : (side : Side) (payload : List ℕ) (lent : Lent) → payload_at before i ≡ Some payload → lent.index ≡ i → lent.used ≡ (cell_at cells i).used
      → lent.cursor ≡ (cell_at cells i).cursor → lent.stamp ≡ (cell_at cells i).stamp → lent.payload.items ≡ payload
      → IsLentFrom (map (buffer_at side cells before) (list_at old 1)) lent
  lend_gives side payload lent there ei eu ec es ep =
      subst (λ l. IsLentFrom (map (buffer_at side cells before) l) lent) (sym e1)
      (record {
        index = ei;
        used = eu;
        cursor = ec;
        stamp = es;
        bytes = ap (take (cell_at cells i).used) (ep ∙ ap bytes_or_none (sym there)) ∙ sym (plain_bytes side (cell_at cells i).flags (take (cell_at cells i).used (bytes_or_none (payload_at before i))) is_ready.0);
        size = ap length ep ∙ (ap (λ p. length (bytes_or_none p)) (sym there ∙ is_ready.1.1) ∙ is_ready.1.2);
      })

pub none_some : (p : Option (List ℕ)) (x : List ℕ) → None ≡ p → p ≡ Some x → ⊥
none_some None x e f = none≢some (f)
  where
    none≢some : ◌≡◌ {A = Option (List ℕ)} None (Some x) → ⊥
    none≢some h = absurd (let t : ◌≡◌ {A = Bool} false true = ap (λ (o : Option (List ℕ)). is_some o) h in false≢true t)
none_some (Some y) x e f = absurd (let t : ◌≡◌ {A = Bool} false true = ap (λ (o : Option (List ℕ)). is_some o) e in false≢true t)

pub no_job : (side : Side) (streams : Bool) (next_seq next_ordinal : ℕ) (lists : List (List ℕ)) (cells : List Cell) (payloads : List (Option (List ℕ))) (q : QueueState) → state_of side streams next_seq next_ordinal lists cells payloads ≡ q → q.job ≡ [] → list_at lists 2 ≡ []
no_job side streams next_seq next_ordinal lists cells payloads q is e =
    map_nil (buffer_at side cells payloads) (list_at lists 2) (ap (λ x. x.job) is ∙ e)

only_one : (xs : List ℕ) (i : ℕ) → Some i ≡ first xs → length xs ≤ 1 → xs ≡ i ∷ []
only_one [] i e h = cc
only_one (x ∷ []) i e h = let same : i ≡ x = cc in ap (λ y. y ∷ []) (sym same)
only_one (x ∷ y ∷ ys) i e h = absurd (omega arith)

rest_nil : (xs : List ℕ) (i : ℕ) → xs ≡ i ∷ [] → rest xs ≡ []
rest_nil xs i e = ap rest e

-- the buffer of the job comes back: b is the list that it goes to, and c what its cell becomes
module _ (old mid : List (List ℕ)) (cells : List Cell) (before : List (Option (List ℕ))) (count i : ℕ) (s : IsSound old cells before count) (e : Some i ≡ first (list_at old 2)) (em : mid ≡ set old 2 (rest (list_at old 2))) where
  pub job_is : list_at old 2 ≡ i ∷ []
  job_is = only_one (list_at old 2) i e s.one_job

  job_rest : list_at old 2 ≡ i ∷ rest (list_at old 2)
  job_rest = first_rest (list_at old 2) i e

  job_here : is_member i (list_at old 2) ≡ true
  job_here = rw job_is (member_here i [])

  pub back_size : (side : Side) (lent : Lent) → IsBack (map (buffer_at side cells before) (list_at old 2)) lent → length lent.payload.items ≡ (cell_at cells i).size
  back_size side lent w = (subst (λ l. IsBack (map (buffer_at side cells before) l) lent) job_is w).1

  pub back_bytes_is : (side : Side) (lent : Lent) → take (cell_at cells i).used lent.payload.items ≡ back_bytes (map (buffer_at side cells before) (list_at old 2)) lent
  back_bytes_is side lent = ap (λ l. back_bytes (map (buffer_at side cells before) l) lent) (sym job_is)

  in_job : ((cell_at cells i).flags ≡ 0) × (payload_at before i ≡ None)
  in_job =
      job_payload (cell_at cells i).place (cell_at cells i) (payload_at before i) (s.placed 2 i job_here).1 (s.stored i (s.placed 2 i job_here).0)

  job_room : i < length before
  job_room = omega (arith, s.few, s.payload_room, (s.placed 2 i job_here).0)

  put_there : (bytes : List ℕ) → payload_at (set before i (Some bytes)) i ≡ Some bytes
  put_there bytes = get_or-set_same before i (Some bytes) None job_room

  comes_back : (new : List (List ℕ)) (b : ℕ) (ys : List ℕ) (c : Cell) (bytes : List ℕ) → b < 4 → 2 ≢ b → new ≡ set mid b ys → Parts old i 2 b (rest (list_at old 2)) ys → list_of c.place ≡ b → Moving old new cells before (set before i (Some bytes)) count i 2 b c
  comes_back new b ys c bytes hb ne en parts place =
      record {
        sound = s;
        move = moves old mid new 2 b i (rest (list_at old 2)) ys s.apart.four (lit< tt) hb ne em en parts;
        here = job_here;
        differ = ne;
        place = place;
        rest = λ j n. get_or-set_other before i j (Some bytes) None n;
      }

  new_job : (new : List (List ℕ)) (b : ℕ) (ys : List ℕ) → b < 4 → 2 ≢ b → new ≡ set mid b ys → list_at new 2 ≡ []
  new_job new b ys hb ne en =
      at_a old mid new 2 b i (rest (list_at old 2)) ys s.apart.four (lit< tt) hb ne em en ∙ rest_nil (list_at old 2) i job_is

  mid_is : (new : List (List ℕ)) (b : ℕ) (ys : List ℕ) → b < 4 → 2 ≢ b → new ≡ set mid b ys → list_at mid b ≡ list_at old b
  mid_is new b ys hb ne en = mid_b old mid new 2 b i (rest (list_at old 2)) ys s.apart.four (lit< tt) hb ne em en

  -- give_back
  module _ (new : List (List ℕ)) (cursor : ℕ) (bytes : List ℕ) (en : new ≡ set mid 1 (i ∷ list_at mid 1)) (size : length bytes ≡ (cell_at cells i).size) where
    back_ends : new ≡ set mid 1 (i ∷ list_at old 1)
    back_ends =
        en ∙ ap (λ l. set mid 1 (i ∷ l)) (mid_is new 1 (i ∷ list_at mid 1) (lit< tt) (λ (z : 2 ≡ 1). omega arith) en)

    back : Moving old new cells before (set before i (Some bytes)) count i 2 1 (record (cell_at cells i) { place = Ready; cursor = cursor })
    back =
        comes_back new 1 (i ∷ list_at old 1) (record (cell_at cells i) { place = Ready; cursor = cursor }) bytes (lit< tt) (λ (z : 2 ≡ 1). omega arith) back_ends (front_to_front old 2 1 i (rest (list_at old 2)) s.apart job_rest) refl

    back_ready : list_at new 1 ≡ i ∷ list_at old 1
    back_ready =
        at_b old mid new 2 1 i (rest (list_at old 2)) (i ∷ list_at old 1) s.apart.four (lit< tt) (lit< tt) (λ (z : 2 ≡ 1). omega arith) em back_ends

    pub back_sound : AreApart new → IsSound new (set cells i (record (cell_at cells i) { place = Ready; cursor = cursor })) (set before i (Some bytes)) count
    back_sound apart =
        moved back apart (omega (arith, length-set before i (Some bytes), s.payload_room)) (in_job.0, (bytes, put_there bytes, size)) (rw (ap length (new_job new 1 (i ∷ list_at old 1) (lit< tt) (λ (z : 2 ≡ 1). omega arith) back_ends)) (omega arith))

    back_buffer : (side : Side) → buffer_at side (set cells i (record (cell_at cells i) { place = Ready; cursor = cursor })) (set before i (Some bytes)) i ≡ record (buffer_at side cells before i) { cursor = cursor; bytes = take (cell_at cells i).used bytes }
    back_buffer side =
        buffer_now back side
        ∙ (ap (λ p. buffer_of side i (record (cell_at cells i) { place = Ready; cursor = cursor }) p) (put_there bytes)
        ∙ ap (λ bs. record (buffer_at side cells before i) { cursor = cursor; bytes = bs }) (plain_bytes side (cell_at cells i).flags (take (cell_at cells i).used bytes) in_job.0))

    pub back_state : (side : Side) (streams : Bool) (next_seq next_ordinal : ℕ)
        → state_of side streams next_seq next_ordinal new (set cells i (record (cell_at cells i) { place = Ready; cursor = cursor })) (set before i (Some bytes)) ≡ give_back_after (state_of side streams next_seq next_ordinal old cells before) cursor (take (cell_at cells i).used bytes)
    back_state side streams next_seq next_ordinal =
        let q = state_of side streams next_seq next_ordinal old cells before in
        let f = buffer_at side cells before in
        let f' = buffer_at side (set cells i (record (cell_at cells i) { place = Ready; cursor = cursor })) (set before i (Some bytes)) in
        same_queue side streams _ _ _ _ _ _ _ _ next_seq next_ordinal
        (other_held back 0 (λ (z : 0 ≡ 2). omega arith) (λ (z : 0 ≡ 1). omega arith))
        (ap (map f') back_ready ∙ (ap (λ b. b ∷ map f' (list_at old 1)) (back_buffer side) ∙ ap (λ bs. record (f i) { cursor = cursor; bytes = take (cell_at cells i).used bytes } ∷ bs) (old_list back side)))
        (ap (map f') (new_job new 1 (i ∷ list_at old 1) (lit< tt) (λ (z : 2 ≡ 1). omega arith) back_ends))
        (other_list back side 3 (λ (z : 3 ≡ 2). omega arith) (λ (z : 3 ≡ 1). omega arith))
        ∙ ap (λ l. give_back_from q (map f l) cursor (take (cell_at cells i).used bytes)) (sym job_is)

  -- retire
  module _ (new : List (List ℕ)) (used flags next_seq : ℕ) (stamp : Stamp) (bytes : List ℕ) (en : new ≡ set mid 3 (list_at old 3 ++ i ∷ [])) (size : length bytes ≡ (cell_at cells i).size) where
    retires : Moving old new cells before (set before i (Some bytes)) count i 2 3 (record (cell_at cells i) { place = Done; used = used; stamp = stamp; flags = flags; seq = next_seq })
    retires =
        comes_back new 3 (list_at old 3 ++ i ∷ []) (record (cell_at cells i) { place = Done; used = used; stamp = stamp; flags = flags; seq = next_seq }) bytes (lit< tt) (λ (z : 2 ≡ 3). omega arith) en (front_to_end old 2 3 i (rest (list_at old 2)) s.apart job_rest) refl

    retire_done : list_at new 3 ≡ list_at old 3 ++ i ∷ []
    retire_done =
        at_b old mid new 2 3 i (rest (list_at old 2)) (list_at old 3 ++ i ∷ []) s.apart.four (lit< tt) (lit< tt) (λ (z : 2 ≡ 3). omega arith) em en

    pub retire_sound : AreApart new → IsSound new (set cells i (record (cell_at cells i) { place = Done; used = used; stamp = stamp; flags = flags; seq = next_seq })) (set before i (Some bytes)) count
    retire_sound apart =
        moved retires apart (omega (arith, length-set before i (Some bytes), s.payload_room)) (bytes, put_there bytes, size) (rw (ap length (new_job new 3 (list_at old 3 ++ i ∷ []) (lit< tt) (λ (z : 2 ≡ 3). omega arith) en)) (omega arith))

    retired_buffer : (side : Side)
        → buffer_at side (set cells i (record (cell_at cells i) { place = Done; used = used; stamp = stamp; flags = flags; seq = next_seq })) (set before i (Some bytes)) i
        ≡ record (buffer_at side cells before i) { used = used; bytes = known_bytes side flags (take used bytes); flags = flags; stamp = stamp; seq = next_seq }
    retired_buffer side =
        buffer_now retires side
        ∙ ap (λ p. buffer_of side i (record (cell_at cells i) { place = Done; used = used; stamp = stamp; flags = flags; seq = next_seq }) p) (put_there bytes)

    pub retire_state : (side : Side) (streams : Bool) (next_ordinal : ℕ)
        → state_of side streams (next_seq + 1) next_ordinal new (set cells i (record (cell_at cells i) { place = Done; used = used; stamp = stamp; flags = flags; seq = next_seq })) (set before i (Some bytes))
        ≡ retire_after (state_of side streams next_seq next_ordinal old cells before) used (take used bytes) flags stamp
    retire_state side streams next_ordinal =
        let q = state_of side streams next_seq next_ordinal old cells before in
        let f = buffer_at side cells before in
        let f' = buffer_at side (set cells i (record (cell_at cells i) { place = Done; used = used; stamp = stamp; flags = flags; seq = next_seq })) (set before i (Some bytes)) in
        same_queue side streams _ _ _ _ _ _ _ _ (next_seq + 1) next_ordinal
        (other_held retires 0 (λ (z : 0 ≡ 2). omega arith) (λ (z : 0 ≡ 3). omega arith))
        (other_list retires side 1 (λ (z : 1 ≡ 2). omega arith) (λ (z : 1 ≡ 3). omega arith))
        (ap (map f') (new_job new 3 (list_at old 3 ++ i ∷ []) (lit< tt) (λ (z : 2 ≡ 3). omega arith) en))
        (ap (map f') retire_done ∙ (map_push f' (list_at old 3) i ∙ (ap (λ bs. bs ++ f' i ∷ []) (old_list retires side) ∙ ap (λ b. map f (list_at old 3) ++ b ∷ []) (retired_buffer side))))
        ∙ ap (λ l. retire_from q (map f l) used (take used bytes) flags stamp) (sym job_is)

done_payload : (p : Place) (c : Cell) (payload : Option (List ℕ)) → list_of p ≡ 3 → IsStored p c payload → HasPayload c payload
done_payload Held c payload e s = absurd (omega arith)
done_payload Ready c payload e s = absurd (omega arith)
done_payload Job c payload e s = absurd (omega arith)
done_payload Done c payload e s = s

-- dqbuf
module _ (old new : List (List ℕ)) (cells : List Cell) (before : List (Option (List ℕ))) (count i : ℕ) (s : IsSound old cells before count) (e : Some i ≡ first (list_at old 3)) (en : new ≡ with_moved old 3 0 i) where
  pub done_is : list_at old 3 ≡ i ∷ rest (list_at old 3)
  done_is = first_rest (list_at old 3) i e

  done_here : is_member i (list_at old 3) ≡ true
  done_here = rw done_is (member_here i (rest (list_at old 3)))

  pub is_done : HasPayload (cell_at cells i) (payload_at before i)
  is_done =
      done_payload (cell_at cells i).place (cell_at cells i) (payload_at before i) (s.placed 3 i done_here).1 (s.stored i (s.placed 3 i done_here).0)

  goes_to_user : Moving old new cells before (set before i None) count i 3 0 (record (cell_at cells i) { place = Held })
  goes_to_user =
      record {
        sound = s;
        move = moves old (set old 3 (rest (list_at old 3))) new 3 0 i (rest (list_at old 3)) (list_at old 0 ++ i ∷ []) s.apart.four (lit< tt) (lit< tt) (λ (z : 3 ≡ 0). omega arith) refl en (front_to_end old 3 0 i (rest (list_at old 3)) s.apart done_is);
        here = done_here;
        differ = λ (z : 3 ≡ 0). omega arith;
        place = refl;
        rest = λ j n. get_or-set_other before i j None None n;
      }

  job_left : list_at new 2 ≡ list_at old 2
  job_left =
      at_other old (set old 3 (rest (list_at old 3))) new 3 0 i (rest (list_at old 3)) (list_at old 0 ++ i ∷ []) s.apart.four (lit< tt) (lit< tt) (λ (z : 3 ≡ 0). omega arith) refl en 2 (λ (z : 2 ≡ 3). omega arith) (λ (z : 2 ≡ 0). omega arith)

  pub dq_sound : AreApart new → IsSound new (set cells i (record (cell_at cells i) { place = Held })) (set before i None) count
  dq_sound apart =
      moved goes_to_user apart (omega (arith, length-set before i None, s.payload_room)) (get_or-set_same before i None None (omega (arith, s.few, s.payload_room, (s.placed 3 i done_here).0))) (rw (ap length job_left) s.one_job)

  pub dq_state : (side : Side) (streams : Bool) (next_seq next_ordinal : ℕ) → state_of side streams next_seq next_ordinal new (set cells i (record (cell_at cells i) { place = Held })) (set before i None) ≡ dqbuf_after (state_of side streams next_seq next_ordinal old cells before)
  dq_state side streams next_seq next_ordinal =
      let q = state_of side streams next_seq next_ordinal old cells before in
      let f = buffer_at side cells before in
      let h = held_at cells in
      let h' = held_at (set cells i (record (cell_at cells i) { place = Held })) in
      same_queue side streams _ _ _ _ _ _ _ _ next_seq next_ordinal
      (ap (map h')
      (at_b old (set old 3 (rest (list_at old 3))) new 3 0 i (rest (list_at old 3)) (list_at old 0 ++ i ∷ []) s.apart.four (lit< tt) (lit< tt) (λ (z : 3 ≡ 0). omega arith) refl en)
      ∙ (map_push h' (list_at old 0) i ∙ (ap (λ bs. bs ++ h' i ∷ []) (old_held goes_to_user) ∙ ap (λ b. map h (list_at old 0) ++ b ∷ []) (held_now goes_to_user))))
      (other_list goes_to_user side 1 (λ (z : 1 ≡ 3). omega arith) (λ (z : 1 ≡ 0). omega arith))
      (other_list goes_to_user side 2 (λ (z : 2 ≡ 3). omega arith) (λ (z : 2 ≡ 0). omega arith))
      (left_list goes_to_user side ∙ ap (map f) (at_a old (set old 3 (rest (list_at old 3))) new 3 0 i (rest (list_at old 3)) (list_at old 0 ++ i ∷ []) s.apart.four (lit< tt) (lit< tt) (λ (z : 3 ≡ 0). omega arith) refl en))
      ∙ ap (λ l. take_front q (map f l)) (sym done_is)

  pub dq_gives : (side : Side) (payload : List ℕ) (hold after : HoldState) → Some payload ≡ payload_at before i → after ≡ with_payload hold side i (Some payload) → GoesToUser side (map (buffer_at side cells before) (list_at old 3)) hold after
  dq_gives side payload hold after there put =
      subst (λ l. GoesToUser side (map (buffer_at side cells before) l) hold after) (sym done_is)
      (payload, put, ap (λ p. length (bytes_or_none p)) (there ∙ is_done.1) ∙ is_done.2, ap (λ p. known_bytes side (cell_at cells i).flags (take (cell_at cells i).used (bytes_or_none p))) there)

  pub dq_fits : (side : Side) (payload : List ℕ) (hold after : HoldState) → Some payload ≡ payload_at before i → FitsCells cells (list_at old 0) (side_of hold side)
      → after ≡ with_payload hold side i (Some payload) → held_payload after side i ≡ Some payload
      → FitsCells (set cells i (record (cell_at cells i) { place = Held })) (list_at new 0) (side_of after side)
  dq_fits side payload hold after there f ea put =
      let size : length payload ≡ (cell_at cells i).size = ap (λ p. length (bytes_or_none p)) (there ∙ is_done.1) ∙ is_done.2 in
      subst (λ h. FitsCells (set cells i (record (cell_at cells i) { place = Held })) (list_at new 0) (side_of h side)) (sym ea)
      (fits_moved goes_to_user side hold (Some payload) f (subst (λ h. held_payload h side i ≡ Some payload) ea put) (ap (λ n. Some n) size ∙ sym (ap (λ m. cond m (Some (cell_at cells i).size) None) (now_held goes_to_user refl))))

  pub dq_allowed : (side : Side) (streams ended : Bool) (next_seq next_ordinal : ℕ) → streams ≡ true → ended ≡ false → dqbuf_refusal (state_of side streams next_seq next_ordinal old cells before) ended ≡ None
  dq_allowed side streams ended next_seq next_ordinal es ee =
      ap (λ l. refuse_if (not streams) Inval (refuse_if ended Pipe (refuse_if (is_empty (map (buffer_at side cells before) l)) Again None))) done_is ∙ (ap (λ b. refuse_if (not b) Inval (refuse_if ended Pipe None)) es ∙ ap (λ b. refuse_if b Pipe None) ee)
