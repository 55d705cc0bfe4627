-- When a hold fits a queue, told by cells: it has a payload of the cell's size for each cell of the held list, and none for
-- the others. Where one cell comes to that list or leaves it, and its payload with it, the hold goes on fitting.
use Rattle.std.proofs.Common.{ℕ, zero, suc, ◌≡◌, ◌≢◌, ◌<◌, eqb, Bool, true, false, ◌||◌, Option, Some, None, cond, List, [], ◌∷◌, map, length, get_or, set, refl, sym, ap, ◌∙◌, subst, inl, ⊎_elim, arith, get_or-set_other}
use Rattle.std.specs.List.{Contains}
use Rattle.std.specs.Option.{option_map}
use Rattle.std.proofs.lemmas.Bool.{eqb-true, cases_eq, false_from_ne_true}
use Rattle.vc_base.specs.declared.Side.{Side}
use Rattle.vc_base.specs.declared.Side.TheVariants.{Out, Cap}
use Rattle.vc_base.specs.Buffers.{Buffer, with_index}
use Rattle.vc_links.specs.Lists.{list_at}
use Rattle.vc_queue.specs.declared.cells.Cell.{Cell}
use Rattle.vc_queue.specs.Payloads.{payload_at}
use Rattle.vc_queue.specs.Holds.{HoldState, side_of, held_payload, with_payload, Fits}
use Rattle.vc_queue.specs.Cells.{held_at, cell_at, state_of, is_member}
use Rattle.vc_queue.proofs.OneCellMoves.{Moving, goes, comes_back, cell_other, cell_same, member_place}

with_step : (f : ℕ → Buffer) → ((j : ℕ) → (f j).index ≡ j) → (i x : ℕ) (xs : List ℕ) → with_index i (map f xs) ≡ cond (is_member i xs) (Some (f i)) None → (b : Bool) → eqb x i ≡ b → with_index i (map f (x ∷ xs)) ≡ cond (is_member i (x ∷ xs)) (Some (f i)) None
with_step f h i x xs r true e =
    ap (λ y. cond (eqb y i) (Some (f x)) (with_index i (map f xs))) (h x)
    ∙ (ap (λ b. cond b (Some (f x)) (with_index i (map f xs))) e
    ∙ (ap (λ y. Some (f y)) (eqb-true x i e)
    ∙ sym (ap (λ b. cond (b || is_member i xs) (Some (f i)) None) e)))
with_step f h i x xs r false e =
    ap (λ y. cond (eqb y i) (Some (f x)) (with_index i (map f xs))) (h x)
    ∙ (ap (λ b. cond b (Some (f x)) (with_index i (map f xs))) e
    ∙ (r ∙ sym (ap (λ b. cond (b || is_member i xs) (Some (f i)) None) e)))

-- the buffer of a list of cells that has the index
pub with_at : (f : ℕ → Buffer) → ((j : ℕ) → (f j).index ≡ j) → (i : ℕ) (xs : List ℕ) → with_index i (map f xs) ≡ cond (is_member i xs) (Some (f i)) None
with_at f h i [] = refl
with_at f h i (x ∷ xs) = with_step f h i x xs (with_at f h i xs) (eqb x i) refl

-- the same, of what is held
pub with_held : (cells : List Cell) (i : ℕ) (xs : List ℕ) → with_index i (map (held_at cells) xs) ≡ cond (is_member i xs) (Some (held_at cells i)) None
with_held cells i xs = with_at (held_at cells) (λ j. refl) i xs

-- the payloads fit the cells of the held list
abbrev pub FitsCells : List Cell → List ℕ → List (Option (List ℕ)) → Type 0
FitsCells cells held places =
    (j : ℕ) → j < 32 → option_map length (payload_at places j) ≡ cond (is_member j held) (Some (cell_at cells j).size) None

map_cond : (b : Bool) (x : Buffer) → option_map (λ y. y.size) (cond b (Some x) None) ≡ cond b (Some x.size) None
map_cond true x = refl
map_cond false x = refl

pub size_held : (cells : List Cell) (held : List ℕ) (j : ℕ) → option_map (λ b. b.size) (with_index j (map (held_at cells) held)) ≡ cond (is_member j held) (Some (cell_at cells j).size) None
size_held cells held j =
    ap (option_map (λ b. b.size)) (with_held cells j held) ∙ map_cond (is_member j held) (held_at cells j)

pub fits_cells : (side : Side) (streams : Bool) (next_seq next_ordinal : ℕ) (lists : List (List ℕ)) (cells : List Cell) (payloads : List (Option (List ℕ))) (hold : HoldState)
    → Fits (state_of side streams next_seq next_ordinal lists cells payloads) hold → FitsCells cells (list_at lists 0) (side_of hold side)
fits_cells side streams next_seq next_ordinal lists cells payloads hold f j h = f j h ∙ size_held cells (list_at lists 0) j

pub fits_state : (side : Side) (streams : Bool) (next_seq next_ordinal : ℕ) (lists : List (List ℕ)) (cells : List Cell) (payloads : List (Option (List ℕ))) (hold : HoldState)
    → FitsCells cells (list_at lists 0) (side_of hold side) → Fits (state_of side streams next_seq next_ordinal lists cells payloads) hold
fits_state side streams next_seq next_ordinal lists cells payloads hold f j h = f j h ∙ sym (size_held cells (list_at lists 0) j)

pub same_bool : (a b : Bool) → (a ≡ true → b ≡ true) → (b ≡ true → a ≡ true) → a ≡ b
same_bool true b f g = sym (f refl)
same_bool false true f g = g refl
same_bool false false f g = refl

-- the place of the side that a hold changes
pub side_changed : (hold : HoldState) (side : Side) (i : ℕ) (p : Option (List ℕ)) → side_of (with_payload hold side i p) side ≡ set (side_of hold side) i p
side_changed hold Out i p = refl
side_changed hold Cap i p = refl

module _ {old new : List (List ℕ)} {cells : List Cell} {before now : List (Option (List ℕ))} {count i a b : ℕ} {c : Cell} (g : Moving old new cells before now count i a b c) where
  same_member : (j : ℕ) → j ≢ i → is_member j (list_at new 0) ≡ is_member j (list_at old 0)
  same_member j n = same_bool (is_member j (list_at new 0)) (is_member j (list_at old 0)) (goes g 0 j n) (comes_back g 0 j n)

  -- a cell moved, and its payload alone came to the user or went from the user
  pub fits_moved : (side : Side) (hold : HoldState) (p : Option (List ℕ)) → FitsCells cells (list_at old 0) (side_of hold side)
      → held_payload (with_payload hold side i p) side i ≡ p → option_map length p ≡ cond (is_member i (list_at new 0)) (Some c.size) None
      → FitsCells (set cells i c) (list_at new 0) (side_of (with_payload hold side i p) side)
  fits_moved side hold p f there e j h =
      ⊎_elim
      (λ (z : j ≡ i). subst
      (λ x. option_map length (held_payload (with_payload hold side i p) side x) ≡ cond (is_member x (list_at new 0)) (Some (cell_at (set cells i c) x).size) None) (sym z)
      (ap (option_map length) there ∙ (e ∙ ap (λ x. cond (is_member i (list_at new 0)) (Some x.size) None) (sym (cell_same g)))))
      (λ (n : j ≡ i → ⊥). ap (λ l. option_map length (payload_at l j)) (side_changed hold side i p)
      ∙ (ap (option_map length) (get_or-set_other (side_of hold side) i j p None n) ∙ (f j h ∙ (ap (λ m. cond m (Some (cell_at cells j).size) None) (sym (same_member j n)) ∙ ap (λ x. cond (is_member j (list_at new 0)) (Some x.size) None) (sym (cell_other g j n))))))
      (cases_eq j i)

  -- the cell is held now
  pub now_held : 0 ≡ b → is_member i (list_at new 0) ≡ true
  now_held e = subst (λ k. is_member i (list_at new k) ≡ true) (sym e) (g.move.comes i (inl refl))

  -- the cell is not held any more
  pub not_held : 0 ≡ a → is_member i (list_at new 0) ≡ false
  not_held e =
      false_from_ne_true (is_member i (list_at new 0)) (λ (m : is_member i (list_at new 0) ≡ true). (g.move.left i (subst (λ k. is_member i (list_at new k) ≡ true) e m)).0 refl)

pub contains_member : (i : ℕ) (xs : List ℕ) → is_member i xs ≡ true → Contains xs i
contains_member i xs e = let p = member_place i xs e in (p.0, p.1, p_at xs p.0 i p.1 p.2)
  where
    p_at : (xs : List ℕ) (k i : ℕ) → k < length xs → get_or xs k 0 ≡ i → get_or xs k i ≡ i
    p_at [] k i h e = absurd (omega (arith, h))
    p_at (x ∷ xs) zero i h e = e
    p_at (x ∷ xs) (suc k) i h e = p_at xs k i (omega (arith, h)) e
