-- The cells of a queue, and more of them. The cells of a longer list are blank at first. Then one after another goes over
-- with its payload, and is left empty where it was. A step changes one index of either list alone, so in the end each cell
-- and each payload is at its index, and behind them stand the new cells.
use Rattle.std.proofs.Common.{ℕ, ◌+◌, ◌≡◌, ◌<◌, ◌≤◌, Option, None, List, [], ◌∷◌, ◌++◌, map, length, set, replicate, refl, sym, ap, ◌∙◌, subst, ⊎_elim, arith, get_or-set_same, get_or-set_other, length-set}
use Rattle.std.proofs.lemmas.Bool.{cases_eq, cases_lt}
use Rattle.std.proofs.lemmas.List.{map_push, length-replicate, get_or-replicate, replicate-append-replicate}
use Rattle.vc_queue.specs.declared.cells.Cell.{Cell}
use Rattle.vc_queue.specs.Cells.{CellsState, blank_cell, cell_at}
use Rattle.vc_queue.specs.Growing.{AreMore, new_cell}
use Rattle.vc_queue.specs.Payloads.{payload_at}
use Rattle.vc_queue.proofs.NewBuffers.{none_stored}

-- one more of the same
pub one_more_same : {S A : Type 0} (f : S → A) (s : S) (n : ℕ) (xs xs' : List S) → map f xs ≡ replicate n (f s) → xs' ≡ xs ++ s ∷ [] → map f xs' ≡ replicate (n + 1) (f s)
one_more_same f s n xs xs' e ee =
    ap (map f) ee ∙ (map_push f xs s ∙ (ap (λ l. l ++ f s ∷ []) e ∙ replicate-append-replicate n 1 (f s)))

-- the first n cells went over, each with its payload
pub record Carrying (first number size : ℕ) (old : CellsState) (n : ℕ) (left now : CellsState) : Type 0 where
  pub room : length now.cells ≡ first + number
  pub payload_room : length now.payloads ≡ first + number
  pub left_room : length left.cells ≡ length old.cells
  pub rest : (i : ℕ) → n ≤ i → cell_at left.cells i ≡ cell_at old.cells i
  pub payload_rest : (i : ℕ) → n ≤ i → payload_at left.payloads i ≡ payload_at old.payloads i
  pub kept : (i : ℕ) → i < n → cell_at now.cells i ≡ cell_at old.cells i
  pub carried : (i : ℕ) → i < n → payload_at now.payloads i ≡ payload_at old.payloads i
  pub fresh : (i : ℕ) → n ≤ i → i < first + number → cell_at now.cells i ≡ new_cell size
  pub blank : (i : ℕ) → n ≤ i → payload_at now.payloads i ≡ None

pub carrying_none : (first number size : ℕ) (old now : CellsState) → now.cells ≡ replicate (first + number) (new_cell size) → now.payloads ≡ replicate (first + number) None → Carrying first number size old 0 old now
carrying_none first number size old now ec ep =
    record {
      room = ap length ec ∙ length-replicate (first + number) (new_cell size);
      payload_room = ap length ep ∙ length-replicate (first + number) None;
      left_room = refl;
      rest = λ i h. refl;
      payload_rest = λ i h. refl;
      kept = λ i h. absurd (omega (arith, h));
      carried = λ i h. absurd (omega (arith, h));
      fresh = λ i l h. ap (λ x. cell_at x i) ec ∙ get_or-replicate (first + number) i (new_cell size) blank_cell h;
      blank = λ i h. ap (λ l. payload_at l i) ep ∙ none_stored (first + number) i;
    }

pub carrying_more : (first number size : ℕ) (old : CellsState) (n : ℕ) (left now left' now' : CellsState) (cell : Cell) (payload : Option (List ℕ))
    → Carrying first number size old n left now → n < first → cell ≡ cell_at left.cells n → payload ≡ payload_at left.payloads n → left'.cells ≡ set left.cells n cell
    → left'.payloads ≡ set left.payloads n None → now'.cells ≡ set now.cells n cell → now'.payloads ≡ set now.payloads n payload
    → Carrying first number size old (n + 1) left' now'
carrying_more first number size old n left now left' now' cell payload w below is holds elc elp enc enp =
    record {
      room = ap length enc ∙ (length-set now.cells n cell ∙ w.room);
      payload_room = ap length enp ∙ (length-set now.payloads n payload ∙ w.payload_room);
      left_room = ap length elc ∙ (length-set left.cells n cell ∙ w.left_room);
      rest = λ i h. ap (λ l. cell_at l i) elc ∙ (get_or-set_other left.cells n i cell blank_cell (λ (z : i ≡ n). absurd (omega (arith, z, h))) ∙ w.rest i (omega (arith, h)));
      payload_rest = λ i h. ap (λ l. payload_at l i) elp ∙ (get_or-set_other left.payloads n i None None (λ (z : i ≡ n). absurd (omega (arith, z, h))) ∙ w.payload_rest i (omega (arith, h)));
      kept = λ i h. ⊎_elim
          (λ (z : i ≡ n). subst (λ x. cell_at now'.cells x ≡ cell_at old.cells x) (sym z)
          (ap (λ l. cell_at l n) enc ∙ (get_or-set_same now.cells n cell blank_cell (omega (arith, below, w.room)) ∙ (is ∙ w.rest n (omega arith)))))
          (λ (ne : i ≡ n → ⊥). ap (λ l. cell_at l i) enc ∙ (get_or-set_other now.cells n i cell blank_cell ne ∙ w.kept i (omega (arith, h, ne))))
          (cases_eq i n);
      carried = λ i h. ⊎_elim
          (λ (z : i ≡ n). subst (λ x. payload_at now'.payloads x ≡ payload_at old.payloads x) (sym z)
          (ap (λ l. payload_at l n) enp ∙ (get_or-set_same now.payloads n payload None (omega (arith, below, w.payload_room)) ∙ (holds ∙ w.payload_rest n (omega arith)))))
          (λ (ne : i ≡ n → ⊥). ap (λ l. payload_at l i) enp ∙ (get_or-set_other now.payloads n i payload None ne ∙ w.carried i (omega (arith, h, ne))))
          (cases_eq i n);
      fresh = λ i l h. ap (λ x. cell_at x i) enc ∙ (get_or-set_other now.cells n i cell blank_cell (λ (z : i ≡ n). absurd (omega (arith, z, l))) ∙ w.fresh i (omega (arith, l)) h);
      blank = λ i h. ap (λ l. payload_at l i) enp ∙ (get_or-set_other now.payloads n i payload None (λ (z : i ≡ n). absurd (omega (arith, z, h))) ∙ w.blank i (omega (arith, h)));
    }

-- all cells went over
pub carrying_done : (first number size : ℕ) (old : CellsState) (n : ℕ) (left now : CellsState) → Carrying first number size old n left now → first ≤ n → n ≤ first → AreMore first number size old.cells now.cells
carrying_done first number size old n left now w ge le =
    record {
      room = w.room;
      kept = λ i h. w.kept i (omega (arith, h, ge));
      fresh = λ i l h. w.fresh i (omega (arith, l, le)) h;
    }

-- and all payloads
pub carrying_same : (first number size : ℕ) (old : CellsState) (n : ℕ) (left now : CellsState) → Carrying first number size old n left now → first ≤ n → n ≤ first → ((i : ℕ) → first ≤ i
    → payload_at old.payloads i ≡ None) → (i : ℕ) → payload_at now.payloads i ≡ payload_at old.payloads i
carrying_same first number size old n left now w ge le none i =
    ⊎_elim
    (λ (z : i < first). w.carried i (omega (arith, z, ge)))
    (λ (z : first ≤ i). w.blank i (omega (arith, z, le)) ∙ sym (none i z))
    (cases_lt i first)

-- cells of a new queue are more than none
pub held_more : (number size : ℕ) (now : CellsState) → now.cells ≡ replicate number (new_cell size) → AreMore 0 number size [] now.cells
held_more number size now e =
    record {
      room = ap length e ∙ (length-replicate number (new_cell size) ∙ (let z : number ≡ 0 + number = omega arith in z));
      kept = λ i h. absurd (omega (arith, h));
      fresh = λ i l h. ap (λ x. cell_at x i) e ∙ get_or-replicate number i (new_cell size) blank_cell (omega (arith, h));
    }
