-- The seats of a new lock stand in the order of their numbers. Each is made by the first and put behind those that are
-- there, so after n steps the row is the first seat and n later ones.
use Rattle.std.proofs.Common.{◌≡◌, ℕ, zero, suc, ◌+◌, ◌<◌, List, [], ◌∷◌, ◌++◌, length, Some, slice_get, refl, sym, ap, ◌∙◌, arith, get_or, set, false}
use Rattle.atomic_table.specs.Seated.{TableId}
use Rattle.vc_turn.specs.Place.{Place, fresh_place}

-- so many seats after the first, of which the first has the number after k
abbrev pub later : TableId → ℕ → ℕ → List Place
later turn k zero = []
later turn k (suc n) = fresh_place turn (suc k) 0 ∷ later turn (suc k) n

pub later-more : (turn : TableId) (k n number : ℕ) → number ≡ suc (k + n) → later turn k n ++ fresh_place turn number 0 ∷ [] ≡ later turn k (suc n)
later-more turn k zero number e = let same : number ≡ suc k = omega arith in ap (λ (m : ℕ). fresh_place turn m 0 ∷ []) same
later-more turn k (suc n) number e = ap (λ (l : List Place). fresh_place turn (suc k) 0 ∷ l) (later-more turn (suc k) n number (omega arith))

later-get : (turn : TableId) (k n i count : ℕ) → i < n → slice_get (later turn k n) i ≡ Some (fresh_place turn (suc (k + i)) count)
later-get turn k zero i count lt = absurd (omega arith)
later-get turn k (suc n) zero count lt = let same : k ≡ k + 0 = omega arith in ap (λ (m : ℕ). Some (fresh_place turn (suc m) count)) same
later-get turn k (suc n) (suc i) count lt = let same : suc k + i ≡ k + suc i = omega arith in later-get turn (suc k) n i count (omega arith) ∙ ap (λ (m : ℕ). Some (fresh_place turn (suc m) count)) same

-- all seats of a lock that has so many after the first
abbrev pub all_seats : TableId → ℕ → List Place
all_seats turn n = fresh_place turn 0 (n + 1) ∷ later turn 0 n

pub seat-get : (turn : TableId) (n k count : ℕ) → count ≡ n + 1 → k < count → slice_get (all_seats turn n) k ≡ Some (fresh_place turn k count)
seat-get turn n zero count e lt = ap (λ (m : ℕ). Some (fresh_place turn 0 m)) (sym e)
seat-get turn n (suc k) count e lt = let same : 0 + k ≡ k = omega arith in later-get turn 0 n k count (omega arith) ∙ ap (λ (m : ℕ). Some (fresh_place turn (suc m) count)) same

pub length-later : (turn : TableId) (k n : ℕ) → length (later turn k n) ≡ n
length-later turn k zero = refl
length-later turn k (suc n) = ap suc (length-later turn (suc k) n)

-- the row after the first seat made one more
pub row-more : (turn : TableId) (items after : List Place) (front changed next : Place) (n m : ℕ) → items ≡ all_seats turn n → m ≡ n + 1 → front ≡ get_or items 0 front
    → changed ≡ record front { made = front.made + 1 } → next ≡ record front { number = front.made; seen = []; mine = []; ticket = 0; noted = false; made = 0; kept = [] }
    → after ≡ set items 0 changed ++ next ∷ [] → after ≡ all_seats turn m
row-more turn items after front changed next n m is count first change new end =
    let e : front ≡ fresh_place turn 0 (n + 1) = first ∙ ap (λ (l : List Place). get_or l 0 front) is in
    let up : n + 1 ≡ suc n = omega arith in
    let up' : suc n ≡ m = omega arith in
    let c : changed ≡ fresh_place turn 0 ((n + 1) + 1) = change ∙ ap (λ (p : Place). record p { made = p.made + 1 }) e in
    let d : next ≡ fresh_place turn (suc n) 0 =
    new
    ∙ (ap (λ (p : Place). record p { number = p.made; seen = []; mine = []; ticket = 0; noted = false; made = 0; kept = [] }) e
    ∙ ap (λ (k : ℕ). record { turn = turn; number = k; seen = []; mine = []; ticket = 0; serving = false; noted = false; made = 0; kept = [] }) up) in
    let f : after ≡ fresh_place turn 0 ((n + 1) + 1) ∷ (later turn 0 n ++ fresh_place turn (suc n) 0 ∷ []) = end ∙ λ i. set (is i) 0 (c i) ++ d i ∷ [] in
    let h : (n + 1) + 1 ≡ m + 1 = omega arith in
    f
    ∙ (ap (λ (l : List Place). fresh_place turn 0 ((n + 1) + 1) ∷ l) (later-more turn 0 n (suc n) (omega arith))
    ∙ λ i. fresh_place turn 0 (h i) ∷ later turn 0 (up' i))
