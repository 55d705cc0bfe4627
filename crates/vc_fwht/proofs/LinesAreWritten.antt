-- Eight numbers written into a row or a column of a block stand there, and no other number changes. The eight places
-- of a line are different, so that no write undoes another.
use Rattle.std.proofs.Common.{◌≡◌, ◌≢◌, ◌∙◌, ℕ, suc, zero, ◌+◌, ◌*◌, ◌<◌, ◌≤◌, ◌%◌, ◌/◌, List, get_or, set, length, arith, inl, inr, get_or-set_same, get_or-set_other}
use Rattle.std.specs.Prelude.{ℤ, pos}
use Rattle.std.proofs.lemmas.List.{length-set}
use Rattle.std.proofs.lemmas.Bool.{cases_eq}

-- the places of a column set, from the top to row n
abbrev pub with_column : ℕ → List ℤ → ℕ → (ℕ → ℤ) → List ℤ
with_column zero y c f = set y c (f 0)
with_column (suc n) y c f = set (with_column n y c f) (8 * suc n + c) (f (suc n))

length-with_column : (n : ℕ) (y : List ℤ) (c : ℕ) (f : ℕ → ℤ) → length (with_column n y c f) ≡ length y
length-with_column zero y c f = length-set y c (f 0)
length-with_column (suc n) y c f = length-set (with_column n y c f) (8 * suc n + c) (f (suc n)) ∙ length-with_column n y c f

pub column_written : (n : ℕ) (y : List ℤ) (c : ℕ) (f : ℕ → ℤ) → c < 8 → length y ≡ 64 → n ≤ 7 → (v : ℕ) → v ≤ n → get_or (with_column n y c f) (8 * v + c) (pos 0) ≡ f v
column_written zero y c f hc long hn v h =
    let e : v ≡ 0 = omega arith in
    let here : 8 * v + c ≡ c = omega arith in
    let inside : c < length y = omega arith in
    rw (here, e) (get_or-set_same y c (f 0) (pos 0) inside)
column_written (suc n) y c f hc long hn v h =
    elim (cases_eq v (suc n)) [
      | inl e ↦
          let inside : 8 * suc n + c < length (with_column n y c f) = omega (arith, length-with_column n y c f) in
          rw e (get_or-set_same (with_column n y c f) (8 * suc n + c) (f (suc n)) (pos 0) inside)
      | inr ne ↦
          let apart : 8 * v + c ≢ 8 * suc n + c = omega arith in
          get_or-set_other (with_column n y c f) (8 * suc n + c) (8 * v + c) (f (suc n)) (pos 0) apart
          ∙ column_written n y c f hc long (omega arith) v (omega arith)
    ]

pub column_kept : (n : ℕ) (y : List ℤ) (c : ℕ) (f : ℕ → ℤ) → c < 8 → (k : ℕ) → k % 8 ≢ c → get_or (with_column n y c f) k (pos 0) ≡ get_or y k (pos 0)
column_kept zero y c f hc k ne =
    let apart : k ≢ c = omega arith in
    get_or-set_other y c k (f 0) (pos 0) apart
column_kept (suc n) y c f hc k ne =
    let apart : k ≢ 8 * suc n + c = omega arith in
    get_or-set_other (with_column n y c f) (8 * suc n + c) k (f (suc n)) (pos 0) apart
    ∙ column_kept n y c f hc k ne

-- the places of a row set, from the left to column n
abbrev pub with_row : ℕ → List ℤ → ℕ → (ℕ → ℤ) → List ℤ
with_row zero y at f = set y at (f 0)
with_row (suc n) y at f = set (with_row n y at f) (at + suc n) (f (suc n))

length-with_row : (n : ℕ) (y : List ℤ) (at : ℕ) (f : ℕ → ℤ) → length (with_row n y at f) ≡ length y
length-with_row zero y at f = length-set y at (f 0)
length-with_row (suc n) y at f = length-set (with_row n y at f) (at + suc n) (f (suc n)) ∙ length-with_row n y at f

pub row_written : (n : ℕ) (y : List ℤ) (at : ℕ) (f : ℕ → ℤ) → at + n < length y → (v : ℕ) → v ≤ n → get_or (with_row n y at f) (at + v) (pos 0) ≡ f v
row_written zero y at f inside v h =
    let e : v ≡ 0 = omega arith in
    let here : at + v ≡ at = omega arith in
    let inside' : at < length y = omega arith in
    rw (here, e) (get_or-set_same y at (f 0) (pos 0) inside')
row_written (suc n) y at f inside v h =
    elim (cases_eq v (suc n)) [
      | inl e ↦
          let inside' : at + suc n < length (with_row n y at f) = omega (arith, length-with_row n y at f) in
          rw e (get_or-set_same (with_row n y at f) (at + suc n) (f (suc n)) (pos 0) inside')
      | inr ne ↦
          let apart : at + v ≢ at + suc n = omega arith in
          get_or-set_other (with_row n y at f) (at + suc n) (at + v) (f (suc n)) (pos 0) apart
          ∙ row_written n y at f (omega arith) v (omega arith)
    ]

pub row_kept : (n : ℕ) (y : List ℤ) (row : ℕ) (f : ℕ → ℤ) → n ≤ 7 → (k : ℕ) → k / 8 ≢ row → get_or (with_row n y (8 * row) f) k (pos 0) ≡ get_or y k (pos 0)
row_kept zero y row f hn k ne =
    let apart : k ≢ 8 * row = omega arith in
    get_or-set_other y (8 * row) k (f 0) (pos 0) apart
row_kept (suc n) y row f hn k ne =
    let apart : k ≢ 8 * row + suc n = omega arith in
    get_or-set_other (with_row n y (8 * row) f) (8 * row + suc n) k (f (suc n)) (pos 0) apart
    ∙ row_kept n y row f (omega arith) k ne
