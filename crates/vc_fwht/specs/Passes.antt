-- The transform as a pass over the rows of a block and a pass over its columns, and the stages of butterflies
-- of which three make the sums of eight numbers.
use Rattle.std.specs.Prelude.{ℕ, ◌/◌, ◌%◌, List, [], ◌∷◌, get_or, map, ℤ, pos, ◌+ℤ◌, ◌-ℤ◌, ◌*ℤ◌}
use Rattle.std.specs.List.{range_with_len}
use Rattle.vc_defs.specs.Walsh.{sum_below, entry_at, walsh}

-- the sums and the differences of the two halves of eight numbers, in turn
abbrev pub stage : List ℤ → List ℤ
stage x =
    let at : ℕ → ℤ = λ k. get_or x k (pos 0) in
    (at 0 +ℤ at 4) ∷ (at 0 -ℤ at 4) ∷ (at 1 +ℤ at 5) ∷ (at 1 -ℤ at 5) ∷ (at 2 +ℤ at 6) ∷ (at 2 -ℤ at 6) ∷ (at 3 +ℤ at 7) ∷ (at 3 -ℤ at 7) ∷ []

-- the sum of eight numbers with the signs of column v of the matrix
unfoldable pub line_entry : List ℤ → ℕ → ℤ
line_entry r v = sum_below 8 (λ j. get_or r j (pos 0) *ℤ walsh j v)

-- the sums of eight numbers with the signs of each column of the matrix
unfoldable pub line : List ℤ → List ℤ
line r = map (λ v. line_entry r v) (range_with_len 0 8)

-- the sum of a row of a block with the signs of column v of the matrix
unfoldable pub row_entry : List ℤ → ℕ → ℕ → ℤ
row_entry x row v = sum_below 8 (λ j. entry_at x row j *ℤ walsh j v)

-- the sum of a column of a block with the signs of column u of the matrix
unfoldable pub column_entry : List ℤ → ℕ → ℕ → ℤ
column_entry x u column = sum_below 8 (λ i. entry_at x i column *ℤ walsh i u)

-- each row's sums in its place
unfoldable pub rows : List ℤ → List ℤ
rows x = map (λ k. row_entry x (k / 8) (k % 8)) (range_with_len 0 64)

-- each column's sums in its place
unfoldable pub columns : List ℤ → List ℤ
columns x = map (λ k. column_entry x (k / 8) (k % 8)) (range_with_len 0 64)
