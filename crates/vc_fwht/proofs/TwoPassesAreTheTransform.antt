-- A pass over the rows and then one over the columns make the whole transform. A coefficient is a sum over rows of
-- sums over columns, and the sign of its row is the same for each term of an inner sum.
use Rattle.std.proofs.Common.{◌≡◌, ◌≢◌, inl, inr, ◌∙◌, sym, ap, refl, ℕ, ◌+◌, ◌*◌, ◌<◌, ◌≤◌, ◌/◌, ◌%◌, List, get_or, length, arith}
use Rattle.std.specs.Prelude.{ℤ, pos, ◌*ℤ◌}
use Rattle.std.proofs.lemmas.Bool.{cases_eq}
use Rattle.std.proofs.lemmas.Int.{ints}
use Rattle.std.proofs.Math.IntN.{*ℤ_comm}
use Rattle.vc_defs.specs.Walsh.{sum_below, walsh, entry_at, coefficient, transformed}
use Rattle.vc_defs.proofs.ListsByPlace.{entry_of_table, length_of_table, table_is}
use Rattle.vc_fwht.specs.Passes.{line_entry, line, row_entry, column_entry, rows, columns}
use Rattle.vc_fwht.proofs.MachineSumsAreExact.{Within}
use Rattle.vc_fwht.proofs.SignedSumsAreBounded.{same_sum, signed_sum, between_signs, signed_within, sum_within}
use Rattle.vc_fwht.proofs.MatrixEntriesAreSigns.{walsh_is_sign, walsh_symmetric}

length-rows : (x : List ℤ) → length (rows x) ≡ 64
unfolding rows
length-rows x = length_of_table (λ k. row_entry x (k / 8) (k % 8)) 64

length-columns : (x : List ℤ) → length (columns x) ≡ 64
unfolding columns
length-columns x = length_of_table (λ k. column_entry x (k / 8) (k % 8)) 64

entry_of_rows : (x : List ℤ) (i v : ℕ) → i < 8 → v < 8 → entry_at (rows x) i v ≡ row_entry x i v
unfolding rows
entry_of_rows x i v hi hv =
    let column : (8 * i + v) % 8 ≡ v = omega arith in
    let row : (8 * i + v) / 8 ≡ i = omega arith in
    entry_of_table (λ k. row_entry x (k / 8) (k % 8)) 64 (8 * i + v) (omega arith)
    ∙ rw (row, column) refl

-- one row's part of a coefficient
row_part : (x : List ℤ) (u v i : ℕ) → u < 8 → v < 8 → i < 8 → row_entry x i v *ℤ walsh i u ≡ sum_below 8 (λ j. walsh u i *ℤ entry_at x i j *ℤ walsh j v)
unfolding row_entry
row_part x u v i hu hv hi =
    *ℤ_comm (row_entry x i v) (walsh i u)
    ∙ signed_sum (walsh i u) (walsh_is_sign i u hi hu) 8 (λ j. entry_at x i j *ℤ walsh j v)
    ∙ same_sum 8 (λ j. walsh i u *ℤ (entry_at x i j *ℤ walsh j v)) (λ j. walsh u i *ℤ entry_at x i j *ℤ walsh j v)
    (λ j hj.
    between_signs (walsh i u) (entry_at x i j) (walsh j v) (walsh_is_sign i u hi hu) (walsh_is_sign j v hj hv)
    ∙ ap (λ w. w *ℤ entry_at x i j *ℤ walsh j v) (walsh_symmetric i u hi hu))

coefficient_from_passes : (x : List ℤ) (u v : ℕ) → u < 8 → v < 8 → column_entry (rows x) u v ≡ coefficient x u v
unfolding column_entry coefficient
coefficient_from_passes x u v hu hv =
    same_sum 8 (λ i. entry_at (rows x) i v *ℤ walsh i u) (λ i. sum_below 8 (λ j. walsh u i *ℤ entry_at x i j *ℤ walsh j v))
    (λ i hi. ap (λ z. z *ℤ walsh i u) (entry_of_rows x i v hi hv) ∙ row_part x u v i hu hv hi)

two_passes : (x : List ℤ) → columns (rows x) ≡ transformed x
unfolding columns transformed
two_passes x =
    table_is (λ k. coefficient x (k / 8) (k % 8)) 64 (columns (rows x)) (length-columns (rows x))
    (λ k h.
    entry_of_table (λ k. column_entry (rows x) (k / 8) (k % 8)) 64 k h
    ∙ coefficient_from_passes x (k / 8) (k % 8) (omega arith) (omega arith))

row_within : (m : ℕ) (x : List ℤ) (i v : ℕ) → i < 8 → v < 8 → ((k : ℕ) → k < 64 → Within m (get_or x k (pos 0))) → Within (8 * m) (row_entry x i v)
unfolding row_entry
row_within m x i v hi hv h =
    sum_within m 8 (λ j. entry_at x i j *ℤ walsh j v)
    (λ j hj. signed_within m (entry_at x i j) (walsh j v) (walsh_is_sign j v hj hv) (h (8 * i + j) (omega arith)))

-- No entry after the first pass is beyond eight times the bound of the block.
pub rows_within : (m : ℕ) (x : List ℤ) → ((k : ℕ) → k < 64 → Within m (get_or x k (pos 0))) → (k : ℕ) → k < 64 → Within (8 * m) (get_or (rows x) k (pos 0))
unfolding rows
rows_within m x h k hk =
    rw (entry_of_table (λ k. row_entry x (k / 8) (k % 8)) 64 k hk)
    (row_within m x (k / 8) (k % 8) (omega arith) (omega arith) h)

pub line_at : (r : List ℤ) (v : ℕ) → v < 8 → get_or (line r) v (pos 0) ≡ line_entry r v
unfolding line
line_at r v h = entry_of_table (λ v. line_entry r v) 8 v h

line_of_row : (x r : List ℤ) (row v : ℕ) → ((j : ℕ) → j < 8 → get_or r j (pos 0) ≡ get_or x (8 * row + j) (pos 0)) → line_entry r v ≡ row_entry x row v
unfolding line_entry row_entry
line_of_row x r row v same =
    same_sum 8 (λ j. get_or r j (pos 0) *ℤ walsh j v) (λ j. entry_at x row j *ℤ walsh j v) (λ j h. ap (λ z. z *ℤ walsh j v) (same j h))

pub line_of_column : (x r : List ℤ) (u column : ℕ) → ((i : ℕ) → i < 8 → get_or r i (pos 0) ≡ get_or x (8 * i + column) (pos 0)) → line_entry r u ≡ column_entry x u column
unfolding line_entry column_entry
line_of_column x r u column same =
    same_sum 8 (λ i. get_or r i (pos 0) *ℤ walsh i u) (λ i. entry_at x i column *ℤ walsh i u) (λ i h. ap (λ z. z *ℤ walsh i u) (same i h))

-- One row more is written.
pub row_more : (x before after r l : List ℤ) (row : ℕ) → row < 8 → ((j : ℕ) → j < 8 → get_or r j (pos 0) ≡ get_or x (8 * row + j) (pos 0)) → l ≡ line r →
    ((v : ℕ) → v < 8 → get_or after (8 * row + v) (pos 0) ≡ get_or l v (pos 0)) →
    ((k : ℕ) → k / 8 ≢ row → get_or after k (pos 0) ≡ get_or before k (pos 0)) →
    ((k : ℕ) → k < 64 → k / 8 < row → get_or before k (pos 0) ≡ row_entry x (k / 8) (k % 8)) →
    (k : ℕ) → k < 64 → k / 8 < row + 1 → get_or after k (pos 0) ≡ row_entry x (k / 8) (k % 8)
row_more x before after r l row hr same is written kept old k hk below =
    elim (cases_eq (k / 8) row) [
      | inl e ↦
          let here : k ≡ 8 * row + k % 8 = omega arith in
          ap (λ j. get_or after j (pos 0)) here
          ∙ written (k % 8) (omega arith)
          ∙ ap (λ t. get_or t (k % 8) (pos 0)) is
          ∙ line_at r (k % 8) (omega arith)
          ∙ line_of_row x r row (k % 8) same
          ∙ ap (λ i. row_entry x i (k % 8)) (sym e)
      | inr ne ↦ kept k ne ∙ old k hk (omega arith)
    ]

-- One column more is written.
pub column_more : (x before after r l : List ℤ) (column : ℕ) → column < 8 → ((i : ℕ) → i < 8 → get_or r i (pos 0) ≡ get_or x (8 * i + column) (pos 0)) → l ≡ line r →
    ((v : ℕ) → v < 8 → get_or after (8 * v + column) (pos 0) ≡ get_or l v (pos 0)) →
    ((k : ℕ) → k % 8 ≢ column → get_or after k (pos 0) ≡ get_or before k (pos 0)) →
    ((k : ℕ) → k < 64 → k % 8 < column → get_or before k (pos 0) ≡ column_entry x (k / 8) (k % 8)) →
    (k : ℕ) → k < 64 → k % 8 < column + 1 → get_or after k (pos 0) ≡ column_entry x (k / 8) (k % 8)
column_more x before after r l column hc same is written kept old k hk below =
    elim (cases_eq (k % 8) column) [
      | inl e ↦
          let here : k ≡ 8 * (k / 8) + column = omega arith in
          ap (λ j. get_or after j (pos 0)) here
          ∙ written (k / 8) (omega arith)
          ∙ ap (λ t. get_or t (k / 8) (pos 0)) is
          ∙ line_at r (k / 8) (omega arith)
          ∙ line_of_column x r (k / 8) column same
          ∙ ap (λ c. column_entry x (k / 8) c) (sym e)
      | inr ne ↦ kept k ne ∙ old k hk (omega arith)
    ]

pub rows_is : (x y : List ℤ) → length y ≡ 64 → ((k : ℕ) → k < 64 → get_or y k (pos 0) ≡ row_entry x (k / 8) (k % 8)) → y ≡ rows x
unfolding rows
rows_is x y long h = table_is (λ k. row_entry x (k / 8) (k % 8)) 64 y long h

pub columns_is : (x y : List ℤ) → length y ≡ 64 → ((k : ℕ) → k < 64 → get_or y k (pos 0) ≡ column_entry x (k / 8) (k % 8)) → y ≡ columns x
unfolding columns
columns_is x y long h = table_is (λ k. column_entry x (k / 8) (k % 8)) 64 y long h

-- Eight numbers of a block in range are in range.
pub eight_within : (n m : ℕ) (x r : List ℤ) (place : ℕ → ℕ) → ((j : ℕ) → j < 8 → place j < 64) → length r ≡ 8 → ((j : ℕ) → j < 8 → get_or r j (pos 0) ≡ get_or x (place j) (pos 0)) → ((k : ℕ) → k < 64 → Within n (get_or x k (pos 0))) → n ≤ m → (k : ℕ) → k < length r → Within m (get_or r k (pos 0))
eight_within n m x r place inside long same h le k hk =
    let w : Within n (get_or x (place k) (pos 0)) = h (place k) (inside k (omega arith)) in
    rw (same k (omega arith)) (omega (arith, ints), omega (arith, ints))

-- A block in range is in a wider range.
pub wider : (n m : ℕ) (x : List ℤ) → ((k : ℕ) → k < length x → Within n (get_or x k (pos 0))) → n ≤ m → (k : ℕ) → k < length x → Within m (get_or x k (pos 0))
wider n m x h le k hk = let w : Within n (get_or x k (pos 0)) = h k hk in (omega (arith, ints), omega (arith, ints))

-- A block in range is in the range of the second pass after the first.
pub second_allowed : (n : ℕ) (x y : List ℤ) → length x ≡ 64 → ((k : ℕ) → k < length x → Within n (get_or x k (pos 0))) → y ≡ rows x → 8 * n ≤ 16777216 → (k : ℕ) → k < length y → Within 16777216 (get_or y k (pos 0))
second_allowed n x y long h is le k hk =
    let e : length y ≡ 64 = ap length is ∙ length-rows x in
    let w : Within (8 * n) (get_or (rows x) k (pos 0)) = rows_within n x (λ j hj. h j (omega arith)) k (omega arith) in
    rw is (omega (arith, ints), omega (arith, ints))

pub transformed_by_passes : (x y z : List ℤ) → y ≡ rows x → z ≡ columns y → z ≡ transformed x
transformed_by_passes x y z p q = q ∙ ap columns p ∙ two_passes x
