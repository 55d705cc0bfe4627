-- Two halves make the whole transform.
use Rattle.std.proofs.Common.{◌≡◌, ◌∙◌, sym, ap, refl, ℕ, suc, zero, ◌+◌, ◌*◌, ◌/◌, ◌%◌, ◌<◌, ◌≤◌, List, [], ◌∷◌, length, get_or, arith}
use Rattle.std.specs.Prelude.{ℤ, pos, neg_ℤ, ◌≤ℤ◌, ◌+ℤ◌, ◌-ℤ◌, ◌*ℤ◌}
use Rattle.std.proofs.lemmas.Int.{ints}
use Rattle.std.proofs.Math.IntN.{*ℤ_comm}
use Rattle.vc_defs.specs.Walsh.{sum_below, walsh, entry_at, coefficient, transformed}
use Rattle.vc_defs.proofs.ListsByPlace.{entry_of_table, table_is}
use Rattle.vc_fwht.specs.Passes.{stage, line, line_entry, row_entry, column_entry, rows, columns}
use Rattle.vc_fwht.proofs.ButterfliesAreSums.{each_of_eight, line_by_stages}
use Rattle.vc_fwht.proofs.TwoPassesAreTheTransform.{line_at, line_of_column}
use Rattle.vc_fwht.proofs.SignedSumsAreBounded.{same_sum, signed_sum, between_signs}
use Rattle.vc_fwht.proofs.MatrixEntriesAreSigns.{walsh_is_sign, walsh_symmetric}
use Rattle.vc_lanes.specs.Turning.{eight, column, row, order}

sum_of_zeros : (m : ℕ) → pos 0 ≡ sum_below m (λ j. pos 0)
sum_of_zeros zero = refl
sum_of_zeros (suc m) = let e = sum_of_zeros m in omega (arith, ints)

sum_of_sums : (m : ℕ) (f g : ℕ → ℤ) → sum_below m (λ j. f j +ℤ g j) ≡ sum_below m f +ℤ sum_below m g
sum_of_sums zero f g = refl
sum_of_sums (suc m) f g = let e = sum_of_sums m f g in omega (arith, ints)

exchanged : (n m : ℕ) (f : ℕ → ℕ → ℤ) → sum_below n (λ i. sum_below m (λ j. f i j)) ≡ sum_below m (λ j. sum_below n (λ i. f i j))
exchanged zero m f = sum_of_zeros m
exchanged (suc n) m f = ap (λ z. z +ℤ sum_below m (λ j. f n j)) (exchanged n m f) ∙ sym (sum_of_sums m (λ j. sum_below n (λ i. f i j)) (λ j. f n j))

pub at_order : (r : List ℤ) (v : ℕ) → v < 8 → get_or (stage (stage (stage r))) (order v) (pos 0) ≡ line_entry r v
at_order r v h =
    sym (each_of_eight (λ v. get_or (get_or (stage (stage (stage r))) 0 (pos 0) ∷ get_or (stage (stage (stage r))) 4 (pos 0) ∷ get_or (stage (stage (stage r))) 6 (pos 0) ∷ get_or (stage
    (stage (stage r))) 2 (pos 0) ∷ get_or (stage (stage (stage r))) 3 (pos 0) ∷ get_or (stage (stage (stage r))) 7 (pos 0) ∷ get_or (stage (stage (stage r))) 5 (pos 0) ∷ get_or (stage
    (stage (stage r))) 1 (pos 0) ∷ []) v (pos 0) ≡ get_or (stage (stage (stage r))) (order v) (pos 0)) refl refl refl refl refl refl refl refl v h)
    ∙ ap (λ t. get_or t v (pos 0)) (line_by_stages r (stage (stage (stage r))) refl)
    ∙ line_at r v h

pub order_below : (v : ℕ) → v < 8 → order v < 8
order_below v h = each_of_eight (λ v. order v < 8) (omega arith) (omega arith) (omega arith) (omega arith) (omega arith) (omega arith) (omega arith) (omega arith) v h

entry_of_row : (y : List ℤ) (r c : ℕ) → c < 8 → get_or (row y r) c (pos 0) ≡ get_or y (8 * r + c) (pos 0)
entry_of_row y r c h = each_of_eight (λ c. get_or (row y r) c (pos 0) ≡ get_or y (8 * r + c) (pos 0)) (let e : 8 * r ≡ 8 * r + 0 = omega arith in ap (λ j. get_or y j (pos 0)) e) refl refl refl refl refl refl refl c h

entry_of_column : (y : List ℤ) (c r : ℕ) → r < 8 → get_or (column y c) r (pos 0) ≡ get_or y (8 * r + c) (pos 0)
entry_of_column y c r h = each_of_eight (λ r. get_or (column y c) r (pos 0) ≡ get_or y (8 * r + c) (pos 0)) (let e : c ≡ 8 * 0 + c = omega arith in ap (λ j. get_or y j (pos 0)) e) refl refl refl refl refl refl refl r h

-- a turned block has the sums of a column in a row, in the order of the stages
pub turned_entry : (x y : List ℤ) → ((c : ℕ) → c < 8 → row y c ≡ stage (stage (stage (column x c)))) → (c v : ℕ) → c < 8 → v < 8 → get_or y (8 * c + order v) (pos 0) ≡ line_entry (column x c) v
turned_entry x y is c v hc hv = sym (entry_of_row y c (order v) (order_below v hv)) ∙ ap (λ t. get_or t (order v) (pos 0)) (is c hc) ∙ at_order (column x c) v hv

line_of_row : (x r : List ℤ) (row v : ℕ) → ((j : ℕ) → j < 8 → get_or r j (pos 0) ≡ get_or x (8 * row + j) (pos 0)) → line_entry r v ≡ row_entry x row v
unfolding line_entry row_entry
line_of_row x r row v same = same_sum 8 (λ j. get_or r j (pos 0) *ℤ walsh j v) (λ j. entry_at x row j *ℤ walsh j v) (λ j h. ap (λ z. z *ℤ walsh j v) (same j h))

length_and_entry : (x : List ℤ) (u j : ℕ) → u < 8 → j < 8 → entry_at (columns x) u j ≡ column_entry x u j
unfolding columns
length_and_entry x u j hu hj =
    let a : (8 * u + j) / 8 ≡ u = omega arith in
    let b : (8 * u + j) % 8 ≡ j = omega arith in
    entry_of_table (λ k. column_entry x (k / 8) (k % 8)) 64 (8 * u + j) (omega arith) ∙ rw (a, b) refl

-- the sums of the rows after those of the columns
column_part : (x : List ℤ) (u v j : ℕ) → u < 8 → v < 8 → j < 8 → column_entry x u j *ℤ walsh j v ≡ sum_below 8 (λ i. walsh j v *ℤ (entry_at x i j *ℤ walsh i u))
unfolding column_entry
column_part x u v j hu hv hj = *ℤ_comm (column_entry x u j) (walsh j v) ∙ signed_sum (walsh j v) (walsh_is_sign j v hj hv) 8 (λ i. entry_at x i j *ℤ walsh i u)

one_term : (x : List ℤ) (u v i j : ℕ) → u < 8 → v < 8 → i < 8 → j < 8 → walsh j v *ℤ (entry_at x i j *ℤ walsh i u) ≡ walsh u i *ℤ entry_at x i j *ℤ walsh j v
one_term x u v i j hu hv hi hj =
    ap (λ z. walsh j v *ℤ z) (*ℤ_comm (entry_at x i j) (walsh i u))
    ∙ *ℤ_comm (walsh j v) (walsh i u *ℤ entry_at x i j)
    ∙ ap (λ w. w *ℤ entry_at x i j *ℤ walsh j v) (walsh_symmetric i u hi hu)

rows_of_columns : (x : List ℤ) (u v : ℕ) → u < 8 → v < 8 → row_entry (columns x) u v ≡ coefficient x u v
unfolding row_entry coefficient
rows_of_columns x u v hu hv =
    same_sum 8 (λ j. entry_at (columns x) u j *ℤ walsh j v) (λ j. sum_below 8 (λ i. walsh j v *ℤ (entry_at x i j *ℤ walsh i u)))
    (λ j hj. ap (λ z. z *ℤ walsh j v) (length_and_entry x u j hu hj) ∙ column_part x u v j hu hv hj)
    ∙ exchanged 8 8 (λ j i. walsh j v *ℤ (entry_at x i j *ℤ walsh i u))
    ∙ same_sum 8 (λ i. sum_below 8 (λ j. walsh j v *ℤ (entry_at x i j *ℤ walsh i u))) (λ i. sum_below 8 (λ j. walsh u i *ℤ entry_at x i j *ℤ walsh j v))
    (λ i hi. same_sum 8 (λ j. walsh j v *ℤ (entry_at x i j *ℤ walsh i u)) (λ j. walsh u i *ℤ entry_at x i j *ℤ walsh j v) (λ j hj. one_term x u v i j hu hv hi hj))

pub whole : (x y z r : List ℤ) → ((c : ℕ) → c < 8 → row y c ≡ stage (stage (stage (column x c)))) → ((c : ℕ) → c < 8 → row z c ≡ stage (stage (stage (column y c)))) →
    ((u v : ℕ) → u < 8 → v < 8 → entry_at r u v ≡ entry_at z (order u) (order v)) → length r ≡ 64 → r ≡ transformed x
unfolding transformed
whole x y z r p q is long =
    table_is (λ k. coefficient x (k / 8) (k % 8)) 64 r long
    (λ k h.
    let e : k ≡ 8 * (k / 8) + k % 8 = omega arith in
    let hu : k / 8 < 8 = omega arith in
    let hv : k % 8 < 8 = omega arith in
    ap (λ j. get_or r j (pos 0)) e
    ∙ is (k / 8) (k % 8) hu hv
    ∙ turned_entry y z q (order (k / 8)) (k % 8) (order_below (k / 8) hu) hv
    ∙ line_of_row (columns x) (column y (order (k / 8))) (k / 8) (k % 8)
    (λ j hj.
    entry_of_column y (order (k / 8)) j hj
    ∙ turned_entry x y p j (k / 8) hj hu
    ∙ line_of_column x (column x j) (k / 8) j (λ i hi. entry_of_column x j i hi)
    ∙ sym (length_and_entry x (k / 8) j hu hj))
    ∙ rows_of_columns x (k / 8) (k % 8) hu hv)
