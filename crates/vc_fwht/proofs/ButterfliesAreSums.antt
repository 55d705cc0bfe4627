-- Three stages of butterflies make the sums of a row. Each stage adds and subtracts the two halves of eight numbers,
-- and behind three of them each number is the sum of all eight with the signs of one column of the matrix.
use Rattle.std.proofs.Common.{◌≡◌, ◌∙◌, ap, ℕ, suc, zero, ◌*◌, ◌<◌, ◌≤◌, List, [], ◌∷◌, get_or, length, arith}
use Rattle.std.specs.Prelude.{ℤ, pos, ◌+ℤ◌, ◌-ℤ◌, ◌*ℤ◌}
use Rattle.std.specs.Int.{w32}
use Rattle.std.proofs.lemmas.Int.{ints}
use mir.Val.{to_z, of_z}
use Rattle.vc_defs.specs.Walsh.{sum_below, walsh}
use Rattle.vc_fwht.specs.Passes.{stage, line_entry, line}
use Rattle.vc_fwht.proofs.MachineSumsAreExact.{Within}

pub each_of_eight : (P : ℕ → Type 0) → P 0 → P 1 → P 2 → P 3 → P 4 → P 5 → P 6 → P 7 → (k : ℕ) → k < 8 → P k
each_of_eight P p0 p1 p2 p3 p4 p5 p6 p7 zero h = p0
each_of_eight P p0 p1 p2 p3 p4 p5 p6 p7 (suc zero) h = p1
each_of_eight P p0 p1 p2 p3 p4 p5 p6 p7 (suc (suc zero)) h = p2
each_of_eight P p0 p1 p2 p3 p4 p5 p6 p7 (suc (suc (suc zero))) h = p3
each_of_eight P p0 p1 p2 p3 p4 p5 p6 p7 (suc (suc (suc (suc zero)))) h = p4
each_of_eight P p0 p1 p2 p3 p4 p5 p6 p7 (suc (suc (suc (suc (suc zero))))) h = p5
each_of_eight P p0 p1 p2 p3 p4 p5 p6 p7 (suc (suc (suc (suc (suc (suc zero)))))) h = p6
each_of_eight P p0 p1 p2 p3 p4 p5 p6 p7 (suc (suc (suc (suc (suc (suc (suc zero))))))) h = p7
each_of_eight P p0 p1 p2 p3 p4 p5 p6 p7 (suc (suc (suc (suc (suc (suc (suc (suc n)))))))) h = absurd (omega arith)

sum_within : (n : ℕ) (a b : ℤ) → Within n a → Within n b → Within (2 * n) (a +ℤ b)
sum_within n a b p q = (omega (arith, ints), omega (arith, ints))

difference_within : (n : ℕ) (a b : ℤ) → Within n a → Within n b → Within (2 * n) (a -ℤ b)
difference_within n a b p q = (omega (arith, ints), omega (arith, ints))

-- A stage at most doubles the bound of the numbers.
pub stage_within : (n : ℕ) (x : List ℤ) → ((k : ℕ) → k < 8 → Within n (get_or x k (pos 0))) → (k : ℕ) → k < 8 → Within (2 * n) (get_or (stage x) k (pos 0))
stage_within n x h =
    let at : ℕ → ℤ = λ k. get_or x k (pos 0) in
    let plus : (i j : ℕ) → i < 8 → j < 8 → Within (2 * n) (get_or x i (pos 0) +ℤ get_or x j (pos 0)) = λ i j hi hj. sum_within n (get_or x i (pos 0)) (get_or x j (pos 0)) (h i hi) (h j hj) in
    let minus : (i j : ℕ) → i < 8 → j < 8 → Within (2 * n) (get_or x i (pos 0) -ℤ get_or x j (pos 0)) = λ i j hi hj. difference_within n (get_or x i (pos 0)) (get_or x j (pos 0)) (h i hi) (h j hj) in
    each_of_eight (λ k. Within (2 * n) (get_or (stage x) k (pos 0)))
    (plus 0 4 (omega arith) (omega arith)) (minus 0 4 (omega arith) (omega arith))
    (plus 1 5 (omega arith) (omega arith)) (minus 1 5 (omega arith) (omega arith))
    (plus 2 6 (omega arith) (omega arith)) (minus 2 6 (omega arith) (omega arith))
    (plus 3 7 (omega arith) (omega arith)) (minus 3 7 (omega arith) (omega arith))

-- A number in range is what its bits stand for.
pub read_back : (n : ℕ) (z : ℤ) → Within n z → n < 2147483648 → to_z w32 (of_z w32 z) ≡ z
read_back n z h small = omega (arith, ints)

-- the numbers of the third stage, in the order of the matrix
sum_0 : (r : List ℤ) → get_or (stage (stage (stage r))) 0 (pos 0) ≡ sum_below 8 (λ j. get_or r j (pos 0) *ℤ walsh j 0)
unfolding walsh
sum_0 r = omega (arith, ints)

sum_1 : (r : List ℤ) → get_or (stage (stage (stage r))) 4 (pos 0) ≡ sum_below 8 (λ j. get_or r j (pos 0) *ℤ walsh j 1)
unfolding walsh
sum_1 r = omega (arith, ints)

sum_2 : (r : List ℤ) → get_or (stage (stage (stage r))) 6 (pos 0) ≡ sum_below 8 (λ j. get_or r j (pos 0) *ℤ walsh j 2)
unfolding walsh
sum_2 r = omega (arith, ints)

sum_3 : (r : List ℤ) → get_or (stage (stage (stage r))) 2 (pos 0) ≡ sum_below 8 (λ j. get_or r j (pos 0) *ℤ walsh j 3)
unfolding walsh
sum_3 r = omega (arith, ints)

sum_4 : (r : List ℤ) → get_or (stage (stage (stage r))) 3 (pos 0) ≡ sum_below 8 (λ j. get_or r j (pos 0) *ℤ walsh j 4)
unfolding walsh
sum_4 r = omega (arith, ints)

sum_5 : (r : List ℤ) → get_or (stage (stage (stage r))) 7 (pos 0) ≡ sum_below 8 (λ j. get_or r j (pos 0) *ℤ walsh j 5)
unfolding walsh
sum_5 r = omega (arith, ints)

sum_6 : (r : List ℤ) → get_or (stage (stage (stage r))) 5 (pos 0) ≡ sum_below 8 (λ j. get_or r j (pos 0) *ℤ walsh j 6)
unfolding walsh
sum_6 r = omega (arith, ints)

sum_7 : (r : List ℤ) → get_or (stage (stage (stage r))) 1 (pos 0) ≡ sum_below 8 (λ j. get_or r j (pos 0) *ℤ walsh j 7)
unfolding walsh
sum_7 r = omega (arith, ints)

-- The third stage, read in the order of the matrix, has the sums of eight numbers.
pub line_by_stages : (r s : List ℤ) → s ≡ stage (stage (stage r)) →
    ◌≡◌ {A = List ℤ} (get_or s 0 (pos 0) ∷ get_or s 4 (pos 0) ∷ get_or s 6 (pos 0) ∷ get_or s 2 (pos 0) ∷ get_or s 3 (pos 0) ∷ get_or s 7 (pos 0) ∷ get_or s 5 (pos 0) ∷ get_or s 1 (pos 0) ∷ []) (line r)
unfolding line line_entry
line_by_stages r s is =
    let e : (k v : ℕ) → get_or (stage (stage (stage r))) k (pos 0) ≡ sum_below 8 (λ j. get_or r j (pos 0) *ℤ walsh j v) → get_or s k (pos 0) ≡ sum_below 8 (λ j. get_or r j (pos 0) *ℤ walsh j v) =
    λ k v h. ap (λ t. get_or t k (pos 0)) is ∙ h in
    cc (e 0 0 (sum_0 r), e 4 1 (sum_1 r), e 6 2 (sum_2 r), e 2 3 (sum_3 r), e 3 4 (sum_4 r), e 7 5 (sum_5 r), e 5 6 (sum_6 r), e 1 7 (sum_7 r))

-- The third stage, read in the order of the matrix, is the line of eight numbers.
pub stages_are_line : (r s : List ℤ) → s ≡ stage (stage (stage r)) → ((k : ℕ) → k < 8 → to_z w32 (of_z w32 (get_or s k (pos 0))) ≡ get_or s k (pos 0)) →
    ◌≡◌ {A = List ℤ} (to_z w32 (of_z w32 (get_or s 0 (pos 0))) ∷ to_z w32 (of_z w32 (get_or s 4 (pos 0))) ∷ to_z w32 (of_z w32 (get_or s 6 (pos 0))) ∷ to_z w32 (of_z w32 (get_or s 2 (pos 0))) ∷ to_z w32 (of_z w32 (get_or s 3 (pos 0))) ∷ to_z w32
    (of_z w32 (get_or s 7 (pos 0))) ∷ to_z w32 (of_z w32 (get_or s 5 (pos 0))) ∷ to_z w32 (of_z w32 (get_or s 1 (pos 0))) ∷ []) (line r)
unfolding line line_entry
stages_are_line r s is back =
    let e : (k v : ℕ) → k < 8 → get_or (stage (stage (stage r))) k (pos 0) ≡ sum_below 8 (λ j. get_or r j (pos 0) *ℤ walsh j v) → to_z w32 (of_z w32 (get_or s k (pos 0))) ≡ sum_below 8 (λ j. get_or r j (pos 0) *ℤ walsh j v) =
    λ k v hk h. back k hk ∙ ap (λ t. get_or t k (pos 0)) is ∙ h in
    cc (e 0 0 (omega arith) (sum_0 r), e 4 1 (omega arith) (sum_1 r), e 6 2 (omega arith) (sum_2 r), e 2 3 (omega arith) (sum_3 r), e 3 4 (omega arith) (sum_4 r), e 7 5 (omega arith) (sum_5 r), e 5 6 (omega arith) (sum_6 r), e 1 7 (omega arith) (sum_7 r))

weaker : (n m : ℕ) (z : ℤ) → n ≤ m → Within n z → Within m z
weaker n m z le h = (omega (arith, ints), omega (arith, ints))

-- The numbers of a stage are in the range of the next one.
pub stage_allowed : (n m : ℕ) (r s : List ℤ) → s ≡ stage r → ((k : ℕ) → k < 8 → Within n (get_or r k (pos 0))) → 2 * n ≤ m → (k : ℕ) → k < length s → Within m (get_or s k (pos 0))
stage_allowed n m r s is h le k hk =
    let e : length s ≡ 8 = ap length is in
    rw is (weaker (2 * n) m (get_or (stage r) k (pos 0)) le (stage_within n r h k (omega arith)))
