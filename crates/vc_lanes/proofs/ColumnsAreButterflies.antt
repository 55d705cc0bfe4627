-- A stage over whole rows is a stage in each column. A lane has a column, and each sum or difference of two rows is
-- that of their entries lane by lane, so the eight writes of a stage are the eight sums of each column.
use Rattle.std.proofs.Common.{◌≡◌, ◌∙◌, sym, ap, refl, ℕ, ◌+◌, ◌*◌, ◌/◌, ◌%◌, ◌<◌, ◌≤◌, List, length, get_or, arith}
use Rattle.std.specs.Prelude.{ℤ, pos}
use Rattle.std.proofs.lemmas.Int.{ints}
use Rattle.vc_defs.specs.Walsh.{entry_at}
use Rattle.vc_fwht.specs.Passes.{stage, line, columns}
use Rattle.vc_fwht.proofs.MachineSumsAreExact.{Within}
use Rattle.vc_fwht.proofs.ButterfliesAreSums.{each_of_eight, stage_within, line_by_stages}
use Rattle.vc_fwht.proofs.TwoPassesAreTheTransform.{line_at, line_of_column, columns_is}
use Rattle.vc_lanes.specs.Rows.{column, ordered}

pub column_at : (x : List ℤ) (c u : ℕ) → u < 8 → get_or (column x c) u (pos 0) ≡ entry_at x u c
column_at x c u h = each_of_eight (λ u. get_or (column x c) u (pos 0) ≡ entry_at x u c) refl refl refl refl refl refl refl refl u h

pub entry_is : (y : List ℤ) (k : ℕ) → get_or y k (pos 0) ≡ entry_at y (k / 8) (k % 8)
entry_is y k = let e : k ≡ 8 * (k / 8) + k % 8 = omega arith in ap (λ j. get_or y j (pos 0)) e

column_within : (n : ℕ) (x : List ℤ) (c : ℕ) → c < 8 → ((k : ℕ) → k < 64 → Within n (get_or x k (pos 0))) → (u : ℕ) → u < 8 → Within n (get_or (column x c) u (pos 0))
column_within n x c hc h u hu = rw (column_at x c u hu) (h (8 * u + c) (omega arith))

-- A stage at most doubles the bound of a block.
pub block_within : (n : ℕ) (x y : List ℤ) → ((c : ℕ) → c < 8 → column y c ≡ stage (column x c)) → ((k : ℕ) → k < 64 → Within n (get_or x k (pos 0))) → (k : ℕ) → k < 64 → Within (2 * n) (get_or y k (pos 0))
block_within n x y is h k hk =
    let e : get_or y k (pos 0) ≡ get_or (stage (column x (k % 8))) (k / 8) (pos 0) =
    entry_is y k ∙ sym (column_at y (k % 8) (k / 8) (omega arith)) ∙ ap (λ t. get_or t (k / 8) (pos 0)) (is (k % 8) (omega arith)) in
    rw e (stage_within n (column x (k % 8)) (column_within n x (k % 8) (omega arith) h) (k / 8) (omega arith))

pub allowed : (n m : ℕ) (y : List ℤ) → length y ≡ 64 → ((k : ℕ) → k < 64 → Within n (get_or y k (pos 0))) → n ≤ m → (k : ℕ) → k < length y → Within m (get_or y k (pos 0))
allowed n m y long h le k hk = let w : Within n (get_or y k (pos 0)) = h k (omega arith) in (omega (arith, ints), omega (arith, ints))

-- Three stages in each column make the sums of the columns.
pub columns_by_stages : (x a b y : List ℤ) → length y ≡ 64 → ((c : ℕ) → c < 8 → column a c ≡ stage (column x c)) → ((c : ℕ) → c < 8 → column b c ≡ stage (column a c)) → ((c : ℕ) → c < 8 → column y c ≡ ordered (stage (column b c))) → y ≡ columns x
columns_by_stages x a b y long p q r =
    columns_is x y long
    (λ k hk.
    let c : ℕ = k % 8 in
    let hc : k % 8 < 8 = omega arith in
    let hu : k / 8 < 8 = omega arith in
    let stages : stage (column b (k % 8)) ≡ stage (stage (stage (column x (k % 8)))) = ap stage (q (k % 8) hc ∙ ap stage (p (k % 8) hc)) in
    let is : column y (k % 8) ≡ line (column x (k % 8)) = r (k % 8) hc ∙ line_by_stages (column x (k % 8)) (stage (column b (k % 8))) stages in
    entry_is y k ∙ sym (column_at y (k % 8) (k / 8) hu) ∙ ap (λ t. get_or t (k / 8) (pos 0)) is
    ∙ line_at (column x (k % 8)) (k / 8) hu
    ∙ line_of_column x (column x (k % 8)) (k / 8) (k % 8) (λ i hi. column_at x (k % 8) i hi))
