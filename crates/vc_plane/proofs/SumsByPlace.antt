-- Sums over the places of a block, one place after the other. A sum over the places below a number grows by the term
-- of that place.
use Rattle.std.proofs.Common.{◌≡◌, ◌∙◌, sym, ap, ℕ, ◌+◌, ◌<◌, map, arith}
use Rattle.std.specs.Prelude.{sum, sum_by}
use Rattle.std.specs.List.{range_with_len}
use Rattle.std.proofs.lemmas.List.Sums.{sum-map, sum_by_push}
use Rattle.std.proofs.lemmas.List.FromFn.{map-range_with_len_more}
use Rattle.vc_block.proofs.BlockIsTaken.{entry_of_samples, length_of_samples, samples_are}

pub one_more : (f : ℕ → ℕ) (n : ℕ) → sum_by f (range_with_len 0 (n + 1)) ≡ sum_by f (range_with_len 0 n) + f n
one_more f n =
    sym (sum-map f (range_with_len 0 (n + 1))) ∙ ap sum (map-range_with_len_more f 0 n n (omega arith)) ∙ sum_by_push (λ x. x) (map f (range_with_len 0 n)) (f n)
    ∙ ap (λ t. t + f n) (sum-map f (range_with_len 0 n))

-- Two sums of the same numbers are the same.
pub same_sums : (f g : ℕ → ℕ) (n : ℕ) → ((k : ℕ) → k < n → f k ≡ g k) → sum_by f (range_with_len 0 n) ≡ sum_by g (range_with_len 0 n)
same_sums f g n same =
    sym (sum-map f (range_with_len 0 n)) ∙ ap sum (samples_are g n (map f (range_with_len 0 n)) (length_of_samples f n) (λ k h. entry_of_samples f n k h ∙ same k h))
    ∙ sum-map g (range_with_len 0 n)
