-- A list that is filled place by place with the values of a function ends as the table of that function. One more
-- place is filled at each turn, and the others stay.
use Rattle.std.proofs.Common.{◌≡◌, ◌≢◌, ◌∙◌, sym, ℕ, ◌+◌, ◌<◌, List, length, get_or, set, map, arith, get_or-set_other, get_or-set_same, below_more, ap}
use Rattle.std.specs.Prelude.{ℤ, pos}
use Rattle.std.specs.List.{range_with_len}
use Rattle.std.proofs.lemmas.List.{ext_get_or, get_or-map, length-map}
use Rattle.std.proofs.lemmas.List.FromFn.{length-range_with_len, get_or-range_with_len}

-- The numbers below a bound are filled in by f.
abbrev pub FilledBelow : (ℕ → ℤ) → ℕ → List ℤ → Type 0
FilledBelow f n xs = (k : ℕ) → k < n → get_or xs k (pos 0) ≡ f k

-- One place more is filled in.
pub filled_more : (f : ℕ → ℤ) (xs : List ℤ) (i : ℕ) (v : ℤ) → FilledBelow f i xs → i < length xs → v ≡ f i → FilledBelow f (i + 1) (set xs i v)
filled_more f xs i v below fits is =
    below_more _ _
    (λ k h. let ne : k ≢ i = omega arith in rw get_or-set_other (below k h))
    (rw get_or-set_same is)

-- The entry of a list that is made by a function of the place.
pub entry_of_table : (f : ℕ → ℤ) (n k : ℕ) → k < n → get_or (map f (range_with_len 0 n)) k (pos 0) ≡ f k
entry_of_table f n k h =
    let inside : k < length (range_with_len 0 n) = rw length-range_with_len h in
    get_or-map f (range_with_len 0 n) k 0 (pos 0) inside
    ∙ ap f (get_or-range_with_len 0 n k 0 h ∙ omega arith)

pub length_of_table : (f : ℕ → ℤ) (n : ℕ) → length (map f (range_with_len 0 n)) ≡ n
length_of_table f n = length-map (range_with_len 0 n) f ∙ length-range_with_len 0 n

-- A list that is filled in whole is that table.
pub table_is : (f : ℕ → ℤ) (n : ℕ) (xs : List ℤ) → length xs ≡ n → FilledBelow f n xs → xs ≡ map f (range_with_len 0 n)
table_is f n xs long filled =
    ext_get_or (pos 0) xs (map f (range_with_len 0 n)) (long ∙ sym (length_of_table f n))
    (λ k h. let h' : k < n = omega arith in filled k h' ∙ sym (entry_of_table f n k h'))
