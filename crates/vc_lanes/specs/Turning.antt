-- The columns and the rows of a block, as lists of eight numbers.
use Rattle.std.specs.Prelude.{ℕ, ◌+◌, ◌*◌, List, [], ◌∷◌, ℤ, pos, get_or}

-- eight numbers of a block
abbrev pub eight : List ℤ → ℕ → ℕ → ℕ → ℕ → ℕ → ℕ → ℕ → ℕ → List ℤ
eight x a b c d e f g h =
    let at : ℕ → ℤ = λ k. get_or x k (pos 0) in
    at a ∷ at b ∷ at c ∷ at d ∷ at e ∷ at f ∷ at g ∷ at h ∷ []

abbrev pub column : List ℤ → ℕ → List ℤ
column x c = eight x c (8 + c) (16 + c) (24 + c) (32 + c) (40 + c) (48 + c) (56 + c)

abbrev pub row : List ℤ → ℕ → List ℤ
row x r = eight x (8 * r) (8 * r + 1) (8 * r + 2) (8 * r + 3) (8 * r + 4) (8 * r + 5) (8 * r + 6) (8 * r + 7)

-- where the number of a column of the matrix stands after three stages
abbrev pub order : ℕ → ℕ
order k = get_or (0 ∷ 4 ∷ 6 ∷ 2 ∷ 3 ∷ 7 ∷ 5 ∷ 1 ∷ []) k 0

-- what stands at a place of a block
abbrev pub place : List ℤ → ℕ → ℤ
place x k = get_or x k (pos 0)
