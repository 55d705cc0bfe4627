-- The columns of a block, of which each lane of a vector has one.
use Rattle.std.specs.Prelude.{ℕ, List, [], ◌∷◌, ℤ, pos, get_or}
use Rattle.vc_defs.specs.Walsh.{entry_at}

-- the eight numbers of a column
abbrev pub column : List ℤ → ℕ → List ℤ
column x c = entry_at x 0 c ∷ entry_at x 1 c ∷ entry_at x 2 c ∷ entry_at x 3 c ∷ entry_at x 4 c ∷ entry_at x 5 c ∷ entry_at x 6 c ∷ entry_at x 7 c ∷ []

-- the numbers of the last stage in the order of the matrix
abbrev pub ordered : List ℤ → List ℤ
ordered s =
    let at : ℕ → ℤ = λ k. get_or s k (pos 0) in
    at 0 ∷ at 4 ∷ at 6 ∷ at 2 ∷ at 3 ∷ at 7 ∷ at 5 ∷ at 1 ∷ []
