-- How the list lies in two arrays: the waiting slots form a ring with one node more, the head, which stands
-- behind the n slots. A third array says of each slot whether it is in the ring.
use Rattle.std.specs.Prelude.{ℕ, zero, suc, ◌+◌, ◌≡◌, ◌<◌, ◌≤◌, Bool, false, nat_lt, cond, length, get_or, List, [], ◌∷◌}
use Rattle.vc_jobs.specs.Jobs.{waits}

-- the slots from the one after the node on, until the head comes
unfoldable pub walk : ℕ → List ℕ → ℕ → ℕ → List ℕ
walk n next node zero = []
walk n next node (suc steps) =
    cond (nat_lt (get_or next node 0) n) (get_or next node 0 ∷ walk n next (get_or next node 0) steps) []

-- the waiting slots of n
unfoldable pub ring : ℕ → List ℕ → List ℕ
ring n next = walk n next n n

-- the nodes lead from u over the slots to v, and back
unfoldable pub Path : ℕ → List ℕ → List ℕ → ℕ → List ℕ → ℕ → Type 0
Path n next prev u [] v = (get_or next u 0 ≡ v) × (get_or prev v 0 ≡ u)
Path n next prev u (k ∷ ks) v =
    (get_or next u 0 ≡ k) × ((get_or prev k 0 ≡ u) × ((k < n) × Path n next prev k ks v))

-- the arrays hold this list
pub record IsRing (n : ℕ) (next prev : List ℕ) (marks : List Bool) (waiting : List ℕ) : Type 0 where
  pub few : n ≤ 1024
  pub next_size : length next ≡ n + 1
  pub prev_size : length prev ≡ n + 1
  pub marks_size : length marks ≡ n
  pub path : Path n next prev n waiting n
  pub marked : (k : ℕ) → k < n → get_or marks k false ≡ waits waiting k
