-- What an engine that fails at chosen runs is.
use Rattle.std.specs.Prelude.{◌≡◌, ℕ, ◌+◌, min, List, slice_index, SomeIndex}
use Rattle.vc_base.specs.Counts.{top_count}

-- The numbers of the runs that fail, how many runs there were so far, how many of them failed by the list, and the inner engine.
pub record Failing (E : Type 0) : Type 0 where
  pub fails : List ℕ
  pub calls : ℕ
  pub own : ℕ
  pub inner : E

-- the run with this number is listed
abbrev pub FailsAt : List ℕ → ℕ → Type 0
FailsAt fails run = SomeIndex fails (λ at. slice_index fails at ≡ run)

-- the faults of both engines, as far as they can be counted
abbrev pub all_faults : ℕ → ℕ → ℕ
all_faults own inner = min (own + inner) top_count
