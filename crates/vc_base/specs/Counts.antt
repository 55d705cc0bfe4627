-- Counts of faults and runs, by which it is told whether something outside failed (docs/PROOFS.md, "The program").
-- They never fall, and one that is kept in 64 bits stands still at its end.
use Rattle.std.specs.Prelude.{◌≡◌, ◌⊎◌, ℕ, ◌+◌, ◌<◌, ◌≤◌, min, Result, OnErr}

-- the greatest number of 64 bits
abbrev pub top_count : ℕ
top_count = 0xffff_ffff_ffff_ffff

-- the count after one more
abbrev pub next_count : ℕ → ℕ
next_count n = min (n + 1) top_count

-- the count rose by one, or stands at its end
abbrev pub OneMore : ℕ → ℕ → Type 0
OneMore before after = (after ≡ before + 1) ⊎ (top_count ≤ after)

-- the count rose, or stands at its end
abbrev pub Rose : ℕ → ℕ → Type 0
Rose before after = (before < after) ⊎ (top_count ≤ after)

-- the count of faults did not fall, and a failure raised it
pub record HasCause {T E : Type 0} (before after : ℕ) (result : Result T E) : Type 0 where
  pub never_falls : before ≤ after
  pub failed : OnErr result (Rose before after)
