-- What was written of bytes that are to be written.
use Rattle.std.specs.Prelude.{ℕ, ◌≡◌, Option, List, ◌++◌}
use Rattle.std.specs.Io.KnownBytes.{Appends}

-- The first bytes were written, and the others are still to be.
pub record IsPassedOn (old new : Option (List ℕ)) (before now : List ℕ) : Type 0 where
  pub sent : List ℕ
  pub written : Appends old new sent
  pub all : sent ++ now ≡ before
