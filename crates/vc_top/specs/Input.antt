-- What was read of an input that has a bound.
use Rattle.std.specs.Prelude.{ℕ, ◌≡◌, ◌+◌, ◌≤◌, List, length, Option}
use Rattle.std.specs.Io.KnownBytes.{Consumes, IsAtEnd}
use Rattle.vc_top.specs.declared.input.ReadStop.{ReadStop}
use Rattle.vc_top.specs.declared.input.ReadStop.TheVariants.{ReadFault, TooLong}

-- the source had this input, of so many bytes at most, and it is at its end
pub record WasRead (most : ℕ) (old new : Option (List ℕ)) (input : List ℕ) : Type 0 where
  pub read : Consumes old new input
  pub end : IsAtEnd new
  pub short : length input ≤ most

-- Reading stopped. Too long is one byte more than an input may have, and never more was read. A read fails while the
-- input isn't too long.
pub record Stopped (most : ℕ) (old new : Option (List ℕ)) (stop : ReadStop) : Type 0 where
  pub bytes : List ℕ
  pub read : Consumes old new bytes
  pub short : length bytes ≤ most + 1
  pub long : stop ≡ TooLong → length bytes ≡ most + 1
  pub fault : stop ≡ ReadFault → length bytes ≤ most
