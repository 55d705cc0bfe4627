-- How far a magic has come in bytes: docs/FORMAT.md, "Frame places".
use Rattle.std.specs.Prelude.{◌≡◌, ℕ, ◌-◌, ◌<◌, ◌≤◌, List, ◌++◌, length, take, nat_lt, if◌then◌else◌}
use Rattle.std.specs.declared.option.Option.TheVariants.{Some, None}
use Rattle.vc_defs.specs.Headers.{magic}
use Rattle.vc_defs.specs.Places.{first_magic, start_of_magic}

-- The longest end of the bytes that is a prefix of the magic has so many bytes; and where it has all eight, no magic stands
-- before it, else none stands in the bytes.
pub record Matches (bytes : List ℕ) (matched : ℕ) : Type 0 where
  pub most : matched ≤ 8
  pub start : start_of_magic bytes ≡ take matched magic
  pub first : first_magic bytes ≡ (if nat_lt matched 8 then None else Some (length bytes - 8))

-- behind `matched` bytes of a magic, `count` bytes were gone over: up to the end of a magic, or all of them
pub record Sought (matched : ℕ) (bytes : List ℕ) (count now : ℕ) : Type 0 where
  pub inside : count ≤ length bytes
  pub matches : Matches (take matched magic ++ take count bytes) now
  pub all : now < 8 → count ≡ length bytes
