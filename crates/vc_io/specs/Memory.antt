-- What a source and a sink in memory hold.
use Rattle.std.specs.Prelude.{ℕ, ◌<◌, ◌≤◌, ◌⊎◌, List, length, Contains}

-- A source in memory: the bytes to come, the most that a call gives, the numbers of the calls that fail, and how
-- many calls and failures there were.
pub record Feed : Type 0 where
  pub left : List ℕ
  pub step : ℕ
  pub fails : List ℕ
  pub calls : ℕ
  pub faults : ℕ

-- A sink in memory: the bytes that were written, those of them that were handed on, the room for all of them, the most
-- that a call takes, the numbers of the calls that fail, and how many calls and failures there were.
pub record Store : Type 0 where
  pub written : List ℕ
  pub handed : List ℕ
  pub room : ℕ
  pub step : ℕ
  pub fails : List ℕ
  pub calls : ℕ
  pub faults : ℕ

-- a write of so many bytes is refused: its number is listed, or there are bytes and no room
abbrev pub IsRefused : Store → ℕ → Type 0
IsRefused s size = Contains s.fails s.calls ⊎ ((0 < size) × (s.room ≤ length s.written))
