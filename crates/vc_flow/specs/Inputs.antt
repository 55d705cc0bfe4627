-- How much of its input a flow read.
use Rattle.std.specs.Prelude.{ℕ, ◌≡◌, ◌+◌, ◌≤◌, ◌<◌, ◌^◌, length, Option, Some, None, List, ◌++◌, ⊤}

-- the most bytes of an input
abbrev pub most_input : ℕ
most_input = 2 ^ 40

-- so many bytes of the input were read
abbrev pub IsLong : Option (List ℕ) → Option (List ℕ) → Type 0
IsLong None left_now = ⊤
IsLong (Some input) None = ⊥
IsLong (Some input) (Some rest) = most_input + length rest ≤ length input

-- fewer bytes of it were read than an input may have
abbrev pub IsBelow : Option (List ℕ) → Option (List ℕ) → Type 0
IsBelow None left_now = ⊤
IsBelow (Some input) None = ⊥
IsBelow (Some input) (Some rest) = length input < most_input + length rest

-- so many bytes were read that an input with as many is too long, and less than `room` more
abbrev pub IsJustLong : ℕ → Option (List ℕ) → Option (List ℕ) → Type 0
IsJustLong room None left_now = ⊤
IsJustLong room (Some input) None = ⊥
IsJustLong room (Some input) (Some rest) =
    (most_input + length rest ≤ length input) × (length input < most_input + room + length rest)

-- the input begins with these bytes, where it is known
abbrev pub BeginsWith : Option (List ℕ) → List ℕ → Type 0
BeginsWith None bytes = ⊤
BeginsWith (Some input) bytes = (more : List ℕ) × (input ≡ bytes ++ more)
