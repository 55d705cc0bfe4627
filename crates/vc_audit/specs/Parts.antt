-- The parts of an audit's input.
use Rattle.std.specs.Prelude.{ℕ, List}
use denote.Ref.{Bor}

-- the bytes that are looked at
abbrev pub now_of : Bor (List ℕ) → List ℕ
now_of bytes = bytes.now
