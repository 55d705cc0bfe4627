-- How the functions of this crate cut a text and add up a payload. Nothing outside the crate is said in these words.
use Rattle.std.specs.Prelude.{ℕ, ◌≡◌, ◌==◌, ◌+◌, ◌≤◌, ◌<◌, if◌then◌else◌, List, [], ◌∷◌, ◌++◌, length, Option, Some, None, Result, Ok, Err, Vec, ⊤}
use Rattle.std.specs.List.{slice_split}
use Rattle.std.specs.declared.alloc.Global.{Global}
use denote.Ref.{Bor}
use Rattle.vc_script.specs.declared.line.LineFault.{LineFault}
use Rattle.vc_script.specs.declared.line.LineFault.TheVariants.{Bad, NoMemory}
use Rattle.vc_script.specs.Words.{not_empty}
use Rattle.vc_base.specs.Limits.{longest_payload}

-- the parts of what follows a separator, and none where none follows
abbrev pub rest_of_parts : ℕ → Option (Bor (List ℕ)) → List (List ℕ)
rest_of_parts separator None = []
rest_of_parts separator (Some after) = slice_split (λ b. b == separator) after.now

-- a part that isn't empty is a word
abbrev pub first_word_or_rest : List ℕ → List (List ℕ) → List (List ℕ)
first_word_or_rest part words = if not_empty part then part ∷ words else words

-- the bytes of the vector are the meaning, or the answer says that there is none, or that memory was refused
abbrev pub ReadsVec : Option (List ℕ) → Result (Vec ℕ Global) LineFault → Type 0
ReadsVec meaning (Ok v) = meaning ≡ Some v.items
ReadsVec meaning (Err Bad) = meaning ≡ None
ReadsVec meaning (Err NoMemory) = ⊤

-- a piece was added behind the bytes, or can't be: it is none, or the whole gets too long
abbrev pub AddsPiece : Option (List ℕ) → List ℕ → List ℕ → Result (Unit {0}) LineFault → Type 0
AddsPiece piece old new (Ok r) = (b : List ℕ) × (piece ≡ Some b) × (new ≡ old ++ b) × (length new ≤ longest_payload)
AddsPiece None old new (Err Bad) = ⊤
AddsPiece (Some b) old new (Err Bad) = longest_payload < length old + length b
AddsPiece piece old new (Err NoMemory) = ⊤
