-- Laws of the words of the command line.
use Rattle.std.specs.Prelude.{◌≡◌, ℕ, List, [], ◌∷◌, ◌++◌}
use Rattle.vc_words.specs.Commands.{command_of}

-- A name of an option, and the value that it is given.
pub record Pair : Type 0 where
  pub name : List ℕ
  pub value : List ℕ

-- pairs as words
abbrev pub words_of : List Pair → List (List ℕ)
words_of [] = []
words_of (pair ∷ pairs) = pair.name ∷ pair.value ∷ words_of pairs

-- The options of a command may stand in any order: neighbours may change places.
abbrev pub OrderIsFree : Type 0
OrderIsFree =
    (command : List ℕ) (front back : List Pair) (one two : Pair) → command_of (command ∷ words_of (front ++ one ∷ two ∷ back)) ≡ command_of (command ∷ words_of (front ++ two ∷ one ∷ back))
