-- What the lines of a script ask for.
use Rattle.std.specs.Prelude.{ℕ, Option, Some, None, List, [], ◌∷◌}
use Rattle.std.specs.Option.{option_map}
use Rattle.vc_script.specs.declared.line.Line.{Line}
use Rattle.vc_script.specs.declared.line.Line.TheVariants as lines
use Rattle.vc_script.specs.Lines.{line_of}
use Rattle.vc_model.specs.Script.{Asked, AsksNothing, AsksCall, AsksClaim, AsksFinish, AsksRun, IsAsked}

-- what a line asks for
abbrev pub asked_of : Option Line → Asked
asked_of None = AsksNothing
asked_of (Some (lines.Call slot request bytes)) = AsksCall slot request bytes
asked_of (Some (lines.Claim worker)) = AsksClaim worker
asked_of (Some (lines.Finish worker)) = AsksFinish worker
asked_of (Some (lines.Run worker)) = AsksRun worker

-- what a line asks for, among so many slots; none where the line is bad
abbrev pub asks_line : ℕ → List ℕ → Option Asked
asks_line slots line = option_map asked_of (line_of slots line)

abbrev pub with_rest : Option Asked → Option (List Asked) → Option (List Asked)
with_rest None rest = None
with_rest (Some asked) None = None
with_rest (Some asked) (Some rest) = Some (asked ∷ rest)

-- what the lines of a script ask for; none where one of them is bad
abbrev pub asks_lines : ℕ → List (List ℕ) → Option (List Asked)
asks_lines slots [] = Some []
asks_lines slots (line ∷ rest) = with_rest (asks_line slots line) (asks_lines slots rest)

-- what a line may ask for among n slots
abbrev pub IsAskedLine : ℕ → Option Line → Type 0
IsAskedLine n line = IsAsked n (asked_of line)
