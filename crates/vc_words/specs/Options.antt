-- Words as pairs of a name and a value, and what a name is given there: docs/FORMAT.md, "Words".
use Rattle.std.specs.Prelude.{ℕ, ◌&&◌, not, nat_le, Bool, true, false, if◌then◌else◌, List, [], ◌∷◌, length, codes, bytes_eq, Option, Some, None, is_some}
use Rattle.std.specs.List.{list_any}
use Rattle.vc_script.specs.Fields.{number_of}
use Rattle.vc_words.specs.declared.options.Name.{Name}
use Rattle.vc_words.specs.declared.options.Name.TheVariants.{Slots, Format, Width, Height, Gop, Iqp, Pqp, Workers, Pictures, Number, Contexts}
use Rattle.vc_words.specs.declared.options.NumberOption.{NumberOption}

abbrev pub name_text : Name → List ℕ
name_text Slots = codes "--slots"
name_text Format = codes "--format"
name_text Width = codes "--width"
name_text Height = codes "--height"
name_text Gop = codes "--gop"
name_text Iqp = codes "--iqp"
name_text Pqp = codes "--pqp"
name_text Workers = codes "--workers"
name_text Pictures = codes "--pictures"
name_text Number = codes "--number"
name_text Contexts = codes "--contexts"

-- the word is one of the names
abbrev pub is_known : List Name → List ℕ → Bool
is_known names word = list_any (λ name. bytes_eq (name_text name) word) names

-- the value of the first pair with the name
abbrev pub value_of : List ℕ → List (List ℕ) → Option (List ℕ)
value_of name [] = None
value_of name (word ∷ []) = None
value_of name (word ∷ value ∷ more) = if bytes_eq word name then Some value else value_of name more

-- the word is one of the names, and does not come again
abbrev pub is_single : List Name → List ℕ → List (List ℕ) → Bool
is_single names word more = is_known names word && not (is_some (value_of word more))

-- The words are pairs of a name and a value. Each name is one of these, and none comes again.
abbrev pub are_options : List Name → List (List ℕ) → Bool
are_options names [] = true
are_options names (word ∷ []) = false
are_options names (word ∷ value ∷ more) = is_single names word more && are_options names more

abbrev pub at_least : ℕ → Option ℕ → Option ℕ
at_least least None = None
at_least least (Some n) = if nat_le least n then Some n else None

-- a number of 1 to 10 decimal digits, leading zeros too, in the range
abbrev pub number_between : ℕ → ℕ → List ℕ → Option ℕ
number_between least most word = if nat_le (length word) 10 then at_least least (number_of most word) else None

-- the number in a value, and what counts where there is no value
abbrev pub number_in : NumberOption → Option (List ℕ) → Option ℕ
number_in option None = Some option.unnamed
number_in option (Some word) = number_between option.least option.most word

-- the number that an option is given
abbrev pub number_for : NumberOption → List (List ℕ) → Option ℕ
number_for option options = number_in option (value_of (name_text option.name) options)
