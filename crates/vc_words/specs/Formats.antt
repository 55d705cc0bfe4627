-- The raw format that options ask for.
use Rattle.std.specs.Prelude.{ℕ, ◌&&◌, nat_le, nat_eq, Bool, if◌then◌else◌, List, length, Option, Some, None}
use Rattle.vc_base.specs.declared.Fourcc.{Fourcc}
use Rattle.vc_base.specs.declared.Format.{Format}
use Rattle.vc_base.specs.declared.Kind.TheVariants.{Enc}
use Rattle.vc_base.specs.declared.Side.TheVariants.{Out}
use Rattle.vc_defs.specs.Raw.{yu12, same_fourcc}
use Rattle.vc_model.specs.Formats.{formats_at_open, formats_for}
use Rattle.vc_script.specs.Optional.{◌>>=◌}
use Rattle.vc_words.specs.declared.options.Name.TheVariants as names
use Rattle.vc_words.specs.declared.options.NumberOption.{NumberOption}
use Rattle.vc_words.specs.Options.{name_text, value_of, number_for}

abbrev pub width_option : NumberOption
width_option = record { name = names.Width; least = 16; most = 4096; unnamed = 352 }

abbrev pub height_option : NumberOption
height_option = record { name = names.Height; least = 16; most = 2160; unnamed = 288 }

-- a word of four bytes
abbrev pub fourcc_word : List ℕ → Option Fourcc
fourcc_word word = if nat_le 4 (length word) && nat_le (length word) 4 then Some (record { 0 = word }) else None

abbrev pub fourcc_in : Option (List ℕ) → Option Fourcc
fourcc_in None = Some yu12
fourcc_in (Some word) = fourcc_word word

-- the fourcc that options name
abbrev pub fourcc_for : List (List ℕ) → Option Fourcc
fourcc_for options = fourcc_in (value_of (name_text names.Format) options)

-- what an encoder's OUTPUT is set to that is asked for this
abbrev pub encoder_format : Fourcc → ℕ → ℕ → Format
encoder_format fourcc width height =
    (formats_for Enc Out (formats_at_open Enc) (record { fourcc = fourcc; width = width; height = height; size = 0 })).out

-- the format is what was asked for
abbrev pub is_as_asked : Fourcc → ℕ → ℕ → Format → Bool
is_as_asked fourcc width height format =
    same_fourcc format.fourcc fourcc && nat_eq format.width width && nat_eq format.height height

-- the raw format, where an encoder that is asked for it changes nothing
abbrev pub kept_format : Fourcc → ℕ → ℕ → Option Format
kept_format fourcc width height =
    if is_as_asked fourcc width height (encoder_format fourcc width height) then Some (encoder_format fourcc width height) else None

-- the raw format of a fourcc with the size that options ask for
abbrev pub sized_format : Fourcc → List (List ℕ) → Option Format
sized_format fourcc options =
    number_for width_option options >>= (λ width. number_for height_option options >>= (λ height. kept_format fourcc width height))

-- the raw format that options ask for
abbrev pub format_for : List (List ℕ) → Option Format
format_for options = fourcc_for options >>= (λ fourcc. sized_format fourcc options)
