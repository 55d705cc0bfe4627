-- How the encoding of raw pictures ends.
use Rattle.std.specs.Prelude.{ℕ, ◌≡◌, ◌<◌, ◌^◌, ◌⊎◌, Bool, true, false, List, length, Option, Some}
use Rattle.std.specs.Io.KnownBytes.{Appends, IsAtEnd}
use Rattle.vc_base.specs.Counts.{Rose}
use Rattle.vc_defs.specs.Encoder.{RunRates}
use Rattle.vc_defs.specs.Outputs.{encode_output, encode_count, is_short_raw}
use Rattle.vc_flow.specs.Inputs.{IsLong}
use Rattle.vc_io.specs.Written.{AppendsFront}
use Rattle.vc_words.specs.declared.command.RateOptions.{RateOptions}
use Rattle.vc_words.specs.declared.command.EncodeOptions.{EncodeOptions}
use Rattle.vc_top.specs.declared.status.Status.{Status}
use Rattle.vc_top.specs.declared.status.Status.TheVariants.{Fine, Usage, ReadFault, WriteFault, BadLine, Damaged, ShortRaw, EngineFault, TooLong, NotARun, NoMemory, BadMessage}
use Rattle.vc_top.specs.Engines.{OneRose}

abbrev pub rates_in : RateOptions → RunRates
rates_in rates = record { gop = rates.gop; iqp = rates.iqp; pqp = rates.pqp }

-- the frames of the whole pictures of an input
abbrev pub frames_of : EncodeOptions → List ℕ → List ℕ
frames_of options input =
    encode_output options.format.fourcc options.format.width options.format.height (rates_in options.rates) input

-- how many these are
abbrev pub frame_count : EncodeOptions → List ℕ → ℕ
frame_count options input =
    encode_count options.format.fourcc options.format.width options.format.height (rates_in options.rates) input

-- an input ends inside a picture
abbrev pub ends_inside : EncodeOptions → List ℕ → Bool
ends_inside options input =
    is_short_raw options.format.fourcc options.format.width options.format.height input

-- The input was read to its end, which is inside a picture or isn't, and all its frames were written.
pub record AllEncoded (options : EncodeOptions) (input : List ℕ) (inside : Bool) (left old new : Option (List ℕ)) : Type 0 where
  pub read : IsAtEnd left
  pub ends : ends_inside options input ≡ inside
  pub written : Appends old new (frames_of options input)

-- All frames were written where the encoding ends well, and where the input ends inside a picture, else a prefix of them. After
-- TooLong 2^40 bytes of the input were read.
abbrev pub EncodeEnds : EncodeOptions → List ℕ → Option (List ℕ) → Option (List ℕ) → Option (List ℕ) → Status → Type 0
EncodeEnds options input left old new Fine = AllEncoded options input false left old new
EncodeEnds options input left old new ShortRaw = AllEncoded options input true left old new
EncodeEnds options input left old new ReadFault = AppendsFront old new (frames_of options input)
EncodeEnds options input left old new WriteFault = AppendsFront old new (frames_of options input)
EncodeEnds options input left old new EngineFault = AppendsFront old new (frames_of options input)
EncodeEnds options input left old new NoMemory = AppendsFront old new (frames_of options input)
EncodeEnds options input left old new TooLong =
    IsLong (Some input) left × AppendsFront old new (frames_of options input)
EncodeEnds options input left old new Usage = ⊥
EncodeEnds options input left old new (BadLine line) = ⊥
EncodeEnds options input left old new (NotARun line) = ⊥
EncodeEnds options input left old new (BadMessage at) = ⊥
EncodeEnds options input left old new Damaged = ⊥

-- whole pictures, and less than 2^40 bytes
pub record IsGoodRaw (options : EncodeOptions) (input : List ℕ) : Type 0 where
  pub whole : ends_inside options input ≡ false
  pub short : length input < 2 ^ 40
