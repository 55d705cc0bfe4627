-- How the decoding of a coded stream ends.
use Rattle.std.specs.Prelude.{ℕ, ◌≡◌, ◌<◌, ◌^◌, ◌⊎◌, Bool, true, false, List, length, Option, Some}
use Rattle.std.specs.Io.KnownBytes.{Appends, IsAtEnd}
use Rattle.vc_base.specs.Counts.{Rose}
use Rattle.vc_defs.specs.Outputs.{decode_output, is_damaged_input}
use Rattle.vc_flow.specs.Inputs.{IsLong}
use Rattle.vc_io.specs.Written.{AppendsFront}
use Rattle.vc_top.specs.declared.status.Status.{Status}
use Rattle.vc_top.specs.declared.status.Status.TheVariants.{Fine, Usage, ReadFault, WriteFault, BadLine, Damaged, ShortRaw, EngineFault, TooLong, NotARun, NoMemory, BadMessage}
use Rattle.vc_top.specs.Engines.{OneRose}

-- The input was read to its end. It has a damaged frame or a byte in no frame, or has not, and all its good pictures were
-- written.
pub record AllDecoded (input : List ℕ) (damaged : Bool) (left old new : Option (List ℕ)) : Type 0 where
  pub read : IsAtEnd left
  pub damage : is_damaged_input input ≡ damaged
  pub written : Appends old new (decode_output input)

-- All good pictures were written where the decoding ends well, and where the input is damaged, else a prefix of them. After
-- TooLong 2^40 bytes of the input were read.
abbrev pub DecodeEnds : List ℕ → Option (List ℕ) → Option (List ℕ) → Option (List ℕ) → Status → Type 0
DecodeEnds input left old new Fine = AllDecoded input false left old new
DecodeEnds input left old new Damaged = AllDecoded input true left old new
DecodeEnds input left old new ReadFault = AppendsFront old new (decode_output input)
DecodeEnds input left old new WriteFault = AppendsFront old new (decode_output input)
DecodeEnds input left old new EngineFault = AppendsFront old new (decode_output input)
DecodeEnds input left old new NoMemory = AppendsFront old new (decode_output input)
DecodeEnds input left old new TooLong = IsLong (Some input) left × AppendsFront old new (decode_output input)
DecodeEnds input left old new Usage = ⊥
DecodeEnds input left old new (BadLine line) = ⊥
DecodeEnds input left old new ShortRaw = ⊥
DecodeEnds input left old new (NotARun line) = ⊥
DecodeEnds input left old new (BadMessage at) = ⊥

-- a coded stream without damage and without a byte in no frame, of less than 2^40 bytes
pub record IsGoodStream (input : List ℕ) : Type 0 where
  pub sound : is_damaged_input input ≡ false
  pub short : length input < 2 ^ 40
