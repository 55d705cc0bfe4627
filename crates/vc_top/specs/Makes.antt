-- How the making of pictures ends.
use Rattle.std.specs.Prelude.{ℕ, ◌≡◌, List, Option}
use Rattle.std.specs.Io.KnownBytes.{Appends}
use Rattle.vc_defs.specs.Outputs.{make_output}
use Rattle.vc_io.specs.Written.{AppendsFront}
use Rattle.vc_words.specs.declared.command.MakeOptions.{MakeOptions}
use Rattle.vc_top.specs.declared.status.Status.{Status}
use Rattle.vc_top.specs.declared.status.Status.TheVariants.{Fine, Usage, ReadFault, WriteFault, BadLine, Damaged, ShortRaw, EngineFault, TooLong, NotARun, NoMemory, BadMessage}

-- the pictures that the options ask for
abbrev pub pictures_of : MakeOptions → List ℕ
pictures_of options = make_output options.format.fourcc options.format.width options.format.height options.pictures options.number

-- All pictures were written, or a prefix of them, or nothing, out of memory.
abbrev pub MakeEnds : MakeOptions → Option (List ℕ) → Option (List ℕ) → Status → Type 0
MakeEnds options old new Fine = Appends old new (pictures_of options)
MakeEnds options old new WriteFault = AppendsFront old new (pictures_of options)
MakeEnds options old new NoMemory = new ≡ old
MakeEnds options old new Usage = ⊥
MakeEnds options old new ReadFault = ⊥
MakeEnds options old new (BadLine line) = ⊥
MakeEnds options old new Damaged = ⊥
MakeEnds options old new ShortRaw = ⊥
MakeEnds options old new (NotARun line) = ⊥
MakeEnds options old new (BadMessage at) = ⊥
MakeEnds options old new EngineFault = ⊥
MakeEnds options old new TooLong = ⊥
