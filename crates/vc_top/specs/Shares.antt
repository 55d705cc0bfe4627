-- How the sharing ends: pictures of the generator, coded in many contexts at once.
use Rattle.std.specs.Prelude.{ℕ, ◌≡◌, ◌⊎◌, ◌+◌, ◌*◌, List, [], ◌∷◌, ◌++◌, codes, Option, Some, Result, Ok, Err}
use Rattle.std.specs.List.{flat_map, range_with_len}
use Rattle.std.specs.Fmt.{decimal}
use Rattle.std.specs.Io.KnownBytes.{Appends}
use Rattle.vc_base.specs.Counts.{Rose}
use Rattle.vc_defs.specs.Outputs.{share_line, share_output}
use Rattle.vc_flow.specs.declared.ends.FlowEnd.{FlowEnd}
use Rattle.vc_encode_flow.specs.declared.tallying.Tally.{Tally}
use Rattle.vc_encode_flow.specs.Shares.{generated_bytes}
use Rattle.vc_io.specs.Written.{AppendsFront}
use Rattle.vc_words.specs.declared.command.Command.TheVariants.{Share}
use Rattle.vc_words.specs.declared.command.ShareOptions.{ShareOptions}
use Rattle.vc_top.specs.declared.flows.ShareFlow.{ShareFlow}
use Rattle.vc_top.specs.declared.status.Status.{Status}
use Rattle.vc_top.specs.declared.status.Status.TheVariants.{Fine, Usage, ReadFault, WriteFault, BadLine, Damaged, ShortRaw, EngineFault, TooLong, NotARun, NoMemory, BadMessage}
use Rattle.vc_top.specs.Engines.{OneRose}
use Rattle.vc_top.specs.Words.{asked_command}

-- the frames of a context: those of the generator's pictures for a number of its own
abbrev pub context_frames : ShareOptions → ℕ → List ℕ
context_frames options context = generated_bytes options.format options.pictures (options.number + context)

-- the line of a context: its number, the number of pictures, and the length and the fold of its frames
abbrev pub context_line : ShareOptions → ℕ → List ℕ
context_line options context = share_line context options.pictures (context_frames options context)

-- the lines of all contexts
unfoldable pub share_lines : ShareOptions → List ℕ
share_lines options = flat_map (context_line options) (range_with_len 0 options.contexts)

-- For options that words ask for, the lines are the defined output of the sharing.
abbrev pub ShareLinesAreDefined : Type 0
ShareLinesAreDefined =
    (words : List (List ℕ)) (options : ShareOptions) → asked_command words ≡ Some (Share options) → share_lines options ≡ share_output options.contexts options.format.width options.format.height options.pictures options.number

-- how many frames the contexts make together
abbrev pub share_count : ShareOptions → ℕ
share_count options = options.contexts * options.pictures

-- All lines were written where the sharing ends well, and a prefix of them after a failed write. Else nothing was.
abbrev pub ShareEnds : ShareOptions → Option (List ℕ) → Option (List ℕ) → Status → Type 0
ShareEnds options old new Fine = Appends old new (share_lines options)
ShareEnds options old new WriteFault = AppendsFront old new (share_lines options)
ShareEnds options old new EngineFault = new ≡ old
ShareEnds options old new NoMemory = new ≡ old
ShareEnds options old new Usage = ⊥
ShareEnds options old new ReadFault = ⊥
ShareEnds options old new (BadLine line) = ⊥
ShareEnds options old new Damaged = ⊥
ShareEnds options old new ShortRaw = ⊥
ShareEnds options old new (NotARun line) = ⊥
ShareEnds options old new (BadMessage at) = ⊥
ShareEnds options old new TooLong = ⊥

-- what runs in a context
abbrev pub flow_for : ShareOptions → ℕ → ShareFlow
flow_for options context =
    record { format = options.format; pictures = options.pictures; number = options.number + context }

-- the line of a context whose flow ended so
abbrev pub end_line : ℕ → ℕ → Result Tally FlowEnd → List ℕ
end_line pictures context (Ok tally) =
    decimal context ++ codes " " ++ decimal pictures ++ codes " " ++ decimal tally.bytes ++ codes " " ++ decimal tally.fold ++ codes "\n"
end_line pictures context (Err end) = []

-- the lines of contexts from one on, whose flows ended so
abbrev pub end_lines : ℕ → ℕ → List (Result Tally FlowEnd) → List ℕ
end_lines pictures context [] = []
end_lines pictures context (end ∷ ends) = end_line pictures context end ++ end_lines pictures (context + 1) ends

-- no flow failed
abbrev pub AreTallied : List (Result Tally FlowEnd) → Type 0
AreTallied [] = Unit {0}
AreTallied (Ok tally ∷ ends) = AreTallied ends
AreTallied (Err end ∷ ends) = ⊥

-- a flow failed so
abbrev pub OneFailed : FlowEnd → List (Result Tally FlowEnd) → Type 0
OneFailed stop [] = ⊥
OneFailed stop (Ok tally ∷ ends) = OneFailed stop ends
OneFailed stop (Err end ∷ ends) = (end ≡ stop) ⊎ OneFailed stop ends
