-- How a script ends.
use Rattle.std.specs.Prelude.{ℕ, ◌≡◌, ◌+◌, ◌≤◌, ◌<◌, ◌⊎◌, true, List, ◌∷◌, length, take, drop, Option, Some, None, ⊤}
use Rattle.std.specs.Io.KnownBytes.{Appends, Consumes, IsAtEnd}
use Rattle.std.specs.Str.Lines.{lines}
use Rattle.vc_base.specs.Counts.{Rose}
use Rattle.vc_base.specs.Device.{DeviceEvent}
use Rattle.vc_crew.specs.Counts.{EngineCounts}
use Rattle.vc_io.specs.Written.{AppendsFront}
use Rattle.vc_model.specs.Coder.{the_coder}
use Rattle.vc_model.specs.Script.{Asked, Prints, events_of_script}
use Rattle.vc_script.specs.Texts.{reply_text}
use Rattle.vc_top.specs.declared.status.Status.{Status}
use Rattle.vc_top.specs.declared.status.Status.TheVariants.{Fine, Usage, ReadFault, WriteFault, BadLine, Damaged, ShortRaw, EngineFault, TooLong, NotARun, NoMemory, BadMessage}
use Rattle.vc_desk.specs.Asking.{asks_line, asks_lines}
use Rattle.vc_base.specs.Limits.{longest_script}
use Rattle.vc_desk.specs.Carries.{finishes, IsCounted}

-- the events of the lines, read off their output
abbrev pub events_in : ℕ → List Asked → List ℕ → List DeviceEvent
events_in slots asked output = events_of_script reply_text the_coder slots asked output

-- All lines are in the grammar and print this output, and the engine counts the jobs that ended.
pub record Carries (slots : ℕ) (ls : List (List ℕ)) (output : List ℕ) (before now : EngineCounts) : Type 0 where
  pub asked : List Asked
  pub asks : asks_lines slots ls ≡ Some asked
  pub prints : Prints reply_text the_coder slots asked output
  pub counted : IsCounted (events_in slots asked output) before.runs now.runs before.faults now.faults

-- All lines were carried out and their output was written. So many jobs ended with a fault.
pub record AllWritten (slots : ℕ) (ls : List (List ℕ)) (old new : Option (List ℕ)) (before now : EngineCounts) (Failed : ℕ → Type 0) : Type 0 where
  pub output : List ℕ
  pub carries : Carries slots ls output before now
  pub written : Appends old new output
  pub failed : Failed (finishes true (events_in slots carries.asked output))

-- The first lines were carried out, and a prefix of their output was written.
pub record FrontWritten (slots : ℕ) (ls : List (List ℕ)) (old new : Option (List ℕ)) (before now : EngineCounts) : Type 0 where
  pub count : ℕ
  pub output : List ℕ
  pub carries : Carries slots (take count ls) output before now
  pub written : AppendsFront old new output

-- The line with this number, counted from 1, is the first that isn't in the grammar. The lines before it were carried out and
-- their output was written.
pub record StopsAtBad (slots : ℕ) (ls : List (List ℕ)) (old new : Option (List ℕ)) (before now : EngineCounts) (number : ℕ) : Type 0 where
  pub count : ℕ
  pub number_is : number ≡ count + 1
  pub line : List ℕ
  pub more : List (List ℕ)
  pub there : drop count ls ≡ line ∷ more
  pub bad : asks_line slots line ≡ None
  pub others : AllWritten slots (take count ls) old new before now (λ _. ⊤)

-- how the lines of a script end
abbrev pub LinesEnd : ℕ → List (List ℕ) → Option (List ℕ) → Option (List ℕ) → EngineCounts → EngineCounts → Status → Type 0
LinesEnd slots ls old new before now Fine = AllWritten slots ls old new before now (λ n. n ≡ 0)
LinesEnd slots ls old new before now EngineFault = AllWritten slots ls old new before now (λ n. 0 < n)
LinesEnd slots ls old new before now (BadLine number) = StopsAtBad slots ls old new before now number
LinesEnd slots ls old new before now WriteFault = FrontWritten slots ls old new before now
LinesEnd slots ls old new before now NoMemory = FrontWritten slots ls old new before now
LinesEnd slots ls old new before now Usage = ⊥
LinesEnd slots ls old new before now ReadFault = ⊥
LinesEnd slots ls old new before now Damaged = ⊥
LinesEnd slots ls old new before now ShortRaw = ⊥
LinesEnd slots ls old new before now (NotARun line) = ⊥
LinesEnd slots ls old new before now (BadMessage at) = ⊥
LinesEnd slots ls old new before now TooLong = ⊥

-- the whole input was read, it isn't too long, and its lines end so
pub record LinesOf (slots : ℕ) (input : List ℕ) (left old new : Option (List ℕ)) (before now : EngineCounts) (status : Status) : Type 0 where
  pub read : IsAtEnd left
  pub short : length input ≤ longest_script
  pub lines_end : LinesEnd slots (lines input) old new before now status

-- No more than so many bytes of the input were read.
pub record ReadAtMost (most : ℕ) (input : List ℕ) (left : Option (List ℕ)) : Type 0 where
  pub bytes : List ℕ
  pub read : Consumes (Some input) left bytes
  pub short : length bytes ≤ most

-- The input is longer than a script may be. One byte more than that was read of it, and nothing behind that.
pub record IsTooLong (input : List ℕ) (left : Option (List ℕ)) : Type 0 where
  pub long : longest_script < length input
  pub bytes : List ℕ
  pub read : Consumes (Some input) left bytes
  pub most : length bytes ≡ longest_script + 1

-- How a script with this input ends. After a failed read nothing is written, nor of a script that is too long: TooLong is the
-- answer exactly where more than the most bytes were read. Out of memory, nothing was written before the script was read whole.
abbrev pub ScriptEnds : ℕ → List ℕ → Option (List ℕ) → Option (List ℕ) → Option (List ℕ) → EngineCounts → EngineCounts → Status → Type 0
ScriptEnds slots input left old new before now Fine = LinesOf slots input left old new before now Fine
ScriptEnds slots input left old new before now EngineFault = LinesOf slots input left old new before now EngineFault
ScriptEnds slots input left old new before now (BadLine number) = LinesOf slots input left old new before now (BadLine number)
ScriptEnds slots input left old new before now WriteFault = LinesOf slots input left old new before now WriteFault
ScriptEnds slots input left old new before now NoMemory =
    LinesOf slots input left old new before now NoMemory ⊎ (ReadAtMost (longest_script + 1) input left × (new ≡ old))
ScriptEnds slots input left old new before now ReadFault = ReadAtMost longest_script input left × (new ≡ old)
ScriptEnds slots input left old new before now TooLong = IsTooLong input left × (new ≡ old)
ScriptEnds slots input left old new before now Usage = ⊥
ScriptEnds slots input left old new before now Damaged = ⊥
ScriptEnds slots input left old new before now ShortRaw = ⊥
ScriptEnds slots input left old new before now (NotARun line) = ⊥
ScriptEnds slots input left old new before now (BadMessage at) = ⊥

-- a script that isn't too long, with every line in the grammar
pub record IsGoodScript (slots : ℕ) (input : List ℕ) : Type 0 where
  pub short : length input ≤ longest_script
  pub asked : List Asked
  pub asks : asks_lines slots (lines input) ≡ Some asked
