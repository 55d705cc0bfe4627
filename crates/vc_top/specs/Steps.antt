-- One line of a script.
use Rattle.std.specs.Prelude.{ℕ, ◌≡◌, Bool, true, false, List, Option, Some, None}
use Rattle.std.specs.Io.KnownBytes.{Appends}
use Rattle.vc_base.specs.Device.{DeviceEvent}
use Rattle.vc_io.specs.Written.{AppendsFront}
use Rattle.vc_model.specs.Script.{Asked}
use Rattle.vc_desk.specs.declared.desk.Desk.{Desk}
use Rattle.vc_top.specs.declared.script.LineStop.{LineStop}
use Rattle.vc_top.specs.declared.script.LineStop.TheVariants as stops
use Rattle.vc_top.specs.declared.status.Status.{Status}
use Rattle.vc_top.specs.declared.status.Status.TheVariants.{Fine, WriteFault, BadLine, EngineFault, NoMemory}
use Rattle.vc_desk.specs.Asking.{asks_line}
use Rattle.vc_desk.specs.Carries.{LineMade}

-- The line was carried out, and what it prints was written.
pub record LineDone (slots : ℕ) (history : List DeviceEvent) (line : List ℕ) (before after : Option (List ℕ)) (fault : Bool) (runs runs' faults faults' : ℕ) (desk : Desk) : Type 0 where
  pub asked : Asked
  pub text : List ℕ
  pub asks : asks_line slots line ≡ Some asked
  pub made : LineMade slots history asked text fault runs runs' faults faults' desk
  pub written : Appends before after text

-- The line was carried out, and a prefix of what it prints was written.
pub record LineCut (slots : ℕ) (history : List DeviceEvent) (line : List ℕ) (before after : Option (List ℕ)) (runs runs' faults faults' : ℕ) : Type 0 where
  pub asked : Asked
  pub text : List ℕ
  pub fault : Bool
  pub desk : Desk
  pub asks : asks_line slots line ≡ Some asked
  pub made : LineMade slots history asked text fault runs runs' faults faults' desk
  pub written : AppendsFront before after text

-- The script stops at the line.
abbrev pub LineStopped : ℕ → List DeviceEvent → List ℕ → Option (List ℕ) → Option (List ℕ) → ℕ → ℕ → ℕ → ℕ → LineStop → Type 0
LineStopped slots history line before after runs runs' faults faults' stops.Bad =
    (asks_line slots line ≡ None) × (after ≡ before)
LineStopped slots history line before after runs runs' faults faults' stops.WriteFault =
    LineCut slots history line before after runs runs' faults faults'
LineStopped slots history line before after runs runs' faults faults' stops.NoMemory = after ≡ before

abbrev pub status_of : LineStop → ℕ → Status
status_of stops.Bad number = BadLine number
status_of stops.WriteFault number = WriteFault
status_of stops.NoMemory number = NoMemory

abbrev pub status_at_end : Bool → Status
status_at_end true = EngineFault
status_at_end false = Fine
