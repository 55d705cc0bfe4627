-- What a pause does to a port that has help.
use Rattle.std.specs.Prelude.{◌≡◌, Bool, true, false, Option, Some, None, List}
use Rattle.std.proofs.Common.{ap}
use Rattle.vc_model.specs.Solo.{SoloEvent}
use Rattle.vc_queue.specs.Holds.{HoldState}
use Rattle.vc_port.specs.Payloads.{AreKept}

-- after a job the port is as it was; else it paused
abbrev pub PortPauses : {S : Type 0} → (S → S → Type 0) → Bool → S → S → Type 0
PortPauses pauses true old new = new ≡ old
PortPauses pauses false old new = pauses old new

-- where there is help it took a turn; without help there was no job
abbrev pub HelpTurns : {H : Type 0} → (Bool → H → H → Type 0) → Bool → Option H → Option H → Type 0
HelpTurns turns was_job (Some x) (Some y) = turns was_job x y
HelpTurns turns false None None = Unit {0}
HelpTurns turns true None None = ⊥
HelpTurns turns was_job None (Some y) = ⊥
HelpTurns turns was_job (Some x) None = ⊥

-- The help claimed, ran and finished one job, and the port stayed as it was; or there was no job or no help, and the port paused.
pub record IsPause {S H : Type 0} (pauses : S → S → Type 0) (turns : Bool → H → H → Type 0) (old new : S) (help help_after : Option H) : Type 0 where
  pub was_job : Bool
  pub port : PortPauses pauses was_job old new
  pub turn : HelpTurns turns was_job help help_after

-- A pause with help changes neither the events nor a payload of the port, where its own pauses change none.
pub kept_by_pause : {S : Type 0} (events : S → List SoloEvent) (hold : S → HoldState) (pauses : S → S → Type 0) → ((p q : S) → pauses p q → AreKept (events p) (hold p) (events q) (hold q)) → (p q : S) (was_job : Bool) → PortPauses pauses was_job p q → AreKept (events p) (hold p) (events q) (hold q)
kept_by_pause events hold pauses kept p q true same =
    record { events = ap events same; payloads = ap hold same }
kept_by_pause events hold pauses kept p q false paused = kept p q paused
