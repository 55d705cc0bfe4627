-- What carrying out a line comes to.
use Rattle.std.specs.Prelude.{ℕ, ◌≡◌, Bool, true, false, if◌then◌else◌, length, List, ◌++◌}
use Rattle.std.specs.List.{filter}
use Rattle.vc_base.specs.Device.{DeviceEvent, finish}
use Rattle.vc_model.specs.Handed.{same_bool}
use Rattle.vc_model.specs.Script.{Asked}
use Rattle.vc_worker.specs.Turns.{RoseBy}
use Rattle.vc_desk.specs.declared.desk.Desk.{Desk}
use Rattle.vc_desk.specs.Desks.{after, IsDesk}
use Rattle.vc_desk.specs.Does.{LineDoes}

-- whether the event is the end of a job, with a fault or without
abbrev pub is_finish : Bool → DeviceEvent → Bool
is_finish fault (finish worker ended) = same_bool fault ended
is_finish fault e = false

-- how many jobs ended, with a fault or without
abbrev pub finishes : Bool → List DeviceEvent → ℕ
finishes fault events = length (filter (is_finish fault) events)

-- The engine counts as many runs as jobs ended without a fault, and as many faults as ended with one, at least.
pub record IsCounted (events : List DeviceEvent) (runs runs' faults faults' : ℕ) : Type 0 where
  pub ran : RoseBy (finishes false events) runs runs'
  pub failed : RoseBy (finishes true events) faults faults'

-- The line was carried out: its events are those of the text, and the desk has the history with them at its end.
pub record LineMade (n : ℕ) (history : List DeviceEvent) (asked : Asked) (text : List ℕ) (fault : Bool) (runs runs' faults faults' : ℕ) (desk : Desk) : Type 0 where
  pub events : List DeviceEvent
  pub does : LineDoes (after n history) asked text events
  pub at : IsDesk n (history ++ events) desk
  pub counted : IsCounted events runs runs' faults faults'
  pub failed : finishes true events ≡ (if fault then 1 else 0)
