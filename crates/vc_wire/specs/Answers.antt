-- What it comes to that a device answers the body of a message.
use Rattle.std.specs.Prelude.{ℕ, ◌≡◌, Bool, true, if◌then◌else◌, Option, List, ◌++◌}
use Rattle.vc_base.specs.Device.{DeviceEvent}
use Rattle.vc_model.specs.Coder.{the_coder}
use Rattle.vc_model.specs.Script.{Asked}
use Rattle.vc_model.specs.Wire.{asked_events, body_reply, chosen_events, first_reply}
use Rattle.vc_desk.specs.declared.desk.Desk.{Desk}
use Rattle.vc_desk.specs.Desks.{after, IsDesk}
use Rattle.vc_desk.specs.Carries.{finishes, IsCounted}

-- the events of a body behind a history, by a choice
abbrev pub events_by : ℕ → List DeviceEvent → Option Asked → Bool → List DeviceEvent
events_by n history asked fails = chosen_events (after n history) asked fails

-- the reply ends where its length says, whatever stands behind it
abbrev pub IsWhole : List ℕ → Type 0
IsWhole reply = (more : List ℕ) → first_reply (reply ++ more) ≡ reply

-- One whole reply was appended, which is the device's by one free choice, and the choice is read off it. The device has the
-- events of that choice behind it, and the engine counts the job that ended. The engine gave up where this is told.
pub record IsAnswered (n : ℕ) (history : List DeviceEvent) (asked : Option Asked) (before now : List ℕ) (fault : Bool) (runs runs' faults faults' : ℕ) (desk : Desk) : Type 0 where
  pub fails : Bool
  pub reply : List ℕ
  pub appended : now ≡ before ++ reply
  pub whole : IsWhole reply
  pub told : reply ≡ body_reply the_coder (after n history) asked (events_by n history asked fails)
  pub choice_read : asked_events (after n history) asked reply ≡ events_by n history asked fails
  pub at : IsDesk n (history ++ events_by n history asked fails) desk
  pub counted : IsCounted (events_by n history asked fails) runs runs' faults faults'
  pub failed : finishes true (events_by n history asked fails) ≡ (if fault then 1 else 0)

-- What the body asks was done by one free choice, and nothing was told of it.
pub record IsUntold (n : ℕ) (history : List DeviceEvent) (asked : Option Asked) (before now : List ℕ) (runs runs' faults faults' : ℕ) (desk : Desk) : Type 0 where
  pub fails : Bool
  pub untold : now ≡ before
  pub at : IsDesk n (history ++ events_by n history asked fails) desk
  pub counted : IsCounted (events_by n history asked fails) runs runs' faults faults'
