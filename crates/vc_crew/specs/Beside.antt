-- What a flow beside workers did.
use Rattle.std.specs.Prelude.{ℕ, List, []}
use Rattle.vc_model.specs.Solo.{SoloEvent}
use Rattle.vc_port.specs.Payloads.{good_finishes, faulty_finishes}
use Rattle.vc_crew.specs.Counts.{EngineCounts, HaveRun, HaveFailed}

-- The flow went over the events of a slot that was closed at first. The jobs that were finished there without a fault are at most
-- the rise of the engines' counts of runs together, and those with a fault at most the rise of their counts of faults.
pub record RanBeside {F End : Type 0} (does : F → List SoloEvent → List SoloEvent → End → F → Type 0) (flow flow' : F) (end : End) (before after : List EngineCounts) : Type 0 where
  pub events : List SoloEvent
  pub did : does flow [] events end flow'
  pub ran : HaveRun (good_finishes events) before after
  pub failed : HaveFailed (faulty_finishes events) before after
