-- What several flows beside workers did.
use Rattle.std.specs.Prelude.{ℕ, List, [], ◌∷◌, sum_by}
use Rattle.vc_model.specs.Solo.{SoloEvent}
use Rattle.vc_port.specs.Payloads.{good_finishes, faulty_finishes}
use Rattle.vc_crew.specs.Counts.{EngineCounts, HaveRun, HaveFailed}

-- Each flow went over the events of a slot of its own that was closed at first, and ended so.
abbrev pub EachRan : {F End : Type 0} → (F → List SoloEvent → List SoloEvent → End → F → Type 0) → List F → List F → List End → List (List SoloEvent) → Type 0
EachRan does [] [] [] [] = Unit {0}
EachRan does (f ∷ fs) (f' ∷ fs') (end ∷ ends) (events ∷ rest) = does f [] events end f' × EachRan does fs fs' ends rest
EachRan does [] (f' ∷ fs') ends events = ⊥
EachRan does [] [] (end ∷ ends) events = ⊥
EachRan does [] [] [] (e ∷ es) = ⊥
EachRan does (f ∷ fs) [] ends events = ⊥
EachRan does (f ∷ fs) (f' ∷ fs') [] events = ⊥
EachRan does (f ∷ fs) (f' ∷ fs') (end ∷ ends) [] = ⊥

-- The flows went each over the events of a slot of its own. The jobs that were finished on all these slots without a fault are at
-- most the rise of the engines' counts of runs together, and those with a fault at most the rise of their counts of faults.
pub record RanTogether {F End : Type 0} (does : F → List SoloEvent → List SoloEvent → End → F → Type 0) (flows flows' : List F) (ends : List End) (before after : List EngineCounts) : Type 0 where
  pub slots : List (List SoloEvent)
  pub did : EachRan does flows flows' ends slots
  pub ran : HaveRun (sum_by good_finishes slots) before after
  pub failed : HaveFailed (sum_by faulty_finishes slots) before after
