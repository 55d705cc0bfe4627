-- The phase with its cause, as the code keeps the two.
use Rattle.std.specs.Prelude.{Bool, true, false}
use Rattle.vc_model.specs.Context.{Cause, drain, change, PhaseState, run, owe, last, stopped}
use Rattle.vc_pair.specs.declared.Phase.{Phase}
use Rattle.vc_pair.specs.declared.Phase.TheVariants.{Run, Owe, Last, Stopped}

abbrev pub cause_of : Bool → Cause
cause_of true = change
cause_of false = drain

abbrev pub phase_of : Phase → Bool → PhaseState
phase_of Run by_change = run
phase_of Owe by_change = owe (cause_of by_change)
phase_of Last by_change = last (cause_of by_change)
phase_of Stopped by_change = stopped (cause_of by_change)

-- the phase without its cause
abbrev pub phase_alone : PhaseState → Phase
phase_alone run = Run
phase_alone (owe cause) = Owe
phase_alone (last cause) = Last
phase_alone (stopped cause) = Stopped
