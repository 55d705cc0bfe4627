-- The phases of a context, by what is due, given or taken, and why ("Drain" of both chapters and "Dynamic Resolution Change" of
-- the stateful decoder). That jobs may run is `is_run`, and that LAST was taken `is_stopped`, beside the phases themselves.
use Rattle.std.specs.Prelude.{Bool, true, false, not}
use Rattle.vc_model.specs.Context.{PhaseState, run, owe, last, stopped, is_drain}

-- a LAST buffer is due
abbrev pub is_owed : PhaseState → Bool
is_owed run = false
is_owed (owe cause) = true
is_owed (last cause) = false
is_owed (stopped cause) = false

-- a LAST buffer is in done
abbrev pub is_last : PhaseState → Bool
is_last run = false
is_last (owe cause) = false
is_last (last cause) = true
is_last (stopped cause) = false

-- the context stops by a change, and not by a drain
abbrev pub stops_by_change : PhaseState → Bool
stops_by_change run = false
stops_by_change (owe cause) = not (is_drain cause)
stops_by_change (last cause) = not (is_drain cause)
stops_by_change (stopped cause) = not (is_drain cause)

-- the LAST buffer of a drain is in done
abbrev pub is_last_by_drain : PhaseState → Bool
is_last_by_drain run = false
is_last_by_drain (owe cause) = false
is_last_by_drain (last cause) = is_drain cause
is_last_by_drain (stopped cause) = false

-- that of a change is in done
abbrev pub is_last_by_change : PhaseState → Bool
is_last_by_change run = false
is_last_by_change (owe cause) = false
is_last_by_change (last cause) = not (is_drain cause)
is_last_by_change (stopped cause) = false

-- the LAST buffer of a drain was taken
abbrev pub is_stopped_by_drain : PhaseState → Bool
is_stopped_by_drain run = false
is_stopped_by_drain (owe cause) = false
is_stopped_by_drain (last cause) = false
is_stopped_by_drain (stopped cause) = is_drain cause

-- the end of a drain, before its LAST buffer is taken: it is due or in done
abbrev pub is_at_end : PhaseState → Bool
is_at_end run = false
is_at_end (owe cause) = is_drain cause
is_at_end (last cause) = is_drain cause
is_at_end (stopped cause) = false

-- the LAST buffer of a drain was given: it is in done or was taken
abbrev pub is_over : PhaseState → Bool
is_over run = false
is_over (owe cause) = false
is_over (last cause) = is_drain cause
is_over (stopped cause) = is_drain cause
