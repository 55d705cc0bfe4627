-- What settling does to the events of a context.
use Rattle.std.specs.Prelude.{Bool, if◌then◌else◌}
use Rattle.vc_base.specs.Events.{EventState, raise_after}
use Rattle.vc_base.specs.Limits.{eos_event}
use Rattle.vc_pair.specs.Pairs.{PairState, raises_end}

-- the event of the end of a drain is raised
abbrev pub end_raised : Bool → EventState → EventState
end_raised ended events = if ended then raise_after events eos_event 0 else events

-- the events after the pair has settled
abbrev pub events_settled : PairState → EventState → EventState
events_settled p events = end_raised (raises_end p) events
