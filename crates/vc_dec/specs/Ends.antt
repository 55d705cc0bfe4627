-- What the end of a job leaves of its buffers (docs/DEVICE.md, "Runs").
use Rattle.std.specs.Prelude.{ℕ, ◌≡◌, Bool, true, false, take, Option, Some, None, Result, Ok, List, []}
use Rattle.vc_base.specs.declared.Stamp.{Stamp}
use Rattle.vc_base.specs.Buffers.{give_back_after}
use Rattle.vc_base.specs.Limits.{error_flag, source_change_event}
use Rattle.vc_base.specs.Events.{EventState, raise_after}
use Rattle.vc_defs.specs.declared.Geometry.{Geometry}
use Rattle.vc_defs.specs.Headers.{is_legal_geometry}
use Rattle.vc_model.specs.Formats.{FormatPair, formats_found}
use Rattle.vc_model.specs.Runs.{type_flag}
use Rattle.vc_queue.specs.declared.queue.Lent.{Lent}
use Rattle.vc_queue.specs.Lending.{IsBack, back_bytes}
use Rattle.vc_pair.specs.Pairs.{PairState, out_retired, cap_retired, is_final, pair_changed, pair_settled}
use Rattle.vc_work.specs.declared.engine.Outcome.{Outcome}
use Rattle.vc_work.specs.declared.engine.Outcome.TheVariants.{Picture, Damaged, Changed, Spent}
use Rattle.vc_work.specs.declared.engine.EngineFault.{EngineFault}
use Rattle.vc_dec.specs.declared.Dest.{Dest}
use Rattle.vc_dec.specs.declared.finishing.RunEnd.{RunEnd}
use Rattle.vc_dec.specs.declared.finishing.Shown.{Shown}
use Rattle.vc_m2m.specs.Settling.{end_raised, events_settled}

-- what a run leaves of its buffers, where its source is used up or not and was queued with the stamp; after a fault both
-- come back with ERROR
abbrev pub end_of : Result Outcome EngineFault → Bool → Stamp → RunEnd
end_of (Ok (Picture used key stamp)) used_up queued =
    record { used_up = used_up; source_flags = 0; shown = Some (record { used = used; flags = type_flag key; stamp = stamp }); changed = None; fault = false }
end_of (Ok (Damaged stamp)) used_up queued =
    record { used_up = used_up; source_flags = 0; shown = Some (record { used = 0; flags = error_flag; stamp = stamp }); changed = None; fault = false }
end_of (Ok (Changed geometry)) used_up queued =
    record { used_up = false; source_flags = 0; shown = None; changed = Some geometry; fault = false }
end_of (Ok Spent) used_up queued =
    record { used_up = true; source_flags = 0; shown = None; changed = None; fault = false }
end_of other used_up queued =
    record { used_up = true; source_flags = error_flag; shown = Some (record { used = 0; flags = error_flag; stamp = queued }); changed = None; fault = true }

-- the source goes to done, or back to the front of ready with its cursor
abbrev pub source_put : PairState → Lent → Bool → ℕ → PairState
source_put p lent true flags = out_retired p (back_bytes p.out.job lent) flags
source_put p lent false flags = record p { out = give_back_after p.out lent.cursor (back_bytes p.out.job lent) }

-- the destination, where there is one, goes back to the front of ready
abbrev pub dest_put : PairState → Option Lent → PairState
dest_put p None = p
dest_put p (Some lent) = record p { cap = give_back_after p.cap lent.cursor (back_bytes p.cap.job lent) }

-- the destination, where there is one, is the buffer of the job
abbrev pub IsDestBack : PairState → Option Lent → Type 0
IsDestBack p None = p.cap.job ≡ []
IsDestBack p (Some lent) = IsBack p.cap.job lent

-- CAPTURE stops where the stream changes
abbrev pub changed_where : Option Geometry → PairState → PairState
changed_where None p = p
changed_where (Some geometry) p = pair_changed p

-- the pair after a destination was given back, or none was there
abbrev pub handed_back : PairState → Option Lent → Option Geometry → PairState
handed_back p dest changed = changed_where changed (dest_put p dest)

-- the pair after a run showed something in its destination, which goes to done; else all is given back and settled
abbrev pub dest_ended : PairState → Option Shown → Option Lent → Option Geometry → PairState
dest_ended p (Some s) (Some dest) changed = cap_retired p s.used (take s.used dest.payload.items) s.flags s.stamp
dest_ended p shown dest changed = pair_settled (handed_back p dest changed)

-- the events after a destination was given back: a change is told, or what was settled
abbrev pub back_events : PairState → EventState → Option Geometry → EventState
back_events p events None = events_settled p events
back_events p events (Some geometry) = raise_after events source_change_event 1

-- the events after the end of a run
abbrev pub events_ended : PairState → EventState → Option Shown → Option Lent → Option Geometry → EventState
events_ended p events (Some s) (Some dest) changed = end_raised (is_final p) events
events_ended p events shown dest changed = back_events (handed_back p dest changed) events changed

-- the pair after the end of a run
abbrev pub pair_ended : PairState → Lent → Option Lent → RunEnd → PairState
pair_ended p source dest end = dest_ended (source_put p source end.used_up end.source_flags) end.shown dest end.changed

-- the buffer that comes back as the destination, where the job has one: with the index, and with the payload
abbrev pub IsLentDest : Option Dest → Option (List ℕ) → Option Lent → Type 0
IsLentDest (Some dest) (Some payload) (Some lent) = (lent.index ≡ dest.index) × (lent.cursor ≡ 0) × (lent.payload.items ≡ payload)
IsLentDest (Some dest) (Some payload) None = ⊥
IsLentDest dest payload lent = lent ≡ None

-- the formats after a change
abbrev pub formats_behind : Option Geometry → FormatPair → FormatPair
formats_behind None formats = formats
formats_behind (Some geometry) formats = formats_found formats geometry

-- a geometry that a change brings is legal
abbrev pub IsLegalChange : Option Geometry → Type 0
IsLegalChange None = Unit {0}
IsLegalChange (Some geometry) = is_legal_geometry geometry ≡ true
