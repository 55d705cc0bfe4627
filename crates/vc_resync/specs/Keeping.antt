-- What an assembly's fields are for its caller.
use Rattle.vc_defs.specs.Finds.{KeptBytes}
use Rattle.vc_resync.specs.declared.assembly.Assembly.TheInside.{Inside}
use Rattle.vc_resync.specs.Assembling.{AssemblyState}
use Rattle.vc_resync.specs.Collecting.{kept_in, IsSound}
use Rattle.vc_resync.specs.Stamping.{HasPlaces}
use Rattle.vc_resync.specs.Continuing.{IsKept}
use Rattle.vc_resync.specs.Telling.{told_in, ToldFits}

-- the kept bytes and their stamps
abbrev pub kept_of_fields : Inside → KeptBytes
kept_of_fields a = record { tail = kept_in a.collected; first_stamp = a.stamps.first; last_stamps = a.stamps.last.items }

abbrev pub assembly_of : Inside → AssemblyState
assembly_of a = record { limit = a.collected.limit; kept = kept_of_fields a; told = told_in a.told a.collected.body.items }

-- what holds of the fields between two calls
pub record IsAssembly (a : Inside) : Type 0 where
  pub sound : IsSound a.collected
  pub places : HasPlaces a.stamps.last
  pub kept : IsKept a.collected.limit (kept_of_fields a)
  pub fits : ToldFits a.told a.collected.body.items
