-- What is remembered of an answer.
use Rattle.std.specs.Prelude.{◌≤◌, ℕ, List, length, take}
use Rattle.std.specs.declared.option.Option.{Option}
use Rattle.std.specs.declared.option.Option.TheVariants.{Some, None}
use Rattle.vc_resync.specs.declared.feeding.Found.{Found}
use Rattle.vc_resync.specs.declared.feeding.Found.TheVariants.{More, Head as HeadFound, Whole as WholeFound, Cut as CutFound}
use Rattle.vc_resync.specs.declared.told.Told.{Told}
use Rattle.vc_resync.specs.declared.told.Told.TheVariants.{Nothing, Cut, Whole}
use Rattle.vc_resync.specs.Assembling.{ToldFrame}

-- the frame that was told, whose body stands in front of these bytes
abbrev pub told_in : Told → List ℕ → Option ToldFrame
told_in Nothing bytes = None
told_in (Cut stamp) bytes = Some (record { body = None; stamp = stamp })
told_in (Whole stamp size) bytes = Some (record { body = Some (take size bytes); stamp = stamp })

-- the body that was told is there
abbrev pub ToldFits : Told → List ℕ → Type 0
ToldFits Nothing bytes = Unit {0}
ToldFits (Cut stamp) bytes = Unit {0}
ToldFits (Whole stamp size) bytes = size ≤ length bytes

-- the body of a whole frame that an answer tells is there
abbrev pub FoundFits : Found → List ℕ → Type 0
FoundFits More bytes = Unit {0}
FoundFits (HeadFound h) bytes = Unit {0}
FoundFits (WholeFound h) bytes = h.size ≤ length bytes
FoundFits (CutFound h) bytes = Unit {0}
