-- What a claim gives.
use Rattle.std.specs.Prelude.{Bool, true, false}
use Rattle.vc_port.specs.declared.station.Claimed.{Claimed}
use Rattle.vc_port.specs.declared.station.Claimed.TheVariants as gave

-- whether it says that all is over
abbrev pub is_over : Claimed → Bool
is_over (gave.Job job) = false
is_over gave.Empty = false
is_over gave.Over = true

-- what it gives where there is no job
abbrev pub nothing_claimed : Bool → Claimed
nothing_claimed true = gave.Over
nothing_claimed false = gave.Empty
