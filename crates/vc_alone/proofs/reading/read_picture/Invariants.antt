use Rattle.std.proofs.Common.{◌≡◌, ◌≤◌, ◌-◌, length, take}
use Rattle.std.specs.Io.KnownBytes.{Consumes}
use Rattle.vc_alone.proofs.reading.read_picture.Given as goal

abbrev pub invariant-reading : goal.invariant-reading
invariant-reading g l =
    (length l.picture ≡ length l.initial.picture)
    × (l.at ≤ length l.picture)
    × Consumes (g.S.Source.left l.initial.source) (g.S.Source.left l.source) (take l.at l.picture)
    × (g.S.Source.faults l.source ≡ g.S.Source.faults l.initial.source)

abbrev pub decreases-reading : goal.decreases-reading
decreases-reading g l = length l.picture - l.at
