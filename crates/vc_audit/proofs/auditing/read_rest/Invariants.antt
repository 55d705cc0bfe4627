use Rattle.std.proofs.Common.{◌≤◌, ◌+◌, length}
use Rattle.std.specs.Str.Lines.{lines}
use Rattle.vc_audit.proofs.ScriptsAreReplayed.{ReadTo}
use Rattle.vc_audit.proofs.auditing.read_rest.Given as goal

abbrev pub invariant-reading : goal.invariant-reading
invariant-reading l =
    ReadTo l.slots (lines l.script) (lines l.rest) (l.before + 1) l.number × (l.number + length l.rest ≤ length l.script + l.before)

abbrev pub decreases-reading : goal.decreases-reading
decreases-reading l = length l.rest
