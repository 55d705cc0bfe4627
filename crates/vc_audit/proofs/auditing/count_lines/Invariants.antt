use Rattle.std.proofs.Common.{◌≡◌, ◌≤◌, ◌+◌, length}
use Rattle.std.specs.Str.Lines.{lines}
use Rattle.vc_audit.proofs.auditing.count_lines.Given as goal

abbrev pub invariant-counting : goal.invariant-counting
invariant-counting l =
    (length (lines l.script) ≡ l.count + length (lines l.rest)) × (l.count + length l.rest ≤ length l.script)

abbrev pub decreases-counting : goal.decreases-counting
decreases-counting l = length l.rest
