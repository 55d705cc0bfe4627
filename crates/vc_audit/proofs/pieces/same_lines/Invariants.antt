use Rattle.std.proofs.Common.{◌≡◌, ◌≤◌, ◌+◌, length}
use Rattle.vc_model.specs.Script.{split_lines}
use Rattle.vc_model.specs.Audit.{same_lines}
use Rattle.vc_audit.proofs.pieces.same_lines.Given as goal

abbrev pub invariant-comparing : goal.invariant-comparing
invariant-comparing l =
    (same_lines (split_lines l.text) (split_lines l.wanted) ≡ l.same + same_lines (split_lines l.left) (split_lines l.others))
    × (l.same + length l.left ≤ length l.text)

abbrev pub decreases-comparing : goal.decreases-comparing
decreases-comparing l = length l.left
