use Rattle.std.proofs.Common.{◌<◌, ◌≡◌, ◌∙◌, length, drop, sym, ap, arith, rules}
use Rattle.std.specs.Prelude.{bytes_eq}
use Rattle.std.proofs.lemmas.List.{length-drop}
use Rattle.std.proofs.lemmas.Slice.Eq.{bytes_eq-Decides}
use Rattle.vc_model.specs.Script.{split_lines}
use Rattle.vc_model.specs.Audit.{same_lines}
use Rattle.vc_audit.proofs.PiecesOfReports.{none_same, one_same, some_line, differ, same_of}
use Rattle.vc_audit.proofs.pieces.same_lines.Goals as goal

pub returns-then-ne : goal.returns-then-ne
returns-then-ne c =
    let some : 0 < length c.comparing.left.now = search rules in
    let none : same_lines (split_lines c.comparing.left.now) (split_lines c.comparing.others.now) ≡ 0 =
    none_same c.comparing.left.now c.comparing.others.now some
    (λ e.
    differ (bytes_eq c.first_line-line.result.now c.first_line-other.result.now) c.ne.result c.ne.ensures c.if-ne.true
    ((bytes_eq-Decides c.first_line-line.result.now c.first_line-other.result.now).1 (c.first_line-line.ensures.first ∙ (e ∙ sym c.first_line-other.ensures.first)))) in
    omega (arith, c.comparing.invariant.0, none)

pub comparing-preserved : goal.comparing-preserved
comparing-preserved c =
    let some : 0 < length c.comparing.left.now = search rules in
    let alike = same_of c.first_line-line.result.now c.first_line-other.result.now c.ne.result c.ne.ensures c.if-ne.false in
    let one =
    one_same c.comparing.left.now c.comparing.others.now c.first_line-line.result.now c.first_line-other.result.now some c.first_line-line.ensures.first
    c.first_line-other.ensures.first alike in
    let moved : same_lines (split_lines c.rest_of-left.result.now) (split_lines c.rest_of-others.result.now)
    ≡ same_lines (split_lines (drop (length c.first_line-line.result.now) c.comparing.left.now)) (split_lines (drop (length c.first_line-other.result.now) c.comparing.others.now)) =
    ap (λ x. same_lines (split_lines x) (split_lines c.rest_of-others.result.now)) c.rest_of-left.ensures
    ∙ ap (λ x. same_lines (split_lines (drop (length c.first_line-line.result.now) c.comparing.left.now)) (split_lines x)) c.rest_of-others.ensures in
    let longer = some_line c.comparing.left.now c.first_line-line.result.now some c.first_line-line.ensures.first in
    let left = ap length c.rest_of-left.ensures ∙ length-drop (length c.first_line-line.result.now) c.comparing.left.now in
    (omega (arith, c.comparing.invariant.0, one, moved), omega (arith, c.comparing.invariant.1, left, longer, c.first_line-line.ensures.within))
