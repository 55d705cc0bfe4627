use Rattle.std.proofs.Common.{◌≡◌, ◌+◌, ◌<◌, sym, ap, ◌∙◌, subst, arith, List, ℕ, length, drop, true, false, Some}
use Rattle.std.specs.Prelude.{bytes_eq}
use Rattle.std.proofs.lemmas.List.{length-drop}
use Rattle.vc_model.specs.Script.{first_lines}
use Rattle.vc_model.specs.Audit.{AuditInput, separator}
use Rattle.vc_audit.proofs.LinesAreCutOff.{not_cut, one_more, cut_here, none_here, first_some, left_over}
use Rattle.vc_audit.proofs.parts.cut.Goals as goal

pub cutting-init : goal.cutting-init
cutting-init c = not_cut c.args.input.now

pub cutting-preserved : goal.cutting-preserved
cutting-preserved c =
    let line : c.first_line-line.result.now ≡ first_lines (drop c.cutting.at c.args.input.now) 1 = c.first_line-line.ensures.first ∙ ap (λ (bs : List ℕ). first_lines bs 1) (left_over c.cutting.at c.args.input.now) in
    let other : bytes_eq c.first_line-line.result.now separator ≡ false = subst (λ (s : List ℕ). bytes_eq c.first_line-line.result.now s ≡ false) c.as_slice.ensures (sym c.if-eq.ensures) in
    one_more c.args.input.now c.first_line-line.result.now c.cutting.at c.cutting.invariant c.cutting-test.true line other

pub cutting-smaller : goal.cutting-smaller
cutting-smaller c =
    let line : c.first_line-line.result.now ≡ first_lines (drop c.cutting.at c.args.input.now) 1 = c.first_line-line.ensures.first ∙ ap (λ (bs : List ℕ). first_lines bs 1) (left_over c.cutting.at c.args.input.now) in
    let some : 0 < length (first_lines (drop c.cutting.at c.args.input.now) 1) = first_some (drop c.cutting.at c.args.input.now) (omega (arith, length-drop c.cutting.at c.args.input.now, c.cutting-test.true)) in
    omega (arith, some, ap length line, c.cutting-test.true)

pub returns-then-eq-clause-script : goal.returns-then-eq-clause-script
returns-then-eq-clause-script c =
    let line : c.first_line-line.result.now ≡ first_lines (drop c.cutting.at c.args.input.now) 1 = c.first_line-line.ensures.first ∙ ap (λ (bs : List ℕ). first_lines bs 1) (left_over c.cutting.at c.args.input.now) in
    let same : bytes_eq c.first_line-line.result.now separator ≡ true = subst (λ (s : List ℕ). bytes_eq c.first_line-line.result.now s ≡ true) c.as_slice.ensures (sym c.if-eq.ensures) in
    ap (λ (p : AuditInput). p.script) (sym (cut_here c.args.input.now c.first_line-line.result.now c.cutting.at c.cutting.invariant c.cutting-test.true line same))

pub returns-then-eq-clause-report : goal.returns-then-eq-clause-report
returns-then-eq-clause-report c =
    let line : c.first_line-line.result.now ≡ first_lines (drop c.cutting.at c.args.input.now) 1 = c.first_line-line.ensures.first ∙ ap (λ (bs : List ℕ). first_lines bs 1) (left_over c.cutting.at c.args.input.now) in
    let same : bytes_eq c.first_line-line.result.now separator ≡ true = subst (λ (s : List ℕ). bytes_eq c.first_line-line.result.now s ≡ true) c.as_slice.ensures (sym c.if-eq.ensures) in
    ap Some (left_over (c.cutting.at + 5) c.args.input.now) ∙ ap (λ (p : AuditInput). p.report) (sym (cut_here c.args.input.now c.first_line-line.result.now c.cutting.at c.cutting.invariant c.cutting-test.true line same))

pub returns-clause-script : goal.returns-clause-script
returns-clause-script c =
    ap (λ (p : AuditInput). p.script) (sym (none_here c.args.input.now c.cutting.at c.cutting.invariant (omega (arith, c.cutting-test.false))))

pub returns-clause-report : goal.returns-clause-report
returns-clause-report c =
    ap (λ (p : AuditInput). p.report) (sym (none_here c.args.input.now c.cutting.at c.cutting.invariant (omega (arith, c.cutting-test.false))))
