use Rattle.std.proofs.Common.{◌≡◌, ◌≢◌, ◌∙◌, ap, ℕ, ◌+◌, get_or, set, arith, subst, rules}
use Rattle.std.specs.Prelude.{pos}
use Rattle.std.specs.Int.{w32}
use mir.Val.{of_z}
use Rattle.std.proofs.lemmas.List.{length-set}
use Rattle.vc_defs.specs.Words.{in_scan_order}
use Rattle.vc_rlc.specs.Finding.{AreFound}
use Rattle.vc_rlc.proofs.ValuesAreFound.{zero_passed, value_found}
use Rattle.vc_rlc.proofs.find_in_eight.Goals as goal
use Rattle.vc_rlc.proofs.find_in_eight.Goals.{then-value_at-ne0, else-value_at-ne0}

pub loop-i-preserved : goal.loop-i-preserved
loop-i-preserved c =
    let next : c.args.first + c.loop-i.i + 1 ≡ c.args.first + (c.loop-i.i + 1) = omega arith in
    let few = c.loop-i.invariant.found.few in
    record {
      long = length-set c.loop-i.numbers _ _ ∙ c.loop-i.invariant.long;
      found = subst (λ (n : ℕ). AreFound (in_scan_order c.args.q.now) (set c.loop-i.numbers c.loop-i.count (c.args.first + c.loop-i.i)) c.if-value_at-ne0.count n) next
          (elim c.if-value_at-ne0.branch [
            | then-value_at-ne0 w ↦
                let some : get_or (in_scan_order c.args.q.now) (c.args.first + c.loop-i.i) (pos 0) ≢ pos 0 = λ e. w.if-value_at-ne0.true (ap (λ z. of_z w32 z) (c.value_at.ensures ∙ e)) in
                rw w.count-is (value_found (in_scan_order c.args.q.now) c.loop-i.numbers c.loop-i.count (c.args.first + c.loop-i.i) (omega (arith, few, c.loop-i.invariant.long, c.requires.inside, c.loop-i-test.true)) some c.loop-i.invariant.found)
            | else-value_at-ne0 w ↦
                let none : get_or (in_scan_order c.args.q.now) (c.args.first + c.loop-i.i) (pos 0) ≡ pos 0 = search rules in
                rw w.count-is (zero_passed (in_scan_order c.args.q.now) c.loop-i.numbers c.loop-i.count (c.args.first + c.loop-i.i) (c.args.first + c.loop-i.i) none c.loop-i.invariant.found)
          ]);
    }
