use Rattle.std.proofs.Common.{arith, ℕ, ◌*◌, ◌+◌, ◌≡◌, ◌∙◌, ap, subst, ◌<◌}
use Rattle.std.specs.Int.{w32}
use mir.Val.{to_z}
use Rattle.std.specs.Prelude.{◌*ℤ◌}
use Rattle.vc_defs.specs.Walsh.{walsh, entry_at, sum_below}
use Rattle.vc_fwht.specs.Passes.{column_entry}
use Rattle.vc_fwht.proofs.MachineSumsAreExact.{Within}
use Rattle.vc_fwht.proofs.MatrixEntriesAreSigns.{walsh_is_sign}
use Rattle.vc_fwht.proofs.SignedSumsAreBounded.{signed_within}
use Rattle.vc_fwht.proofs.ButterfliesAreSums.{read_back}
use Rattle.vc_fwht.proofs.PlainSumsStayInRange.{sum_step}
use Rattle.vc_fwht.proofs.column_sum.Goals as goal

pub overflow_add-sum : goal.overflow_add-sum
overflow_add-sum c =
    let within : (j : ℕ) → j < 8 → Within 16777216 (entry_at c.args.x.now j c.args.column) = λ j h. c.requires.bounds (8 * j + c.args.column) (omega arith) in
    let last : c.signed-sum.result ≡ entry_at c.args.x.now c.loop-i.i c.args.column *ℤ walsh c.loop-i.i c.args.u =
    c.signed-sum.ensures ∙ ap (λ z. z *ℤ walsh c.loop-i.i c.args.u) (read_back 16777216 (entry_at c.args.x.now c.loop-i.i c.args.column) (within c.loop-i.i c.loop-i-test.true) (omega arith)) in
    (sum_step (λ j. entry_at c.args.x.now j c.args.column *ℤ walsh j c.args.u) c.loop-i.i 16777216 c.loop-i.sum-bits c.signed-sum.result c.loop-i.invariant last
    (λ j h. signed_within 16777216 (entry_at c.args.x.now j c.args.column) (walsh j c.args.u) (walsh_is_sign j c.args.u h c.requires.places.0) (within j h))
    c.loop-i-test.true (omega arith)).0

pub loop-i-preserved : goal.loop-i-preserved
loop-i-preserved c =
    let within : (j : ℕ) → j < 8 → Within 16777216 (entry_at c.args.x.now j c.args.column) = λ j h. c.requires.bounds (8 * j + c.args.column) (omega arith) in
    let last : c.signed-sum.result ≡ entry_at c.args.x.now c.loop-i.i c.args.column *ℤ walsh c.loop-i.i c.args.u =
    c.signed-sum.ensures ∙ ap (λ z. z *ℤ walsh c.loop-i.i c.args.u) (read_back 16777216 (entry_at c.args.x.now c.loop-i.i c.args.column) (within c.loop-i.i c.loop-i-test.true) (omega arith)) in
    (sum_step (λ j. entry_at c.args.x.now j c.args.column *ℤ walsh j c.args.u) c.loop-i.i 16777216 c.loop-i.sum-bits c.signed-sum.result c.loop-i.invariant last
    (λ j h. signed_within 16777216 (entry_at c.args.x.now j c.args.column) (walsh j c.args.u) (walsh_is_sign j c.args.u h c.requires.places.0) (within j h))
    c.loop-i-test.true (omega arith)).1

pub returns : goal.returns
unfolding column_entry
returns c =
    let e : c.loop-i.i ≡ 8 = omega arith in
    subst (λ (n : ℕ). to_z w32 c.loop-i.sum-bits ≡ sum_below n (λ j. entry_at c.args.x.now j c.args.column *ℤ walsh j c.args.u)) e c.loop-i.invariant
