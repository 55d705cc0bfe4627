use Rattle.std.proofs.Common.{arith, ℕ, ◌*◌, ◌+◌, ◌≡◌, ◌∙◌, ap, subst, ◌<◌}
use Rattle.std.specs.Int.{w32}
use mir.Val.{to_z}
use Rattle.std.specs.Prelude.{◌*ℤ◌}
use Rattle.vc_defs.specs.Walsh.{walsh, entry_at, sum_below}
use Rattle.vc_fwht.specs.Passes.{row_entry}
use Rattle.vc_fwht.proofs.MachineSumsAreExact.{Within}
use Rattle.vc_fwht.proofs.MatrixEntriesAreSigns.{walsh_is_sign}
use Rattle.vc_fwht.proofs.SignedSumsAreBounded.{signed_within}
use Rattle.vc_fwht.proofs.ButterfliesAreSums.{read_back}
use Rattle.vc_fwht.proofs.PlainSumsStayInRange.{sum_step}
use Rattle.vc_fwht.proofs.row_sum.Goals as goal

pub overflow_add-sum : goal.overflow_add-sum
overflow_add-sum c =
    let within : (j : ℕ) → j < 8 → Within 16777216 (entry_at c.args.x.now c.args.row j) = λ j h. c.requires.bounds (8 * c.args.row + j) (omega arith) in
    let last : c.signed-sum.result ≡ entry_at c.args.x.now c.args.row c.loop-j.j *ℤ walsh c.loop-j.j c.args.v =
    c.signed-sum.ensures ∙ ap (λ z. z *ℤ walsh c.loop-j.j c.args.v) (read_back 16777216 (entry_at c.args.x.now c.args.row c.loop-j.j) (within c.loop-j.j c.loop-j-test.true) (omega arith)) in
    (sum_step (λ j. entry_at c.args.x.now c.args.row j *ℤ walsh j c.args.v) c.loop-j.j 16777216 c.loop-j.sum-bits c.signed-sum.result c.loop-j.invariant last
    (λ j h. signed_within 16777216 (entry_at c.args.x.now c.args.row j) (walsh j c.args.v) (walsh_is_sign j c.args.v h c.requires.places.1) (within j h))
    c.loop-j-test.true (omega arith)).0

pub loop-j-preserved : goal.loop-j-preserved
loop-j-preserved c =
    let within : (j : ℕ) → j < 8 → Within 16777216 (entry_at c.args.x.now c.args.row j) = λ j h. c.requires.bounds (8 * c.args.row + j) (omega arith) in
    let last : c.signed-sum.result ≡ entry_at c.args.x.now c.args.row c.loop-j.j *ℤ walsh c.loop-j.j c.args.v =
    c.signed-sum.ensures ∙ ap (λ z. z *ℤ walsh c.loop-j.j c.args.v) (read_back 16777216 (entry_at c.args.x.now c.args.row c.loop-j.j) (within c.loop-j.j c.loop-j-test.true) (omega arith)) in
    (sum_step (λ j. entry_at c.args.x.now c.args.row j *ℤ walsh j c.args.v) c.loop-j.j 16777216 c.loop-j.sum-bits c.signed-sum.result c.loop-j.invariant last
    (λ j h. signed_within 16777216 (entry_at c.args.x.now c.args.row j) (walsh j c.args.v) (walsh_is_sign j c.args.v h c.requires.places.1) (within j h))
    c.loop-j-test.true (omega arith)).1

pub returns : goal.returns
unfolding row_entry
returns c =
    let e : c.loop-j.j ≡ 8 = omega arith in
    subst (λ (n : ℕ). to_z w32 c.loop-j.sum-bits ≡ sum_below n (λ j. entry_at c.args.x.now c.args.row j *ℤ walsh j c.args.v)) e c.loop-j.invariant
