use Rattle.std.proofs.Common.{◌≡◌, ◌∙◌, ap, refl, arith, get_or, ◌^◌, ◌≤◌, ◌-◌}
use Rattle.std.specs.Prelude.{pos, neg_ℤ, ◌≤ℤ◌, ◌*ℤ◌, unsigned_abs}
use Rattle.std.specs.Int.{w16}
use mir.Val.{to_z, of_z, SFits}
use Rattle.std.proofs.lemmas.Int.{to_z-of_z, ints}
use Rattle.vc_defs.specs.Quantiser.{shift_at}
use Rattle.vc_lanes.proofs.SmallCoefficients.{small_coefficient, step_back, small_back}
use Rattle.vc_lanes.proofs.dequantising.coefficient_at.Goals as goal

pub coefficient-requires-clause-least : goal.coefficient-requires-clause-least
coefficient-requires-clause-least c =
    let w : unsigned_abs (get_or c.args.q.now c.args.k (pos 0)) ≤ 2 ^ (12 - shift_at c.args.intra c.args.k) - 1 = c.requires.small c.args.k c.requires.place in
    rw (small_back c.args.intra c.args.k (get_or c.args.q.now c.args.k (pos 0)) w, step_back c.args.intra c.args.k c.step.result c.step.ensures)
    (small_coefficient c.args.intra c.args.k (get_or c.args.q.now c.args.k (pos 0)) c.step.result w c.step.ensures).0

pub coefficient-requires-clause-most : goal.coefficient-requires-clause-most
coefficient-requires-clause-most c =
    let w : unsigned_abs (get_or c.args.q.now c.args.k (pos 0)) ≤ 2 ^ (12 - shift_at c.args.intra c.args.k) - 1 = c.requires.small c.args.k c.requires.place in
    rw (small_back c.args.intra c.args.k (get_or c.args.q.now c.args.k (pos 0)) w, step_back c.args.intra c.args.k c.step.result c.step.ensures)
    (small_coefficient c.args.intra c.args.k (get_or c.args.q.now c.args.k (pos 0)) c.step.result w c.step.ensures).1

pub returns-clause-value : goal.returns-clause-value
returns-clause-value c =
    let w : unsigned_abs (get_or c.args.q.now c.args.k (pos 0)) ≤ 2 ^ (12 - shift_at c.args.intra c.args.k) - 1 = c.requires.small c.args.k c.requires.place in
    let fits : SFits w16 c.coefficient.result = record { sfits = c.coefficient.type_inv } in
    let is : c.coefficient.result ≡ get_or c.args.q.now c.args.k (pos 0) *ℤ c.step.result =
    rw (small_back c.args.intra c.args.k (get_or c.args.q.now c.args.k (pos 0)) w, step_back c.args.intra c.args.k c.step.result c.step.ensures) at c.coefficient.ensures in
    to_z-of_z w16 c.coefficient.result fits ∙ is ∙ ap (λ z. get_or c.args.q.now c.args.k (pos 0) *ℤ z) c.step.ensures

pub returns-clause-range : goal.returns-clause-range
returns-clause-range c =
    let w : unsigned_abs (get_or c.args.q.now c.args.k (pos 0)) ≤ 2 ^ (12 - shift_at c.args.intra c.args.k) - 1 = c.requires.small c.args.k c.requires.place in
    rw (returns-clause-value c) (small_coefficient c.args.intra c.args.k (get_or c.args.q.now c.args.k (pos 0)) (pos (2 ^ shift_at c.args.intra c.args.k)) w refl)
