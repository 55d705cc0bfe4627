use Rattle.std.proofs.Common.{◌≡◌, ◌∙◌, ◌<◌, ap, refl, not, get_or, replicate, ◌^◌, arith}
use Rattle.std.specs.Prelude.{pos, neg_ℤ, ◌≤ℤ◌, ◌*ℤ◌}
use Rattle.std.specs.Int.{w16}
use mir.Val.{to_z, of_z, SFits}
use Rattle.std.proofs.lemmas.Int.{ints, to_z-of_z}
use Rattle.std.proofs.lemmas.List.{get_or-replicate, length-replicate}
use Rattle.vc_defs.specs.Quantiser.{shift_at, dequantised}
use Rattle.vc_coder.proofs.FlatBlocksAreUniform.{flat_is}
use Rattle.vc_lanes.proofs.restoring.restored_flat.Goals as goal

pub returns-clause-is : goal.returns-clause-is
returns-clause-is c =
    let w : (neg_ℤ (pos 2048) ≤ℤ get_or c.args.q.now 0 (pos 0)) × (get_or c.args.q.now 0 (pos 0) ≤ℤ pos 2047) = c.requires.values 0 (omega arith) in
    let back : to_z w16 (of_z w16 (get_or c.args.q.now 0 (pos 0))) ≡ get_or c.args.q.now 0 (pos 0) = omega (arith, ints) in
    let fits : SFits w16 c.first_coefficient.result = record { sfits = c.first_coefficient.type_inv } in
    c.filled.ensures
    ∙ ap (λ z. replicate 64 z) (to_z-of_z w16 c.first_coefficient.result fits ∙ c.first_coefficient.ensures.value ∙ ap (λ z. z *ℤ pos (2 ^ shift_at (not c.args.inter) 0)) back)
    ∙ flat_is c.args.q.now (not c.args.inter) c.requires.flat

pub returns-clause-range : goal.returns-clause-range
returns-clause-range c k h =
    let inside : k < 64 = omega arith in
    let fits : SFits w16 c.first_coefficient.result = record { sfits = c.first_coefficient.type_inv } in
    let is : get_or c.filled.result k (pos 0) ≡ c.first_coefficient.result = ap (λ t. get_or t k (pos 0)) c.filled.ensures ∙ get_or-replicate 64 k (to_z w16 (of_z w16 c.first_coefficient.result)) (pos 0) inside ∙ to_z-of_z w16 c.first_coefficient.result fits in
    rw is (omega (arith, ints, c.first_coefficient.ensures.range), omega (arith, ints, c.first_coefficient.ensures.range))
