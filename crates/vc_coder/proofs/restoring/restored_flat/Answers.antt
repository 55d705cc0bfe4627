use Rattle.std.proofs.Common.{◌≡◌, ◌∙◌, ap, refl, not, get_or, replicate, ◌^◌, arith}
use Rattle.std.specs.Prelude.{pos, neg_ℤ, ◌≤ℤ◌, ◌*ℤ◌}
use Rattle.std.specs.Int.{w32}
use mir.Val.{to_z, of_z, SFits}
use Rattle.std.proofs.lemmas.Int.{ints, to_z-of_z}
use Rattle.vc_defs.specs.Quantiser.{shift_at, dequantised}
use Rattle.vc_quant.proofs.ValuesStayInRange.{dequantised_in_range}
use Rattle.vc_coder.proofs.RestoredStaysInRange.{restored_in_range, length-dequantised}
use Rattle.vc_coder.proofs.FlatBlocksAreUniform.{flat_is}
use Rattle.vc_coder.proofs.restoring.restored_flat.Goals as goal

pub returns-clause-is : goal.returns-clause-is
returns-clause-is c =
    let w : (neg_ℤ (pos 2048) ≤ℤ get_or c.args.q.now 0 (pos 0)) × (get_or c.args.q.now 0 (pos 0) ≤ℤ pos 2047) = c.requires.values 0 (omega arith) in
    let back : to_z w32 (of_z w32 (get_or c.args.q.now 0 (pos 0))) ≡ get_or c.args.q.now 0 (pos 0) = omega (arith, ints) in
    let fits : SFits w32 c.first_coefficient.result = record { sfits = c.first_coefficient.type_inv } in
    c.filled.ensures
    ∙ ap (λ z. replicate 64 z) (to_z-of_z w32 c.first_coefficient.result fits ∙ c.first_coefficient.ensures ∙ ap (λ z. z *ℤ pos (2 ^ shift_at (not c.args.inter) 0)) back)
    ∙ flat_is c.args.q.now (not c.args.inter) c.requires.flat

pub returns-clause-range : goal.returns-clause-range
returns-clause-range c =
    restored_in_range c.filled.result (dequantised c.args.q.now (not c.args.inter)) (returns-clause-is c) (length-dequantised (dequantised c.args.q.now (not c.args.inter)) c.args.q.now (not c.args.inter) refl)
    (dequantised_in_range (dequantised c.args.q.now (not c.args.inter)) c.args.q.now (not c.args.inter) refl c.told-q c.requires.values)
