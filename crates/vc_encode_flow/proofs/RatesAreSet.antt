-- Controls that are set one after another give the rates, since each value is in the range of its control.
use Rattle.std.proofs.Common.{ℕ, ◌≡◌, ◌≤◌, nat_le, Bool, true, false, cond, ◌&&◌, Some, None, ap, ◌∙◌}
use Rattle.std.proofs.lemmas.Bool.{le-leb}
use Rattle.vc_base.specs.declared.Kind.TheVariants.{Enc}
use Rattle.vc_defs.specs.Encoder.{RunRates}
use Rattle.vc_model.specs.Answer.{with_control}

within : (value most : ℕ) → 1 ≤ value → value ≤ most → (nat_le 1 value && nat_le value most) ≡ true
within value most a b =
    ap (λ (t : Bool). t && nat_le value most) (le-leb 1 value a) ∙ le-leb value most b

pub gop_set : (rates : RunRates) (value : ℕ) → 1 ≤ value → value ≤ 16 → with_control Enc rates 1 value ≡ Some (record rates { gop = value })
gop_set rates value a b =
    ap (λ (t : Bool). cond t (Some (record rates { gop = value })) None) (within value 16 a b)

pub iqp_set : (rates : RunRates) (value : ℕ) → 1 ≤ value → value ≤ 31 → with_control Enc rates 2 value ≡ Some (record rates { iqp = value })
iqp_set rates value a b =
    ap (λ (t : Bool). cond t (Some (record rates { iqp = value })) (cond false (Some (record rates { pqp = value })) None)) (within value 31 a b)

pub pqp_set : (rates : RunRates) (value : ℕ) → 1 ≤ value → value ≤ 31 → with_control Enc rates 3 value ≡ Some (record rates { pqp = value })
pqp_set rates value a b =
    ap (λ (t : Bool). cond t (Some (record rates { pqp = value })) None) (within value 31 a b)
