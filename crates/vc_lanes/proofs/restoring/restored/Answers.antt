use Rattle.std.proofs.Common.{sym, subst, List, not, ◌≡◌}
use Rattle.std.specs.Prelude.{ℤ, IfSome}
use Rattle.vc_defs.specs.Walsh.{transformed}
use Rattle.vc_defs.specs.Quantiser.{AreValues, dequantised}
use Rattle.vc_lanes.proofs.restoring.restored.Goals as goal

pub restored_short-requires : goal.restored_short-requires
restored_short-requires c = subst (λ (q : List ℤ). AreValues q) (sym c.narrowed.ensures) c.requires

pub returns-clause-is : goal.returns-clause-is
returns-clause-is c = subst (λ (q : List ℤ). IfSome c.restored_short.result (λ y. y ≡ transformed (dequantised q (not c.args.inter)))) c.narrowed.ensures c.restored_short.ensures.is
