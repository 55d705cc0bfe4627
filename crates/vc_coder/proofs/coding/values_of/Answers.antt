use Rattle.std.proofs.Common.{◌∙◌, sym, ap, subst, List, not}
use Rattle.std.specs.Prelude.{ℤ}
use Rattle.vc_defs.specs.Walsh.{transformed}
use Rattle.vc_defs.specs.Quantiser.{AreCoefficients, quantised}
use Rattle.vc_defs.specs.Planes.{coded_as}
use Rattle.vc_defs.proofs.CoefficientsFit.{coefficients_fit}
use Rattle.vc_coder.specs.Blocks.{block_with}
use Rattle.vc_coder.proofs.RestoredStaysInRange.{small_bytes}
use Rattle.vc_coder.proofs.coding.values_of.Goals as goal

pub quantise-requires-clause-coefficients : goal.quantise-requires-clause-coefficients
quantise-requires-clause-coefficients g c =
    subst (λ (x : List ℤ). AreCoefficients (not c.args.inter) x) (sym (c.forward.ensures ∙ ap transformed c.differences_of.ensures.values))
    (coefficients_fit c.args.inter c.args.block.now c.args.old.now (small_bytes c.args.block.now c.fits-block) (small_bytes c.args.old.now c.fits-old))

pub returns-clause-coded : goal.returns-clause-coded
unfolding coded_as
returns-clause-coded g c =
    ap (λ vs. block_with c.args.inter vs) (c.quantise.ensures.quantised ∙ ap (λ x. quantised x (not c.args.inter) c.args.qp) (c.forward.ensures ∙ ap transformed c.differences_of.ensures.values))
