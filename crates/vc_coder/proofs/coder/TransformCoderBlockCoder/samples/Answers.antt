use Rattle.std.proofs.Common.{◌∙◌}
use Rattle.vc_coder.proofs.ShownIsRestored.{shown_is}
use Rattle.vc_coder.proofs.coder.TransformCoderBlockCoder.samples.Goals as goal

pub returns : goal.returns
returns g c = c.samples_over.ensures ∙ shown_is c.restored.result c.args.values.now c.args.inter c.args.old.now c.restored.ensures.is
