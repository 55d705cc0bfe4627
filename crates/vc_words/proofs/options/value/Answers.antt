use Rattle.std.proofs.Common.{◌∙◌, sym}
use Rattle.vc_words.proofs.Reading.{no_value}
use Rattle.vc_words.proofs.options.value.Goals as goal

pub returns : goal.returns
returns c = sym (c.loop-rest.invariant ∙ no_value _ c.args.name.now c.loop-rest.rest.now c.in_default.len_below)
