use Rattle.std.proofs.Common.{◌≡◌, ◌∙◌, ap, ◌+◌, ◌*◌, ◌/◌, ◌%◌}
use Rattle.vc_defs.specs.Raw.{generated_sample}
use Rattle.vc_raw.proofs.sample_at.Goals as goal

pub returns : goal.returns
unfolding generated_sample
returns c =
    ap (λ t. (t + c.bend.result) % 256) c.from.ensures
    ∙ ap (λ t. (c.args.x + 2 * c.args.y + 3 * c.args.picture + 64 * c.args.plane + c.args.number + t) % 256) c.bend.ensures.value
