use Rattle.std.proofs.Common.{◌∙◌, ◌++◌, ap, replicate, refl, arith}
use Rattle.std.specs.Prelude.{min}
use Rattle.circular_buffer.specs.Buffer.{keep_last}
use Rattle.vc_resync.proofs.LastStampsAreKept.{keep_twice, keep_enough}
use Rattle.vc_resync.proofs.stamps.keep.Goals as goal

pub returns-clause-items : goal.returns-clause-items
returns-clause-items c =
    ap (λ b. b.items) c.truncate_front.ensures
    ∙ ap (λ t. keep_last c.args.kept t) c.push.ensures.items
    ∙ keep_twice 43 c.args.kept (min 43 c.args.kept) (c.args.last.now.items ++ replicate c.min-2.result c.args.stamp) refl
    ∙ keep_enough (min 43 c.args.kept) c.args.count c.min-2.result c.args.last.now.items c.args.stamp (omega (arith, c.min.ensures, c.min-2.ensures))
