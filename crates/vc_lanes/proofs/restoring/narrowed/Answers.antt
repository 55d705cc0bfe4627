use Rattle.std.proofs.Common.{arith}
use Rattle.std.specs.Prelude.{pos}
use Rattle.std.proofs.lemmas.List.{ext_get_or}
use Rattle.vc_lanes.proofs.restoring.narrowed.Goals as goal

pub returns : goal.returns
returns c = ext_get_or (pos 0) c.loop-k.q c.args.values.now (omega arith) (λ k h. c.loop-k.invariant.filled k (omega arith))
