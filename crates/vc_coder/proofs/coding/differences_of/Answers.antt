use Rattle.std.proofs.Common.{arith, get_or}
use Rattle.std.specs.Prelude.{pos, ◌-ℤ◌}
use Rattle.vc_defs.specs.Planes.{base_of}
use Rattle.vc_defs.proofs.ListsByPlace.{table_is}
use Rattle.vc_coder.proofs.coding.differences_of.Goals as goal

pub returns-clause-values : goal.returns-clause-values
returns-clause-values c = table_is (λ k. pos (get_or c.args.block.now k 0) -ℤ base_of c.args.inter c.args.old.now k) 64 c.loop-k.x c.loop-k.invariant.long (λ k h. c.loop-k.invariant.filled k (omega arith))
