use Rattle.std.proofs.Common.{◌≡◌, vec_len}
use Rattle.pipeline_rows.proofs.commands.run.Given as goal

abbrev pub invariant-loop-number : goal.invariant-loop-number
invariant-loop-number g l = vec_len l.engines ≡ l.number
