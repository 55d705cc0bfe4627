use Rattle.std.specs.Int.{w32}
use mir.Val.{to_z, of_z}
use Rattle.vc_rlc.proofs.ValuesHaveTwelveBits.{no_values, values_set, value_held}
use Rattle.vc_rlc.proofs.tests.block.Goals as goal

pub loop-k-init : goal.loop-k-init
loop-k-init c = no_values

pub loop-k-preserved : goal.loop-k-preserved
loop-k-preserved c = values_set c.loop-k.q c.place.result (to_z w32 (of_z w32 c.value_or_zero.result)) c.loop-k.invariant (value_held c.value_or_zero.result c.value_or_zero.ensures)
