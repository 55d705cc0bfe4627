use Rattle.vc_defs.proofs.RepeatedBlocks.{most_repeats, one_block_more}
use Rattle.vc_defs.proofs.rows.repeats_of_blocks.Goals as goal

pub returns : goal.returns
returns c = record { most_repeats = most_repeats; one_block_more = one_block_more }
