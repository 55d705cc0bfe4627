-- Each row is computed.
use Rattle.std.proofs.Common.{refl}
use Rattle.vc_defs.specs.Words.{canon}
use Rattle.vc_defs.proofs.rows.words_of_blocks.Goals as goal

pub returns : goal.returns
unfolding canon
returns c =
    record {
      all_zero = refl;
      greatest_first = refl;
      least_first = refl;
      run_of_15 = refl;
      run_of_14 = refl;
      last_alone = refl;
      zero_at_end = refl;
      zeros_at_end = refl;
    }
