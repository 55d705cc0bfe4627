-- Each row is computed.
use Rattle.std.proofs.Common.{refl}
use Rattle.vc_defs.proofs.rows.blocks_of_words.Goals as goal

pub returns : goal.returns
returns c =
    record {
      read_with_rest = refl;
      passes_the_end = refl;
      no_word = refl;
      bytes_end = refl;
    }
