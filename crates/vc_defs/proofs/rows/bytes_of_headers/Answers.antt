-- Each row is computed.
use Rattle.std.proofs.Common.{refl}
use Rattle.vc_defs.specs.Headers.{header_bytes, header_from, is_legal}
use Rattle.vc_defs.proofs.rows.bytes_of_headers.Goals as goal

pub returns : goal.returns
unfolding header_bytes header_from is_legal
returns c =
    record {
      header_of_f = refl;
      header_of_f4 = refl;
      header_of_g4 = refl;
      number_seven = refl;
      flags_420 = refl;
      flags_422 = refl;
      read_back = refl;
      size_above_limit = refl;
      colour_above_255 = refl;
    }
