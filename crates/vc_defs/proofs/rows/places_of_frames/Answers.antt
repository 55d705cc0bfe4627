-- Each row is computed.
use Rattle.std.proofs.Common.{refl}
use Rattle.vc_defs.specs.Headers.{header_bytes, header_from, is_legal}
use Rattle.vc_defs.specs.Places.{places, look}
use Rattle.vc_defs.proofs.rows.places_of_frames.Goals as goal

pub returns : goal.returns
unfolding places look header_bytes header_from is_legal
returns c =
    record {
      after_a_magic = refl;
      magic_unclaimed = refl;
      cut_at_41 = refl;
      sizes_at_41 = refl;
      above_limit_at_41 = refl;
      one_byte_of_next = refl;
      cut_by_next = refl;
    }
