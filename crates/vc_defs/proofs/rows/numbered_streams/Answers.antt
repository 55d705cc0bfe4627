-- Each row is computed.
use Rattle.std.proofs.Common.{refl}
use Rattle.vc_defs.specs.Walsh.{transformed, coefficient, walsh}
use Rattle.vc_defs.specs.Quantiser.{dequantised, shift_at}
use Rattle.vc_defs.specs.Words.{from_scan_order, scan_number}
use Rattle.vc_defs.specs.Planes.{block_of, samples_of, decoded_blocks, decoded_plane, plane_of, padded_plane, unpadded}
use Rattle.vc_defs.specs.Headers.{header_bytes, header_from, is_legal}
use Rattle.vc_defs.specs.Bodies.{body_planes}
use Rattle.vc_defs.specs.Places.{places, look}
use Rattle.vc_defs.specs.Raw.{raw_of}
use Rattle.vc_defs.specs.Decoder.{results, given_in}
use Rattle.vc_defs.specs.Outputs.{decode_output, is_damaged_input}
use Rattle.vc_defs.proofs.rows.numbered_streams.Goals as goal

pub returns : goal.returns
unfolding decode_output is_damaged_input raw_of results given_in places look header_from header_bytes is_legal body_planes from_scan_order scan_number
    dequantised transformed coefficient walsh shift_at samples_of block_of decoded_blocks decoded_plane plane_of padded_plane unpadded
returns c =
    record {
      both_numbers = (refl, refl);
      one_lost = (refl, refl);
      passed_over = (refl, refl);
      after_none = (refl, refl);
      none_between = (refl, refl);
      begins_again = (refl, refl);
      number_in_version_3 = (refl, refl);
    }
