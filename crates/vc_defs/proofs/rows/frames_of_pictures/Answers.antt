-- Each row is computed.
use Rattle.std.proofs.Common.{refl}
use Rattle.vc_defs.specs.Walsh.{transformed, coefficient, walsh}
use Rattle.vc_defs.specs.Quantiser.{quantised, dequantised, shift_at}
use Rattle.vc_defs.specs.Words.{canon, in_scan_order, from_scan_order, scan_place, scan_number}
use Rattle.vc_defs.specs.Planes.{coded_blocks, block_of, coded_as, canon_plane, samples_of, decoded_blocks, decoded_plane, plane_of, padded_plane, unpadded}
use Rattle.vc_defs.specs.Headers.{header_bytes, header_from, is_legal}
use Rattle.vc_defs.specs.Bodies.{body_planes}
use Rattle.vc_defs.specs.Places.{places, look}
use Rattle.vc_defs.specs.Raw.{raw_of}
use Rattle.vc_defs.specs.Decoder.{results, given_in}
use Rattle.vc_defs.specs.Encoder.{encoded}
use Rattle.vc_defs.specs.Outputs.{decode_output}
use Rattle.vc_defs.proofs.rows.frames_of_pictures.Goals as goal

pub returns : goal.returns
unfolding encoded decode_output raw_of padded_plane unpadded header_bytes coded_blocks block_of coded_as transformed coefficient walsh quantised
    dequantised shift_at canon_plane canon in_scan_order scan_place samples_of decoded_blocks decoded_plane plane_of results given_in places look
    header_from is_legal body_planes from_scan_order scan_number
returns c =
    record {
      two_pictures = refl;
      all_255 = refl;
      all_0 = refl;
      exactly_255 = refl;
      blocks_of_p = refl;
      blocks_of_p_exactly = refl;
      blocks_of_p_decoded = refl;
      half_chroma = refl;
      full_chroma = refl;
    }
