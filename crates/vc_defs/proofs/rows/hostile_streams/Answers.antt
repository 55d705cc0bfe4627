-- Each row is computed.
use Rattle.std.proofs.Common.{refl}
use Rattle.vc_defs.specs.Walsh.{transformed, coefficient, walsh}
use Rattle.vc_defs.specs.Quantiser.{dequantised, shift_at}
use Rattle.vc_defs.specs.Words.{from_scan_order, scan_number}
use Rattle.vc_defs.specs.Planes.{block_of, samples_of, decoded_blocks, decoded_plane, plane_of, padded_plane, unpadded}
use Rattle.vc_defs.specs.Headers.{header_bytes, header_from, is_legal}
use Rattle.vc_defs.specs.Bodies.{body_planes}
use Rattle.vc_defs.specs.Places.{places, look}
use Rattle.vc_defs.specs.Raw.{raw_of}
use Rattle.vc_defs.specs.Decoder.{results, given_in}
use Rattle.vc_defs.specs.Outputs.{decode_output, is_damaged_input}
use Rattle.vc_defs.proofs.rows.hostile_streams.Goals as goal

pub returns : goal.returns
unfolding decode_output is_damaged_input raw_of results given_in places look header_from header_bytes is_legal body_planes from_scan_order scan_number
    dequantised transformed coefficient walsh shift_at samples_of block_of decoded_blocks decoded_plane plane_of padded_plane unpadded
returns c =
    record {
      too_short = (refl, refl);
      version_5 = (refl, refl);
      unknown_flag = (refl, refl);
      two_components = (refl, refl);
      narrow = (refl, refl);
      colour_256 = (refl, refl);
      odd_height = (refl, refl);
      many_repeats = (refl, refl);
      inter_head = (refl, refl);
      odd_head = (refl, refl);
      high_head = (refl, refl);
      no_word = (refl, refl);
      three_bytes = (refl, refl);
      six_bytes = (refl, refl);
      one_byte_more = (refl, refl);
      greatest_size = (refl, refl);
      above_greatest = (refl, refl);
      first_41 = (refl, refl);
      other_size = (refl, refl);
      all_words = (refl, refl);
      no_repeats = (refl, refl);
      raw_128 = (refl, refl);
      raw_255 = (refl, refl);
      three_zeros = (refl, refl);
      first_40 = (refl, refl);
      p_alone = (refl, refl);
      p_without_body = (refl, refl);
      p_cut = (refl, refl);
      nothing = (refl, refl);
    }
