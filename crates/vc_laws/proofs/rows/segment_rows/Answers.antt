-- Each row is computed.
use Rattle.std.proofs.Common.{refl}
use Rattle.vc_defs.specs.Walsh.{transformed, coefficient, walsh}
use Rattle.vc_defs.specs.Quantiser.{quantised, dequantised, shift_at}
use Rattle.vc_defs.specs.Words.{canon, in_scan_order, from_scan_order, scan_place, scan_number}
use Rattle.vc_defs.specs.Planes.{coded_blocks, block_of, coded_as, canon_plane, samples_of, decoded_blocks, decoded_plane, plane_of, padded_plane, unpadded}
use Rattle.vc_defs.specs.Headers.{header_bytes, header_from, is_legal}
use Rattle.vc_defs.specs.Bodies.{body_planes}
use Rattle.vc_defs.specs.Places.{places, look}
use Rattle.vc_defs.specs.Raw.{raw_of, planes_of}
use Rattle.vc_defs.specs.Decoder.{results, given_in, decode}
use Rattle.vc_defs.specs.Encoder.{encode}
use Rattle.vc_model.specs.Answer.{answer, context_answer, closed_answer}
use Rattle.vc_model.specs.Context.{settle}
use Rattle.vc_model.specs.Runs.{is_claimable, after_claim, run_result, after_finish, finish_word}
use Rattle.vc_model.specs.Solo.{solo_step}
use Rattle.vc_laws.specs.Segments.{segment_step}
use Rattle.vc_laws.proofs.rows.segment_rows.Goals as goal

pub returns-clause-two_bytes : goal.returns-clause-two_bytes
unfolding segment_step solo_step answer context_answer closed_answer settle is_claimable after_claim run_result after_finish finish_word decode raw_of
    results given_in places look header_from header_bytes is_legal body_planes from_scan_order scan_number dequantised transformed coefficient walsh
    shift_at samples_of block_of decoded_blocks decoded_plane plane_of padded_plane unpadded
returns-clause-two_bytes c = refl

pub returns-clause-two_results : goal.returns-clause-two_results
unfolding segment_step solo_step answer context_answer closed_answer settle is_claimable after_claim run_result after_finish finish_word decode raw_of
    results given_in places look header_from header_bytes is_legal body_planes from_scan_order scan_number dequantised transformed coefficient walsh
    shift_at samples_of block_of decoded_blocks decoded_plane plane_of padded_plane unpadded
returns-clause-two_results c = refl

pub returns-clause-two_stamps : goal.returns-clause-two_stamps
unfolding segment_step solo_step answer context_answer closed_answer settle is_claimable after_claim run_result after_finish finish_word decode raw_of
    results given_in places look header_from header_bytes is_legal body_planes from_scan_order scan_number dequantised transformed coefficient walsh
    shift_at samples_of block_of decoded_blocks decoded_plane plane_of padded_plane unpadded
returns-clause-two_stamps c = refl

pub returns-clause-two_retired : goal.returns-clause-two_retired
unfolding segment_step solo_step answer context_answer closed_answer settle is_claimable after_claim run_result after_finish finish_word decode raw_of
    results given_in places look header_from header_bytes is_legal body_planes from_scan_order scan_number dequantised transformed coefficient walsh
    shift_at samples_of block_of decoded_blocks decoded_plane plane_of padded_plane unpadded
returns-clause-two_retired c = refl

pub returns-clause-two_retired_bytes : goal.returns-clause-two_retired_bytes
unfolding segment_step solo_step answer context_answer closed_answer settle is_claimable after_claim run_result after_finish finish_word decode raw_of
    results given_in places look header_from header_bytes is_legal body_planes from_scan_order scan_number dequantised transformed coefficient walsh
    shift_at samples_of block_of decoded_blocks decoded_plane plane_of padded_plane unpadded
returns-clause-two_retired_bytes c = refl

pub returns-clause-cut_bytes : goal.returns-clause-cut_bytes
unfolding segment_step solo_step answer context_answer closed_answer settle is_claimable after_claim run_result after_finish finish_word decode raw_of
    results given_in places look header_from header_bytes is_legal body_planes from_scan_order scan_number dequantised transformed coefficient walsh
    shift_at samples_of block_of decoded_blocks decoded_plane plane_of padded_plane unpadded
returns-clause-cut_bytes c = refl

pub returns-clause-cut_results : goal.returns-clause-cut_results
unfolding segment_step solo_step answer context_answer closed_answer settle is_claimable after_claim run_result after_finish finish_word decode raw_of
    results given_in places look header_from header_bytes is_legal body_planes from_scan_order scan_number dequantised transformed coefficient walsh
    shift_at samples_of block_of decoded_blocks decoded_plane plane_of padded_plane unpadded
returns-clause-cut_results c = refl

pub returns-clause-cut_stamps : goal.returns-clause-cut_stamps
unfolding segment_step solo_step answer context_answer closed_answer settle is_claimable after_claim run_result after_finish finish_word decode raw_of
    results given_in places look header_from header_bytes is_legal body_planes from_scan_order scan_number dequantised transformed coefficient walsh
    shift_at samples_of block_of decoded_blocks decoded_plane plane_of padded_plane unpadded
returns-clause-cut_stamps c = refl

pub returns-clause-change_waits : goal.returns-clause-change_waits
unfolding segment_step solo_step answer context_answer closed_answer settle is_claimable after_claim run_result after_finish finish_word decode raw_of
    results given_in places look header_from header_bytes is_legal body_planes from_scan_order scan_number dequantised transformed coefficient walsh
    shift_at samples_of block_of decoded_blocks decoded_plane plane_of padded_plane unpadded
returns-clause-change_waits c = refl

pub returns-clause-change_retired : goal.returns-clause-change_retired
unfolding segment_step solo_step answer context_answer closed_answer settle is_claimable after_claim run_result after_finish finish_word decode raw_of
    results given_in places look header_from header_bytes is_legal body_planes from_scan_order scan_number dequantised transformed coefficient walsh
    shift_at samples_of block_of decoded_blocks decoded_plane plane_of padded_plane unpadded
returns-clause-change_retired c = refl

pub returns-clause-changed_results : goal.returns-clause-changed_results
unfolding segment_step solo_step answer context_answer closed_answer settle is_claimable after_claim run_result after_finish finish_word decode raw_of
    results given_in places look header_from header_bytes is_legal body_planes from_scan_order scan_number dequantised transformed coefficient walsh
    shift_at samples_of block_of decoded_blocks decoded_plane plane_of padded_plane unpadded
returns-clause-changed_results c = refl

pub returns-clause-sought_bytes : goal.returns-clause-sought_bytes
unfolding segment_step solo_step answer context_answer closed_answer settle is_claimable after_claim run_result after_finish finish_word decode raw_of
    results given_in places look header_from header_bytes is_legal body_planes from_scan_order scan_number dequantised transformed coefficient walsh
    shift_at samples_of block_of decoded_blocks decoded_plane plane_of padded_plane unpadded
returns-clause-sought_bytes c = refl

pub returns-clause-encoder_frames : goal.returns-clause-encoder_frames
unfolding segment_step solo_step answer context_answer closed_answer settle is_claimable after_claim run_result after_finish finish_word encode
    planes_of coded_blocks coded_as quantised canon_plane canon in_scan_order scan_place raw_of results given_in places look header_from header_bytes
    is_legal body_planes from_scan_order scan_number dequantised transformed coefficient walsh shift_at samples_of block_of decoded_blocks
    decoded_plane plane_of padded_plane unpadded
returns-clause-encoder_frames c = refl

pub returns-clause-encoder_retired : goal.returns-clause-encoder_retired
unfolding segment_step solo_step answer context_answer closed_answer settle is_claimable after_claim run_result after_finish finish_word encode
    planes_of coded_blocks coded_as quantised canon_plane canon in_scan_order scan_place raw_of results given_in places look header_from header_bytes
    is_legal body_planes from_scan_order scan_number dequantised transformed coefficient walsh shift_at samples_of block_of decoded_blocks
    decoded_plane plane_of padded_plane unpadded
returns-clause-encoder_retired c = (refl, refl)

pub returns-clause-encoder_takes_back : goal.returns-clause-encoder_takes_back
unfolding segment_step solo_step answer context_answer closed_answer settle is_claimable after_claim run_result after_finish finish_word encode
    planes_of coded_blocks coded_as quantised canon_plane canon in_scan_order scan_place raw_of results given_in places look header_from header_bytes
    is_legal body_planes from_scan_order scan_number dequantised transformed coefficient walsh shift_at samples_of block_of decoded_blocks
    decoded_plane plane_of padded_plane unpadded
returns-clause-encoder_takes_back c = (refl, refl)
