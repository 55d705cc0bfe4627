-- Each row is computed.
use Rattle.std.proofs.Common.{refl}
use Rattle.std.specs.Fmt.{digits}
use Rattle.hex.specs.Hex.{encode_with, decode_pairs}
use Rattle.vc_script.specs.Words.{words_of}
use Rattle.vc_script.specs.Verb.{verb_of}
use Rattle.vc_script.specs.Calls.{call_of}
use Rattle.vc_script.specs.Payload.{repeated, piece_of, pieces_of, payload_of}
use Rattle.vc_script.specs.Lines.{line_of}
use Rattle.vc_script.specs.Texts.{reply_text}
use Rattle.vc_model.specs.Answer.{answer, context_answer, closed_answer}
use Rattle.vc_model.specs.Context.{settle}
use Rattle.vc_model.specs.Runs.{is_claimable, after_claim, run_result, after_finish, finish_word}
use Rattle.vc_model.specs.Devices.{device_step, with_slot}
use Rattle.vc_top.proofs.rows.script_rows.Goals as goal

pub returns-clause-first_asks : goal.returns-clause-first_asks
unfolding line_of words_of verb_of call_of repeated piece_of pieces_of payload_of decode_pairs
returns-clause-first_asks c = refl

pub returns-clause-first_prints : goal.returns-clause-first_prints
unfolding answer context_answer closed_answer settle is_claimable after_claim run_result after_finish finish_word device_step with_slot reply_text encode_with digits
returns-clause-first_prints c = refl

pub returns-clause-running_asks : goal.returns-clause-running_asks
unfolding line_of words_of verb_of call_of repeated piece_of pieces_of payload_of decode_pairs
returns-clause-running_asks c = refl

pub returns-clause-running_prints : goal.returns-clause-running_prints
unfolding answer context_answer closed_answer settle is_claimable after_claim run_result after_finish finish_word device_step with_slot reply_text encode_with digits
returns-clause-running_prints c = refl

pub returns-clause-two_slots_ask : goal.returns-clause-two_slots_ask
unfolding line_of words_of verb_of call_of repeated piece_of pieces_of payload_of decode_pairs
returns-clause-two_slots_ask c = refl

pub returns-clause-two_slots_print : goal.returns-clause-two_slots_print
unfolding answer context_answer closed_answer settle is_claimable after_claim run_result after_finish finish_word device_step with_slot reply_text encode_with digits
returns-clause-two_slots_print c = refl

pub returns-clause-third_is_bad : goal.returns-clause-third_is_bad
unfolding line_of words_of verb_of call_of repeated piece_of pieces_of payload_of decode_pairs
returns-clause-third_is_bad c = refl
