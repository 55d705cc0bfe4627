-- Each row is computed.
use Rattle.std.proofs.Common.{refl}
use Rattle.vc_model.specs.Answer.{answer, context_answer, closed_answer}
use Rattle.vc_model.specs.Context.{settle}
use Rattle.vc_model.specs.Runs.{is_claimable, after_claim, run_result, after_finish, finish_word}
use Rattle.vc_model.specs.Devices.{device_step, with_slot}
use Rattle.vc_model.proofs.rows.wire_rows.Goals as goal

pub returns-clause-nothing_asked : goal.returns-clause-nothing_asked
unfolding answer context_answer closed_answer settle is_claimable after_claim run_result after_finish finish_word device_step with_slot
returns-clause-nothing_asked c = (refl, refl)

pub returns-clause-opened_twice : goal.returns-clause-opened_twice
unfolding answer context_answer closed_answer settle is_claimable after_claim run_result after_finish finish_word device_step with_slot
returns-clause-opened_twice c = ((refl, (refl, refl)), refl)

pub returns-clause-closed_polled : goal.returns-clause-closed_polled
unfolding answer context_answer closed_answer settle is_claimable after_claim run_result after_finish finish_word device_step with_slot
returns-clause-closed_polled c = ((refl, refl), refl)

pub returns-clause-none_and_bad : goal.returns-clause-none_and_bad
unfolding answer context_answer closed_answer settle is_claimable after_claim run_result after_finish finish_word device_step with_slot
returns-clause-none_and_bad c = ((refl, (refl, refl)), refl)

pub returns-clause-one_copy_replied : goal.returns-clause-one_copy_replied
unfolding answer context_answer closed_answer settle is_claimable after_claim run_result after_finish finish_word device_step with_slot
returns-clause-one_copy_replied c = ((refl, (refl, (refl, (refl, (refl, (refl, (refl, (refl, (refl, (refl, (refl, refl))))))))))), refl)

pub returns-clause-bad_rest : goal.returns-clause-bad_rest
unfolding answer context_answer closed_answer settle is_claimable after_claim run_result after_finish finish_word device_step with_slot
returns-clause-bad_rest c = (((refl, refl), refl), (refl, refl))

pub returns-clause-fed_in_pieces : goal.returns-clause-fed_in_pieces
returns-clause-fed_in_pieces c = (refl, refl, refl, refl)

pub returns-clause-fed_byte_by_byte : goal.returns-clause-fed_byte_by_byte
returns-clause-fed_byte_by_byte c = (refl, refl, refl)

pub returns-clause-slots_of_replies : goal.returns-clause-slots_of_replies
unfolding answer context_answer closed_answer settle is_claimable after_claim run_result after_finish finish_word device_step with_slot
returns-clause-slots_of_replies c = (((refl, (refl, (refl, (refl, refl)))), refl), refl, refl, refl, refl)
