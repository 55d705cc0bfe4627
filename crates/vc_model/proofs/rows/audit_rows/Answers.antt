-- Each row is computed.
use Rattle.std.proofs.Common.{refl}
use Rattle.std.specs.Fmt.{digits}
use Rattle.vc_model.specs.Answer.{answer, context_answer, closed_answer}
use Rattle.vc_model.specs.Context.{settle}
use Rattle.vc_model.specs.Runs.{is_claimable, after_claim, run_result, after_finish, finish_word}
use Rattle.vc_model.specs.Devices.{device_step, with_slot}
use Rattle.vc_model.proofs.rows.audit_rows.Goals as goal

pub returns-clause-right_report : goal.returns-clause-right_report
unfolding answer context_answer closed_answer settle is_claimable after_claim run_result after_finish finish_word device_step with_slot digits
returns-clause-right_report c = refl

pub returns-clause-wrong_byte : goal.returns-clause-wrong_byte
unfolding answer context_answer closed_answer settle is_claimable after_claim run_result after_finish finish_word device_step with_slot digits
returns-clause-wrong_byte c = refl

pub returns-clause-cut_report : goal.returns-clause-cut_report
unfolding answer context_answer closed_answer settle is_claimable after_claim run_result after_finish finish_word device_step with_slot digits
returns-clause-cut_report c = refl

pub returns-clause-no_memory_there : goal.returns-clause-no_memory_there
unfolding answer context_answer closed_answer settle is_claimable after_claim run_result after_finish finish_word device_step with_slot digits
returns-clause-no_memory_there c = refl

pub returns-clause-fault_forgotten : goal.returns-clause-fault_forgotten
unfolding answer context_answer closed_answer settle is_claimable after_claim run_result after_finish finish_word device_step with_slot digits
returns-clause-fault_forgotten c = refl

pub returns-clause-fault_reported : goal.returns-clause-fault_reported
unfolding answer context_answer closed_answer settle is_claimable after_claim run_result after_finish finish_word device_step with_slot digits
returns-clause-fault_reported c = refl

pub returns-clause-last_line_unended : goal.returns-clause-last_line_unended
unfolding answer context_answer closed_answer settle is_claimable after_claim run_result after_finish finish_word device_step with_slot digits
returns-clause-last_line_unended c = refl

pub returns-clause-one_line_more : goal.returns-clause-one_line_more
unfolding answer context_answer closed_answer settle is_claimable after_claim run_result after_finish finish_word device_step with_slot digits
returns-clause-one_line_more c = refl

pub returns-clause-wrong_order : goal.returns-clause-wrong_order
unfolding answer context_answer closed_answer settle is_claimable after_claim run_result after_finish finish_word device_step with_slot digits
returns-clause-wrong_order c = refl

pub returns-clause-audit_is_cut : goal.returns-clause-audit_is_cut
returns-clause-audit_is_cut c = (refl, refl)
