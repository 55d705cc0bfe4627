-- Each row is computed.
use Rattle.std.proofs.Common.{refl}
use Rattle.vc_model.specs.Answer.{answer, context_answer, closed_answer}
use Rattle.vc_model.specs.Context.{settle}
use Rattle.vc_model.specs.Runs.{is_claimable, after_claim, run_result, after_finish, finish_word}
use Rattle.vc_model.specs.Devices.{device_step, with_slot}
use Rattle.vc_model.proofs.rows.format_rows.Goals as goal

pub returns-clause-copy_formats : goal.returns-clause-copy_formats
unfolding answer context_answer closed_answer settle is_claimable after_claim run_result after_finish finish_word device_step with_slot
returns-clause-copy_formats c = λ coder. refl

pub returns-clause-encoder_formats : goal.returns-clause-encoder_formats
unfolding answer context_answer closed_answer settle is_claimable after_claim run_result after_finish finish_word device_step with_slot
returns-clause-encoder_formats c = λ coder. refl

pub returns-clause-encoder_controls : goal.returns-clause-encoder_controls
unfolding answer context_answer closed_answer settle is_claimable after_claim run_result after_finish finish_word device_step with_slot
returns-clause-encoder_controls c = λ coder. refl
