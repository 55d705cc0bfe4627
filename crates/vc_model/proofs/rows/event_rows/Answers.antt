-- Each row is computed.
use Rattle.std.proofs.Common.{refl}
use Rattle.vc_model.specs.Answer.{answer, context_answer, closed_answer}
use Rattle.vc_model.specs.Context.{settle}
use Rattle.vc_model.specs.Runs.{is_claimable, after_claim, run_result, after_finish, finish_word}
use Rattle.vc_model.specs.Devices.{device_step, with_slot}
use Rattle.vc_model.proofs.rows.event_rows.Goals as goal

pub returns-clause-copy_has_no_events : goal.returns-clause-copy_has_no_events
unfolding answer context_answer closed_answer settle is_claimable after_claim run_result after_finish finish_word device_step with_slot
returns-clause-copy_has_no_events c = λ coder. refl

pub returns-clause-oldest_event_dropped : goal.returns-clause-oldest_event_dropped
returns-clause-oldest_event_dropped c = (refl, refl, refl, refl)

pub returns-clause-seventeen_drains : goal.returns-clause-seventeen_drains
unfolding answer context_answer closed_answer settle is_claimable after_claim run_result after_finish finish_word device_step with_slot
returns-clause-seventeen_drains c = λ coder. refl
