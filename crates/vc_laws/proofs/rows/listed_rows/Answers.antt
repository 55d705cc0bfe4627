-- Each row is computed.
use Rattle.std.proofs.Common.{refl}
use Rattle.vc_defs.specs.Raw.{raw_of}
use Rattle.vc_model.specs.Answer.{answer, context_answer, closed_answer}
use Rattle.vc_model.specs.Context.{settle}
use Rattle.vc_model.specs.Runs.{is_claimable, after_claim, run_result, after_finish, finish_word}
use Rattle.vc_model.specs.Solo.{solo_step}
use Rattle.vc_laws.specs.Segments.{segment_step}
use Rattle.vc_laws.proofs.rows.listed_rows.Goals as goal

pub returns-clause-listed_bytes : goal.returns-clause-listed_bytes
unfolding segment_step solo_step answer context_answer closed_answer settle is_claimable after_claim run_result after_finish finish_word raw_of
returns-clause-listed_bytes c = refl

pub returns-clause-listed_sources : goal.returns-clause-listed_sources
unfolding segment_step solo_step answer context_answer closed_answer settle is_claimable after_claim run_result after_finish finish_word raw_of
returns-clause-listed_sources c = refl

pub returns-clause-listed_results : goal.returns-clause-listed_results
unfolding segment_step solo_step answer context_answer closed_answer settle is_claimable after_claim run_result after_finish finish_word raw_of
returns-clause-listed_results c = refl

pub returns-clause-listed_stamps : goal.returns-clause-listed_stamps
unfolding segment_step solo_step answer context_answer closed_answer settle is_claimable after_claim run_result after_finish finish_word raw_of
returns-clause-listed_stamps c = refl

pub returns-clause-listed_retired : goal.returns-clause-listed_retired
unfolding segment_step solo_step answer context_answer closed_answer settle is_claimable after_claim run_result after_finish finish_word raw_of
returns-clause-listed_retired c = refl
