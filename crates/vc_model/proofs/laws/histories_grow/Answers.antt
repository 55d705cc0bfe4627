use Rattle.vc_model.proofs.HistoriesGrow.{histories_grow, last_events, last_positions, shuts_are_seen}
use Rattle.vc_model.proofs.laws.histories_grow.Goals as goal

pub returns-clause-steps : goal.returns-clause-steps
returns-clause-steps c = histories_grow

pub returns-clause-events : goal.returns-clause-events
returns-clause-events c = last_events

pub returns-clause-positions : goal.returns-clause-positions
returns-clause-positions c = last_positions

pub returns-clause-shuts : goal.returns-clause-shuts
returns-clause-shuts c = shuts_are_seen
