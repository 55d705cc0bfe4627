use Rattle.vc_worker.specs.Gains.{gained_one, turn_one}
use Rattle.std.proofs.Common.{sym, subst}
use Rattle.vc_port.specs.Stations.{IsOf}
use Rattle.vc_worker.proofs.helping.Help.turn.Goals as goal

pub finish-requires : goal.finish-requires
finish-requires g c =
    subst (λ has. IsOf has c.run-finished.result) (sym c.in-Job.ensures.claimed.has_it)
    (c.run-finished.ensures.done _ _ c.in-Job.ensures.claimed.is_of)

pub returns-in-Job-clause-gained : goal.returns-in-Job-clause-gained
returns-in-Job-clause-gained g c =
    gained_one _ _ _ _ _ _ _ _ _ c.in-Job.ensures.claimed.listed c.finish.ensures.listed c.run-finished.ensures.counts

pub returns-in-Job-clause-turn : goal.returns-in-Job-clause-turn
returns-in-Job-clause-turn g c =
    turn_one _ _ _ _ _ c.in-Job.ensures.claimed.listed c.finish.ensures.listed
