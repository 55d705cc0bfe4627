use Rattle.vc_worker.specs.Gains.{gained_none, gained_on, gained_one}
use Rattle.std.proofs.Common.{sym, subst}
use Rattle.vc_port.specs.Stations.{IsOf}
use Rattle.vc_worker.proofs.worker.serve.Goals as goal

pub finish-requires : goal.finish-requires
finish-requires g c =
    subst (λ has. IsOf has c.run-finished.result) (sym c.in-Job.ensures.claimed.has_it)
    (c.run-finished.ensures.done _ _ c.in-Job.ensures.claimed.is_of)

pub loop-init : goal.loop-init
loop-init g c = (c.requires, g.met.T.Station.follows_self c.args.station, gained_none _ _ _)

pub loop-preserved-in-Job : goal.loop-preserved-in-Job
loop-preserved-in-Job g c =
    let i = c.loop.invariant in
    let claim = c.in-Job.ensures in
    let law = g.met.T.Station in (
      c.finish.ensures.job,
      law.follows_on _ _ _ i.1 (law.follows_on _ _ _ claim.follows c.finish.ensures.follows),
      gained_on _ _ _ _ _ _ _ _ _ i.2
          (gained_one _ _ _ _ _ _ _ _ _ claim.claimed.listed c.finish.ensures.listed c.run-finished.ensures.counts),
    )
