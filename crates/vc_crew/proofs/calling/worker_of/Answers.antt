use Rattle.std.proofs.Common.{◌≡◌, Some, ap, subst}
use Rattle.vc_shared.specs.Workers.{WorkerState, IsWorker}
use Rattle.vc_crew.proofs.HelpComesBack.{made_of}
use Rattle.vc_crew.proofs.calling.worker_of.Goals as goal

pub returns-in-Some : goal.returns-in-Some
returns-in-Some g c =
    let same : c.steady-seat.result ≡ c.in-Some.field-0.station = cc (c.into_seat.ensures) in
    made_of _ _ _ c.in-Some.field-0 _ c.in-Some.is (ap (λ (s : WorkerState). Some (record { seat = s; engine = c.in-Some.field-0.engine })) same) (subst IsWorker same c.steady-seat.ensures.steady)
