use Rattle.std.proofs.Common.{subst}
use Rattle.vc_shared.specs.Workers.{WorkerState, IsWorker}
use Rattle.vc_shared.proofs.ClaimsByWorker.{is_worker}
use Rattle.vc_shared.proofs.job_seat.JobSeat.known.Goals as goal

pub returns : goal.returns
returns c =
    let s = c.self.inside in
    subst (λ (v : WorkerState). IsWorker v) c.self.view_is (is_worker s.seat s.sizes s.worker s.over c.self.invariant)
