use Rattle.vc_jobs.proofs.Holding.{front_taken, front_gone}
use Rattle.vc_jobs.proofs.JobList.take_front.Goals as goal

pub returns-clause-rest : goal.returns-clause-rest
returns-clause-rest c =
    front_taken _ _ _ c.in_ok-slot.ensures.sound c.in_ok-slot.ensures.front c.remove.ensures.removed

pub returns-clause-gone : goal.returns-clause-gone
returns-clause-gone c = front_gone _ _ _ c.remove.ensures.removed
