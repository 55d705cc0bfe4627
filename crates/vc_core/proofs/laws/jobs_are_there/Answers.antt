use Rattle.vc_core.proofs.JobsOfWorkersAreThere.{jobs_are_there as there}
use Rattle.vc_core.proofs.laws.jobs_are_there.Goals as goal

pub returns : goal.returns
returns c = there
