use Rattle.vc_stream_laws.proofs.JobsKeepAStream.{jobs_keep}
use Rattle.vc_stream_laws.proofs.laws.jobs_keep.Goals as goal

pub returns : goal.returns
returns c = jobs_keep
