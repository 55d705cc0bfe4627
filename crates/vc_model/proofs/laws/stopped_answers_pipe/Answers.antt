use Rattle.vc_model.proofs.EventsKeepSound.{stopped_answers_pipe}
use Rattle.vc_model.proofs.laws.stopped_answers_pipe.Goals as goal

pub returns : goal.returns
returns c = stopped_answers_pipe
