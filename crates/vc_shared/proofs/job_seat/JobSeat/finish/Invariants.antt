use Rattle.vc_base.specs.Device.{finish}
use Rattle.vc_shared.proofs.job_seat.JobSeat.finish.Given as goal

abbrev pub ghosts-note_finish : goal.ghosts-note_finish
ghosts-note_finish g a = record { event = finish a.worker a.fault }
