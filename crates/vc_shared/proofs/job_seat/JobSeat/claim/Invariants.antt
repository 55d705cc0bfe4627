use Rattle.vc_base.specs.Device.{claim}
use Rattle.vc_shared.proofs.job_seat.JobSeat.claim.Given as goal

abbrev pub ghosts-note_claim : goal.ghosts-note_claim
ghosts-note_claim g a = record { event = claim a.worker }
