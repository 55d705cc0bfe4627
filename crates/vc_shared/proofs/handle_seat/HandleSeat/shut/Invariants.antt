use Rattle.vc_base.specs.Device.{shut}
use Rattle.vc_shared.proofs.handle_seat.HandleSeat.shut.Given as goal

abbrev pub ghosts-note_shut : goal.ghosts-note_shut
ghosts-note_shut g a = record { event = shut }
