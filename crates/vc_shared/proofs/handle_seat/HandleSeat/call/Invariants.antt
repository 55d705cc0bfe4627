use Rattle.vc_context.specs.Payloads.{handed_over}
use Rattle.vc_shared.proofs.handle_seat.HandleSeat.call.Given as goal

abbrev pub ghosts-make_call : goal.ghosts-make_call
ghosts-make_call g a = record { bytes = handed_over a.request.now a.hold.now }
