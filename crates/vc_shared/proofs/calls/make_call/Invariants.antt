use Rattle.vc_base.specs.Device.{call}
use Rattle.vc_shared.proofs.calls.make_call.Given as goal

abbrev pub ghosts-note_call : goal.ghosts-note_call
ghosts-note_call g a = record { event = call a.slot a.request.now g.B.HandedOver.bytes a.found }
