use Rattle.std.proofs.Common.{◌≡◌, ◌<◌, length}
use Rattle.vc_model.specs.Devices.{slot_of}
use Rattle.vc_context.specs.Payloads.{FitsSlot}
use Rattle.device_rows.proofs.tests.replies.Given as goal

abbrev pub invariant-loop-call : goal.invariant-loop-call
invariant-loop-call g l =
    record { there : 0 < length l.device.slots; workers : l.device.workers ≡ l.fn.device.workers; fits : FitsSlot (slot_of l.device 0) l.hold }
