-- Numbers that count up: none of a context is above the number of steps of the device (docs/DEVICE.md, "Many contexts").
use Rattle.std.specs.Prelude.{ℕ, ◌≡◌, ◌≤◌, Some, List}
use Rattle.vc_base.specs.Device.{DeviceEvent}
use Rattle.vc_model.specs.Coder.{Coder}
use Rattle.vc_model.specs.Context.{Context}
use Rattle.vc_model.specs.Devices.{new_device, slot_of, device_after}

-- the numbers of buffers that were queued, those of the next buffers that go to done, and that of the next event
pub record IsCounted (steps : ℕ) (c : Context) : Type 0 where
  pub out_queued : c.out.next_ordinal ≤ steps
  pub cap_queued : c.cap.next_ordinal ≤ steps
  pub out_done : c.out.next_seq ≤ steps
  pub cap_done : c.cap.next_seq ≤ steps
  pub events : c.events.next_seq ≤ steps

abbrev pub CountersAreSteps : Type 0
CountersAreSteps =
    (coder : Coder) (n k : ℕ) (history : List DeviceEvent) (c : Context) → let d = device_after coder (new_device n) history in slot_of d k ≡ Some c → IsCounted d.steps c
