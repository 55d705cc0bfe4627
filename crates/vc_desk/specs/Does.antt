-- What a line does to the device, and the text that it prints.
use Rattle.std.specs.Prelude.{ℕ, ◌≡◌, List, ◌++◌}
use Rattle.vc_base.specs.Device.{DeviceEvent}
use Rattle.vc_model.specs.Coder.{the_coder}
use Rattle.vc_model.specs.Devices.{DeviceState}
use Rattle.vc_model.specs.Script.{Asked, line_events, line_text, lines_printed, first_lines}
use Rattle.vc_script.specs.Texts.{reply_text}

-- The line prints the text, and these are its events: they are read off the text, and the text is what the device tells at
-- them. The text ends with its last line.
pub record LineDoes (d : DeviceState) (asked : Asked) (text : List ℕ) (events : List DeviceEvent) : Type 0 where
  pub whole : (more : List ℕ) → first_lines (text ++ more) (lines_printed d asked) ≡ text
  pub events_read : line_events reply_text d asked text ≡ events
  pub told : text ≡ line_text reply_text the_coder d asked events
