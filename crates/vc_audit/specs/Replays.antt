-- The replay of one line of a script, as the report says of memory and of faults.
use Rattle.std.specs.Prelude.{ℕ, ◌≡◌, ◌⊎◌, Bool, true, false, if◌then◌else◌, bytes_eq, length, None, Some, List, [], ◌∷◌, ◌++◌}
use Rattle.vc_base.specs.Counts.{Rose}
use Rattle.vc_base.specs.declared.Errno.TheVariants.{NoMem}
use Rattle.vc_base.specs.declared.Call.{Call}
use Rattle.vc_base.specs.declared.Reply.{Reply}
use Rattle.vc_base.specs.declared.Reply.TheVariants.{Refused}
use Rattle.vc_base.specs.Device.{DeviceEvent, finish}
use Rattle.vc_model.specs.Coder.{the_coder}
use Rattle.vc_model.specs.Runs.{JobData, finish_word}
use Rattle.vc_model.specs.Solo.{Finished}
use Rattle.vc_model.specs.Devices.{DeviceState, Told, job_of, device_step}
use Rattle.vc_model.specs.Script.{Asked, split_lines, line_events, line_text, lines_printed, printed_by}
use Rattle.vc_model.specs.Audit.{same_lines}
use Rattle.vc_script.specs.Texts.{reply_text, finish_text, idle_text}
use Rattle.vc_desk.specs.declared.desk.Desk.{Desk}
use Rattle.vc_desk.specs.declared.ends.FinishEnd.{FinishEnd}
use Rattle.vc_desk.specs.declared.ends.FinishEnd.TheVariants.{Idle, Ended}
use Rattle.vc_desk.specs.Desks.{after, IsDesk}
use Rattle.vc_desk.specs.Workers.{WasIdle, HasEnded}
use Rattle.vc_audit.specs.declared.pieces.LineEnd.{LineEnd}
use Rattle.vc_audit.specs.declared.pieces.LineEnd.TheVariants.{Same, Wrong, Fault}

-- how lines of the report are, where these are wanted
abbrev pub judged : List ℕ → List ℕ → ℕ → LineEnd
judged text wanted count =
    if bytes_eq text wanted then Same (length text) count else Wrong (same_lines (split_lines text) (split_lines wanted))

-- the text tells that no memory was found for the call
abbrev pub is_want : ℕ → Call → List ℕ → Bool
is_want slot request text = bytes_eq text (reply_text slot request (Refused NoMem) [])

-- the call was refused for want of memory
abbrev pub tells_lack : Reply → Bool
tells_lack (Refused NoMem) = true
tells_lack reply = false

-- the events of a line, read off a report
abbrev pub replayed_events : DeviceState → Asked → List ℕ → List DeviceEvent
replayed_events d asked report = line_events reply_text d asked (printed_by d asked report)

-- what the device prints at these events
abbrev pub wanted_text : DeviceState → Asked → List ℕ → List ℕ
wanted_text d asked report = line_text reply_text the_coder d asked (replayed_events d asked report)

-- The line was replayed: its events are those that are read off the report, and its lines of the report were compared with what
-- the device prints at them.
pub record LineReplayed (n : ℕ) (history : List DeviceEvent) (asked : Asked) (report : List ℕ) (end : LineEnd) (desk : Desk) : Type 0 where
  pub at : IsDesk n (history ++ replayed_events (after n history) asked report) desk
  pub ends : end ≡ judged (printed_by (after n history) asked report) (wanted_text (after n history) asked report) (lines_printed (after n history) asked)

-- the line was replayed, or the engine gave up in its job
abbrev pub Replayed : ℕ → List DeviceEvent → Asked → List ℕ → ℕ → ℕ → Desk → LineEnd → Type 0
Replayed n history asked report faults faults' desk end =
    LineReplayed n history asked report end desk ⊎ ((end ≡ Fault) × Rose faults faults')

-- how a job ended that was to end with a fault or without: with no fault where it was to end with one, and where a fault was not
-- to come the engine counts it
abbrev pub EndedAs : ℕ → List DeviceEvent → ℕ → Bool → ℕ → ℕ → Desk → FinishEnd → Type 0
EndedAs n history worker gives_up faults faults' desk Idle = WasIdle n history worker desk
EndedAs n history worker gives_up faults faults' desk (Ended slot word fault) =
    HasEnded n history worker slot word.now fault desk × ((fault ≡ gives_up) ⊎ Rose faults faults')

-- The worker has no job, or its job ended so. This is the text.
pub data FinishedAs (n : ℕ) (history : List DeviceEvent) (worker : ℕ) (fault : Bool) (desk : Desk) : List ℕ → Type 0 where
  was_idle : job_of (after n history) worker ≡ None → IsDesk n history desk → FinishedAs n history worker fault desk idle_text
  ended :
      (slot : ℕ) (j : JobData) → job_of (after n history) worker ≡ Some slot
      → (device_step the_coder (after n history) (finish worker fault)).reply ≡ Told slot (Finished (finish_word the_coder j fault))
      → IsDesk n (history ++ finish worker fault ∷ []) desk → FinishedAs n history worker fault desk (finish_text slot (finish_word the_coder j fault))

-- the text was appended, and the job ended so; or it ended otherwise, which the engine counts
abbrev pub FinishesAs : Desk → ℕ → Bool → List ℕ → List ℕ → ℕ → ℕ → Desk → Bool → Type 0
FinishesAs old worker fault before now faults faults' new true =
    (n : ℕ) (history : List DeviceEvent) → IsDesk n history old → (text : List ℕ) × (now ≡ before ++ text) × FinishedAs n history worker fault new text
FinishesAs old worker fault before now faults faults' new false = Rose faults faults'
