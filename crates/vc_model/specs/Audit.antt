-- The audit of a report: whether it is what a device may print for a script, and which of its lines is the first that no device
-- prints there (docs/FORMAT.md, "Audit").
use Rattle.std.specs.Prelude.{ℕ, ◌≡◌, ◌<◌, ◌≤◌, ◌+◌, if◌then◌else◌, bytes_eq, codes, length, drop, Option, Some, None, List, [], ◌∷◌, ◌++◌}
use Rattle.vc_base.specs.Buffers.{is_empty}
use Rattle.vc_model.specs.Coder.{Coder}
use Rattle.vc_model.specs.Devices.{DeviceState, new_device, device_after}
use Rattle.vc_model.specs.Script.{ReplyText, Asked, line_events, line_text, lines_printed, printed_by, first_lines, split_lines, Prints, AreAsked, IsLineText}
use Rattle.vc_base.specs.Limits.{most_slots}

-- A report is right where a device of n slots may print it for the script.
abbrev pub IsRight : ReplyText → Coder → ℕ → List Asked → List ℕ → Type 0
IsRight t coder n lines report = Prints t coder n lines report

-- a right report that begins with the same m lines
pub record BeginsRight (t : ReplyText) (coder : Coder) (n : ℕ) (lines : List Asked) (report : List ℕ) (m : ℕ) : Type 0 where
  pub right : List ℕ
  pub is_right : IsRight t coder n lines right
  pub begins : first_lines right m ≡ first_lines report m

-- The first wrong line of a report, counted from 1: so many lines, and not fewer, are those of no right report. A last line
-- without a line feed is wrong. Where the report is only the beginning of a right one, the first wrong line is the first that it
-- lacks.
pub record IsFirstWrong (t : ReplyText) (coder : Coder) (n : ℕ) (lines : List Asked) (report : List ℕ) (line : ℕ) : Type 0 where
  pub wrong : BeginsRight t coder n lines report line → ⊥
  pub least : (m : ℕ) → m < line → BeginsRight t coder n lines report m

-- The replay

-- how many lines two texts begin with alike
abbrev pub same_lines : List (List ℕ) → List (List ℕ) → ℕ
same_lines [] others = 0
same_lines (line ∷ lines) [] = 0
same_lines (line ∷ lines) (other ∷ others) = if bytes_eq line other then 1 + same_lines lines others else 0

-- the first wrong line where the lines of the script are carried out one after another, as the report says of memory and of
-- faults; `at` is the number of the line of the report that comes next
abbrev pub wrong_from : ReplyText → Coder → DeviceState → List Asked → List ℕ → ℕ → Option ℕ
wrong_from t coder d [] report at = if is_empty report then None else Some at
wrong_from t coder d (asked ∷ rest) report at =
    let text = printed_by d asked report in
    let events = line_events t d asked text in
    let wanted = line_text t coder d asked events in
    if bytes_eq text wanted then wrong_from t coder (device_after coder d events) rest (drop (length text) report) (at + lines_printed d asked)
    else Some (at + same_lines (split_lines text) (split_lines wanted))

-- the first wrong line of a report, or none where it is right
abbrev pub first_wrong_line : ReplyText → Coder → ℕ → List Asked → List ℕ → Option ℕ
first_wrong_line t coder n lines report = wrong_from t coder (new_device n) lines report 1

-- the line between a script and a report
abbrev pub separator : List ℕ
separator = codes "====\n"

-- A script and what comes behind the first separating line, where there is one.
pub record AuditInput : Type 0 where
  pub script : List ℕ
  pub report : Option (List ℕ)

abbrev pub with_line : List ℕ → AuditInput → AuditInput
with_line line input = record input { script = line ++ input.script }

abbrev pub joined : List (List ℕ) → List ℕ
joined [] = []
joined (line ∷ lines) = line ++ joined lines

abbrev pub audit_lines : List (List ℕ) → AuditInput
audit_lines [] = record { script = []; report = None }
audit_lines (line ∷ lines) =
    if bytes_eq line separator then record { script = []; report = Some (joined lines) } else with_line line (audit_lines lines)

-- the input of an audit, cut at the separating line
abbrev pub audit_input : List ℕ → AuditInput
audit_input bytes = audit_lines (split_lines bytes)

-- Laws

-- The replay finds nothing exactly where the report is right.
pub record FindsRight (t : ReplyText) (coder : Coder) (n : ℕ) (lines : List Asked) (report : List ℕ) : Type 0 where
  pub right : first_wrong_line t coder n lines report ≡ None → IsRight t coder n lines report
  pub found : IsLineText t → n ≤ most_slots → AreAsked n lines → IsRight t coder n lines report → first_wrong_line t coder n lines report ≡ None

abbrev pub ReplayFindsRight : Type 0
ReplayFindsRight =
    (t : ReplyText) (coder : Coder) (n : ℕ) (lines : List Asked) (report : List ℕ) → FindsRight t coder n lines report

-- Where the replay finds a line, it is the first wrong one, and where a report has a first wrong line, the replay finds it.
pub record FindsFirst (t : ReplyText) (coder : Coder) (n : ℕ) (lines : List Asked) (report : List ℕ) (line : ℕ) : Type 0 where
  pub first : first_wrong_line t coder n lines report ≡ Some line → IsFirstWrong t coder n lines report line
  pub found : IsFirstWrong t coder n lines report line → first_wrong_line t coder n lines report ≡ Some line

abbrev pub ReplayFindsFirst : Type 0
ReplayFindsFirst =
    (t : ReplyText) (coder : Coder) (n : ℕ) (lines : List Asked) (report : List ℕ) (line : ℕ) → IsLineText t → n ≤ most_slots → AreAsked n lines → FindsFirst t coder n lines report line
