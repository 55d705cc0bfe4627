-- What an audit answers.
use Rattle.std.specs.Prelude.{ℕ, ◌≡◌, ◌+◌, if◌then◌else◌, is_none, Option, Some, None, List, [], ◌∷◌}
use Rattle.std.specs.Str.Lines.{lines}
use Rattle.vc_base.specs.Buffers.{is_empty}
use Rattle.vc_base.specs.Counts.{Rose}
use Rattle.vc_model.specs.Coder.{the_coder}
use Rattle.vc_model.specs.Script.{Asked}
use Rattle.vc_model.specs.Audit.{IsRight, IsFirstWrong}
use Rattle.vc_script.specs.declared.line.Line.{Line}
use Rattle.vc_script.specs.Lines.{line_of}
use Rattle.vc_script.specs.Texts.{reply_text}
use Rattle.vc_desk.specs.Asking.{asks_line, asks_lines}
use Rattle.vc_audit.specs.declared.verdict.Verdict.{Verdict}
use Rattle.vc_audit.specs.declared.verdict.Verdict.TheVariants.{Yes, No}
use Rattle.vc_audit.specs.declared.verdict.AuditFault.{AuditFault}
use Rattle.vc_audit.specs.declared.verdict.AuditFault.TheVariants.{BadLine, EngineFault, NoMemory}

-- the number of the first of these lines that isn't in the grammar, where the first of them has the number `at`
abbrev pub first_bad : ℕ → List (List ℕ) → ℕ → Option ℕ
first_bad slots [] at = None
first_bad slots (line ∷ rest) at = if is_none (asks_line slots line) then Some at else first_bad slots rest (at + 1)

-- the number of the first line of a script that isn't in the grammar, counted from 1; none where each line is
abbrev pub first_bad_line : ℕ → List ℕ → Option ℕ
first_bad_line slots script = first_bad slots (lines script) 1

-- the verdict is the right one on a report, where the lines of the script ask for this
abbrev pub IsVerdict : ℕ → List Asked → List ℕ → Verdict → Type 0
IsVerdict slots asked report Yes = IsRight reply_text the_coder slots asked report
IsVerdict slots asked report (No line) =
    (IsRight reply_text the_coder slots asked report → ⊥) × IsFirstWrong reply_text the_coder slots asked report line

-- Each line of the script is in the grammar, and the verdict is the right one.
pub record Judged (slots : ℕ) (script report : List ℕ) (verdict : Verdict) : Type 0 where
  pub asked : List Asked
  pub asks : asks_lines slots (lines script) ≡ Some asked
  pub is_verdict : IsVerdict slots asked report verdict

-- Why there is no verdict: this line of the script is the first that isn't in the grammar; or each line is, and the engine gave
-- up in this audit; or memory was lacking.
abbrev pub Unjudged : ℕ → List ℕ → ℕ → ℕ → AuditFault → Type 0
Unjudged slots script faults faults' (BadLine line) = first_bad_line slots script ≡ Some line
Unjudged slots script faults faults' EngineFault = (first_bad_line slots script ≡ None) × Rose faults faults'
Unjudged slots script faults faults' NoMemory = Unit {0}

-- Parts of an audit

-- the verdict after the last line of the script: nothing is to be left of the report
abbrev pub verdict_at_end : List ℕ → ℕ → Verdict
verdict_at_end left at = if is_empty left then Yes else No at

-- the line was read
abbrev pub LineRead : ℕ → List ℕ → Option Line → Type 0
LineRead slots line asked = line_of slots line ≡ Some asked

-- the line with this number wasn't read
abbrev pub LineUnread : ℕ → List ℕ → ℕ → AuditFault → Type 0
LineUnread slots line number (BadLine bad) = (line_of slots line ≡ None) × (bad ≡ number)
LineUnread slots line number EngineFault = ⊥
LineUnread slots line number NoMemory = Unit {0}

-- a bad line of these, or memory was lacking
abbrev pub BadFrom : ℕ → List (List ℕ) → ℕ → AuditFault → Type 0
BadFrom slots ls at (BadLine bad) = first_bad slots ls at ≡ Some bad
BadFrom slots ls at EngineFault = ⊥
BadFrom slots ls at NoMemory = Unit {0}
