-- How an audit ends.
use Rattle.std.specs.Prelude.{ℕ, ◌≡◌, ◌+◌, ◌<◌, ◌≤◌, ◌⊎◌, codes, decimal, length, List, ◌++◌, Option, Some, None, ⊤}
use Rattle.std.specs.Io.KnownBytes.{Appends, Consumes, IsAtEnd}
use Rattle.std.specs.Str.Lines.{lines}
use Rattle.vc_base.specs.Limits.{longest_script}
use Rattle.vc_io.specs.Written.{AppendsFront}
use Rattle.vc_model.specs.Script.{Asked}
use Rattle.vc_model.specs.Audit.{audit_input}
use Rattle.vc_desk.specs.Asking.{asks_lines}
use Rattle.vc_audit.specs.declared.verdict.Verdict.{Verdict}
use Rattle.vc_audit.specs.declared.verdict.Verdict.TheVariants.{Yes, No}
use Rattle.vc_audit.specs.Verdicts.{Judged, first_bad_line}
use Rattle.vc_top.specs.declared.status.Status.{Status}
use Rattle.vc_top.specs.declared.status.Status.TheVariants.{Fine, Usage, ReadFault, WriteFault, BadLine, Damaged, ShortRaw, EngineFault, TooLong, NotARun, NoMemory, BadMessage}
use Rattle.vc_top.specs.Ends.{ReadAtMost}

-- the most bytes of an audit's input
abbrev pub longest_audit : ℕ
longest_audit = 268435456

-- the script of an input, and its report, where the separating line is there
abbrev pub script_in : List ℕ → List ℕ
script_in input = (audit_input input).script

abbrev pub report_in : List ℕ → Option (List ℕ)
report_in input = (audit_input input).report

-- More bytes stand before the separating line, or before the end where there is none, than a script may have; or the input is
-- longer than the input of an audit may be.
abbrev pub IsLongAudit : List ℕ → Type 0
IsLongAudit input = (longest_script < length (script_in input)) ⊎ (longest_audit < length input)

-- the line that tells a verdict
abbrev pub verdict_line : Verdict → List ℕ
verdict_line Yes = codes "yes\n"
verdict_line (No line) = codes "no " ++ (decimal line ++ codes "\n")

-- the status of a verdict that was told
abbrev pub verdict_status : Verdict → Status
verdict_status Yes = Fine
verdict_status (No line) = NotARun line

-- The input has a report, and this is the right verdict on it.
pub record HasVerdict (slots : ℕ) (input : List ℕ) (verdict : Verdict) : Type 0 where
  pub fits : length (script_in input) ≤ longest_script
  pub report : List ℕ
  pub parted : report_in input ≡ Some report
  pub judged : Judged slots (script_in input) report verdict

-- A prefix of the verdict's line was written.
pub record VerdictCut (slots : ℕ) (input : List ℕ) (old new : Option (List ℕ)) : Type 0 where
  pub verdict : Verdict
  pub has : HasVerdict slots input verdict
  pub written : AppendsFront old new (verdict_line verdict)

-- the number of the first bad line of a script; where each line is in the grammar, and the separating line is missing, that of
-- the line behind the last
abbrev pub missing_line : Option (List ℕ) → List ℕ → Option ℕ
missing_line (Some report) script = None
missing_line None script = Some (length (lines script) + 1)

abbrev pub or_else : Option ℕ → Option ℕ → Option ℕ
or_else (Some n) other = Some n
or_else None other = other

abbrev pub bad_line_in : ℕ → List ℕ → Option ℕ
bad_line_in slots input = or_else (first_bad_line slots (script_in input)) (missing_line (report_in input) (script_in input))

-- what a script without a report comes to
abbrev pub LineIsMissing : ℕ → List ℕ → Status → Type 0
LineIsMissing slots script (BadLine line) =
    or_else (first_bad_line slots script) (missing_line None script) ≡ Some line
LineIsMissing slots script NoMemory = ⊤
LineIsMissing slots script status = ⊥

-- what the telling of a verdict comes to
abbrev pub VerdictTold : Verdict → Option (List ℕ) → Option (List ℕ) → Status → Type 0
VerdictTold verdict old new WriteFault = AppendsFront old new (verdict_line verdict)
VerdictTold verdict old new NoMemory = new ≡ old
VerdictTold verdict old new status = (status ≡ verdict_status verdict) × Appends old new (verdict_line verdict)

-- How the audit of an input that was read whole ends. Nothing is written but a verdict.
abbrev pub AuditTold : ℕ → List ℕ → Option (List ℕ) → Option (List ℕ) → Status → Type 0
AuditTold slots input old new Fine = HasVerdict slots input Yes × Appends old new (verdict_line Yes)
AuditTold slots input old new (NotARun line) =
    HasVerdict slots input (No line) × Appends old new (verdict_line (No line))
AuditTold slots input old new WriteFault = VerdictCut slots input old new
AuditTold slots input old new (BadLine line) =
    (length (script_in input) ≤ longest_script) × (bad_line_in slots input ≡ Some line) × (new ≡ old)
AuditTold slots input old new EngineFault =
    (length (script_in input) ≤ longest_script) × (bad_line_in slots input ≡ None) × (new ≡ old)
AuditTold slots input old new TooLong = (longest_script < length (script_in input)) × (new ≡ old)
AuditTold slots input old new NoMemory = new ≡ old
AuditTold slots input old new Usage = ⊥
AuditTold slots input old new ReadFault = ⊥
AuditTold slots input old new Damaged = ⊥
AuditTold slots input old new ShortRaw = ⊥
AuditTold slots input old new (BadMessage at) = ⊥

-- The input was read to its end and isn't longer than it may be, and the audit ended so.
pub record ReadAndTold (slots : ℕ) (input : List ℕ) (left old new : Option (List ℕ)) (status : Status) : Type 0 where
  pub read : IsAtEnd left
  pub short : length input ≤ longest_audit
  pub told : AuditTold slots input old new status

-- How an audit with this input ends. TooLong is the answer exactly where the script or the whole input is too long, but for a
-- failed read and for want of memory; of the input one byte more than it may have was read at most.
abbrev pub AuditEnds : ℕ → List ℕ → Option (List ℕ) → Option (List ℕ) → Option (List ℕ) → Status → Type 0
AuditEnds slots input left old new TooLong =
    ReadAtMost (longest_audit + 1) input left × IsLongAudit input × (new ≡ old)
AuditEnds slots input left old new ReadFault = ReadAtMost longest_audit input left × (new ≡ old)
AuditEnds slots input left old new NoMemory = ReadAtMost (longest_audit + 1) input left × (new ≡ old)
AuditEnds slots input left old new status = ReadAndTold slots input left old new status

-- An input that isn't too long, whose script has every line in the grammar, and which has a report.
pub record IsGoodAudit (slots : ℕ) (input : List ℕ) : Type 0 where
  pub short : IsLongAudit input → ⊥
  pub good : bad_line_in slots input ≡ None
