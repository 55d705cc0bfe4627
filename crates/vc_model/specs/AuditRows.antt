-- Worked audits: a script of one copying context with right and wrong reports, and the order of claims of two contexts.
use Rattle.std.specs.Prelude.{ℕ, ◌≡◌, ◌/◌, ◌%◌, false, codes, decimal, Option, Some, None, List, [], ◌∷◌, ◌++◌}
use Rattle.std.specs.Fmt.{digits, digit_glyph}
use Rattle.std.specs.List.{flat_map}
use Rattle.vc_base.specs.declared.Side.TheVariants.{Out, Cap}
use Rattle.vc_base.specs.declared.Kind.TheVariants.{Copy}
use Rattle.vc_base.specs.declared.Call.{Call}
use Rattle.vc_base.specs.declared.Call.TheVariants.{Open, ReqBufs, QBuf, DqBuf, StreamOn}
use Rattle.vc_base.specs.declared.Reply.{Reply}
use Rattle.vc_base.specs.declared.Reply.TheVariants.{Count, Taken, Refused, Blocked}
use Rattle.vc_base.specs.Errnos.{errno_name}
use Rattle.vc_model.specs.CoderRows.{listed_coder}
use Rattle.vc_model.specs.Rows.{stamp}
use Rattle.vc_model.specs.Script.{ReplyText, Asked, AsksCall, AsksRun}
use Rattle.vc_model.specs.Audit.{first_wrong_line, audit_input}

-- The texts of the calls of these rows.

abbrev pub row_verb : Call → List ℕ
row_verb (Open kind) = codes "open"
row_verb (ReqBufs side count) = codes "req"
row_verb (QBuf side index used stamp) = codes "q"
row_verb (StreamOn side) = codes "on"
row_verb request = codes "dq"

-- two hexadecimal digits a byte, or a dash for none and on OUTPUT
abbrev pub hex_text : List ℕ → List ℕ
hex_text bytes = flat_map (λ b. digit_glyph false (b / 16) ∷ digit_glyph false (b % 16) ∷ []) bytes

abbrev pub payload_text : Call → List ℕ → List ℕ
payload_text (DqBuf Cap block) [] = codes "-"
payload_text (DqBuf Cap block) (b ∷ bytes) = hex_text (b ∷ bytes)
payload_text request bytes = codes "-"

abbrev pub row_words : Call → Reply → List ℕ → List ℕ
row_words request (Count count) handed = codes "ok " ++ decimal count
row_words request (Taken index used flags seq stamp) handed =
    codes "ok "
    ++ (decimal index
    ++ (codes " " ++ (decimal used ++ (codes " " ++ (digits 16 false flags ++ (codes " " ++ (decimal seq ++ (codes " " ++ (decimal stamp.0 ++ (codes " " ++ payload_text request handed))))))))))
row_words request (Refused errno) handed = errno_name errno
row_words request Blocked handed = codes "blocked"
row_words request reply handed = codes "ok"

abbrev pub row_text : ReplyText
row_text slot request reply handed =
    decimal slot ++ (codes " " ++ (row_verb request ++ (codes " " ++ (row_words request reply handed ++ codes "\n"))))

-- the calls of a copying context up to the start of CAPTURE
abbrev pub copying_lines : ℕ → List ℕ → ℕ → ℕ → List Asked
copying_lines slot bytes used at =
    AsksCall slot (Open Copy) [] ∷ AsksCall slot (ReqBufs Out 1) [] ∷ AsksCall slot (ReqBufs Cap 1) []
    ∷ AsksCall slot (QBuf Out 0 used (stamp at)) bytes ∷ AsksCall slot (QBuf Cap 0 0 (stamp 0)) [] ∷ AsksCall slot (StreamOn Out) []
    ∷ AsksCall slot (StreamOn Cap) [] ∷ []

abbrev pub one_copy_lines : List Asked
one_copy_lines =
    copying_lines 0 (0 ∷ 255 ∷ []) 2 7 ++ (AsksRun 0 ∷ AsksCall 0 (DqBuf Cap false) [] ∷ AsksCall 0 (DqBuf Out false) [] ∷ [])

abbrev pub first_wrong : List Asked → List ℕ → Option ℕ
first_wrong lines report = first_wrong_line row_text (listed_coder [] []) 16 lines report

abbrev pub copying_report : List ℕ
copying_report = codes "0 open ok\n0 req ok 1\n0 req ok 1\n0 q ok\n0 q ok\n0 on ok\n0 on ok\n"

-- a right report
abbrev pub RightReport : Type 0
RightReport =
    first_wrong one_copy_lines (copying_report ++ codes "0 claim\n0 finish copied\n0 dq ok 0 2 0 0 7 00ff\n0 dq ok 0 2 0 0 7 -\n") ≡ None

-- another byte in the copy
abbrev pub WrongByte : Type 0
WrongByte =
    first_wrong one_copy_lines (copying_report ++ codes "0 claim\n0 finish copied\n0 dq ok 0 2 0 0 7 00fe\n0 dq ok 0 2 0 0 7 -\n") ≡ Some 10

-- the first four lines alone
abbrev pub CutReport : Type 0
CutReport = first_wrong one_copy_lines (codes "0 open ok\n0 req ok 1\n0 req ok 1\n0 q ok\n") ≡ Some 5

-- no memory for OUTPUT's buffers, and a buffer is queued nevertheless
abbrev pub NoMemoryThere : Type 0
NoMemoryThere =
    first_wrong one_copy_lines (codes "0 open ok\n0 req ENOMEM\n0 req ok 1\n0 q ok\n0 q ok\n0 on ok\n0 on ok\n0 claim\n0 finish copied\n0 dq ok 0 2 0 0 7 00ff\n0 dq ok 0 2 0 0 7 -\n") ≡ Some 4

-- a fault, and a good buffer nevertheless
abbrev pub FaultForgotten : Type 0
FaultForgotten =
    first_wrong one_copy_lines (copying_report ++ codes "0 claim\n0 finish fault\n0 dq ok 0 2 0 0 7 00ff\n0 dq ok 0 2 0 0 7 -\n") ≡ Some 10

-- a fault with its buffers
abbrev pub FaultReported : Type 0
FaultReported =
    first_wrong one_copy_lines (copying_report ++ codes "0 claim\n0 finish fault\n0 dq ok 0 0 40 0 7 -\n0 dq ok 0 2 40 0 7 -\n") ≡ None

-- a last line without a line feed
abbrev pub LastLineUnended : Type 0
LastLineUnended =
    first_wrong one_copy_lines (copying_report ++ codes "0 claim\n0 finish copied\n0 dq ok 0 2 0 0 7 00ff\n0 dq ok 0 2 0 0 7 -") ≡ Some 11

-- a line behind the last
abbrev pub OneLineMore : Type 0
OneLineMore =
    first_wrong one_copy_lines (copying_report ++ codes "0 claim\n0 finish copied\n0 dq ok 0 2 0 0 7 00ff\n0 dq ok 0 2 0 0 7 -\n0 poll\n") ≡ Some 12

-- two contexts, whose claims are told in the other order: the lines of each are right, and the report isn't
abbrev pub WrongOrder : Type 0
WrongOrder =
    first_wrong (copying_lines 0 (0 ∷ 255 ∷ []) 2 7 ++ (copying_lines 1 (161 ∷ []) 1 8 ++ (AsksRun 0 ∷ AsksRun 0 ∷ [])))
    (copying_report ++ codes "1 open ok\n1 req ok 1\n1 req ok 1\n1 q ok\n1 q ok\n1 on ok\n1 on ok\n1 claim\n1 finish copied\n0 claim\n0 finish copied\n")
    ≡ Some 15

-- the input of an audit
abbrev pub AuditIsCut : Type 0
AuditIsCut =
    (audit_input (codes "claim 0\n====\n- claim none\n====\n") ≡ record { script = codes "claim 0\n"; report = Some (codes "- claim none\n====\n") })
    × (audit_input (codes "claim 0\n====") ≡ record { script = codes "claim 0\n===="; report = None })
